-- What `io::decimal` spells is the spelling.
use Rattle.std.proofs.Common.{rules}
use Rattle.text_out.proofs.Spelling.{spells}
use Rattle.text_out.proofs.Out.put_number.Goals as goal

pub returns : goal.returns
returns c =
    let d = c.decimal-k.ensures in
    rw (d.digits, spells 19 _ _ (search rules) d.len) at c.put_all.ensures
