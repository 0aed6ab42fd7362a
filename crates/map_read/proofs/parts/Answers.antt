-- `parts` meets its contract.
use Rattle.std.proofs.Common.{length, ap, ◌∙◌}
use Rattle.std.proofs.lemmas.Result.{MatchResult-at_ok}
use Rattle.map_format.specs.Bytes.{num}
use Rattle.map_format.proofs.Numbers.{number_8}
use Rattle.map_read.proofs.parts.Goals as goal

pub returns-clause-word : goal.returns-clause-word
returns-clause-word c =
    let w = MatchResult-at_ok _ _ c.unwrap.result c.unwrap.ensures c.try_into.ensures.1 in
    c.from_le_bytes-word.ensures ∙ number_8 c.unwrap.result (ap length w.same ∙ w.long) ∙ ap num w.same
