use Rattle.text_out.proofs.Puts.{puts-append}
use Rattle.text_out.proofs.Out.put_unknown.Goals as goal

pub returns : goal.returns
returns c = puts-append c.put_all.ensures (puts-append c.put_number.ensures c.put_byte.ensures)
