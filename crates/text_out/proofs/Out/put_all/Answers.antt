use Rattle.std.proofs.lemmas.List.{take_more}
use Rattle.text_out.proofs.Puts.{puts_none, puts-append}
use Rattle.text_out.proofs.Out.put_all.Goals as goal

pub loop-b-init : goal.loop-b-init
loop-b-init c = puts_none _

pub loop-b-preserved : goal.loop-b-preserved
loop-b-preserved c =
    rw (take_more c.args.bytes.now c.loop-b.b-index 0 c.loop-b-test.true) (puts-append c.loop-b.invariant c.put_byte.ensures)
