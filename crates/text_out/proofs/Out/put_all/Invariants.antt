-- What the bytes so far leave.
use Rattle.std.proofs.Common.{take}
use Rattle.text_out.specs.Out.{Puts}
use Rattle.text_out.proofs.Out.put_all.Given as goal

abbrev pub invariant-loop-b : goal.invariant-loop-b
invariant-loop-b l = Puts l.initial.self l.self (take l.b-index l.fn.bytes)
