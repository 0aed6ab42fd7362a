-- `put_all` meets its contract.
use Rattle.std.proofs.Common.{take}
use Rattle.map_write.specs.Steps.{Entered}
use Rattle.map_write.proofs.Draft.put_all.Given as goal

abbrev pub invariant-loop-i : goal.invariant-loop-i
invariant-loop-i l = Entered l.q (take l.i l.words) l.fn.self l.self
