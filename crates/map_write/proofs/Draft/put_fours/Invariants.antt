-- `put_fours` meets its contract.
use Rattle.std.proofs.Common.{take}
use Rattle.std.specs.List.{concat}
use Rattle.map_write.specs.Steps.{Entered}
use Rattle.map_write.proofs.Draft.put_fours.Given as goal

abbrev pub invariant-loop-k : goal.invariant-loop-k
invariant-loop-k l = Entered 0 (concat (take l.k l.fours)) l.fn.self l.self
