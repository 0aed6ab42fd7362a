-- `place` meets its contract.
use Rattle.std.proofs.Common.{◌≡◌, take}
use Rattle.map_read.specs.Steps.{filled}
use Rattle.map_read.proofs.place.Given as goal

abbrev pub invariant-loop-entry : goal.invariant-loop-entry
invariant-loop-entry l = l.layer ≡ filled l.initial.layer (take l.entry-index l.entries)
