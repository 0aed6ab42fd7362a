-- `is_summary` meets its contract: what is left to be compared answers for the whole.
use mathlib.Core.Path.{◌≡◌}
use Prim.Native.Nat.{◌-◌}
use lib.ListN.{take, drop}
use Rattle.util.specs.Word.{same}
use Rattle.store.specs.Build.{summary}
use Rattle.summary.proofs.Layers.{sound_ahead}
use Rattle.summary.proofs.is_summary.Given as goal

abbrev pub invariant-loop-i : goal.invariant-loop-i
invariant-loop-i l = sound_ahead l.up l.part l.i ≡ same (take l.up l.part) (summary (drop l.up l.part))

abbrev pub decreases-loop-i : goal.decreases-loop-i
decreases-loop-i l = l.up - l.i
