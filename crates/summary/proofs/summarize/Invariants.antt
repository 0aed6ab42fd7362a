-- `summary::summarize` meets its contract: what is left to be written gives the whole.
use Prim.Native.Nat.{◌-◌}
use Rattle.summary.proofs.Layers.{Written}
use Rattle.summary.proofs.summarize.Given as goal

abbrev pub invariant-loop-i : goal.invariant-loop-i
invariant-loop-i l = Written l.initial.part l.up l.part l.i

abbrev pub decreases-loop-i : goal.decreases-loop-i
decreases-loop-i l = l.up - l.i
