-- `summary::raise` meets its contract: the layers up to `k` are as layer 0 asks.
use mathlib.Core.Path.{◌≡◌}
use Prim.Native.Nat.{◌-◌}
use Rattle.store.specs.Layout.{top}
use Rattle.summary.proofs.Layers.{Raised}
use Rattle.summary.proofs.raise.Given as goal

abbrev pub invariant-loop-k : goal.invariant-loop-k
invariant-loop-k l = (l.t ≡ top l.n) × Raised l.n l.initial.store l.store l.k

abbrev pub decreases-loop-k : goal.decreases-loop-k
decreases-loop-k l = l.t - l.k
