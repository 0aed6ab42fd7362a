-- The lowest layer with a mask, as a search meets it, and the prefix of a layer.
use mathlib.Core.List.{List}
use mathlib.Core.Logic.{◌≢◌}
use mathlib.Core.Path.{◌≡◌}
use Prim.Native.Nat.{ℕ, suc, ◌≤◌, ◌<◌}
use borrow.Author.Tests.{lt-ltb, le-ltb, eq-eqb, ne_eqb}
use lib.ListN.{get_or}
use Rattle.walk_masks.specs.Masks.{low_from, prefix_at}

-- an empty mask is passed, and the first other one is it
pub low_pass : (ms : List ℕ) (k n : ℕ) → get_or ms k 0 ≡ 0 → low_from ms k (suc n) ≡ low_from ms (suc k) n
unfolding low_from
low_pass ms k n e = rw (eq-eqb (get_or ms k 0) 0 e)

pub low_stop : (ms : List ℕ) (k n : ℕ) → get_or ms k 0 ≢ 0 → low_from ms k (suc n) ≡ k
unfolding low_from
low_stop ms k n e = rw (ne_eqb (get_or ms k 0) 0 e)

pub prefix_below : (t : ℕ) (ps : List ℕ) (k : ℕ) → k < t → prefix_at t ps k ≡ get_or ps k 0
unfolding prefix_at
prefix_below t ps k h = rw (lt-ltb k t h)

pub prefix_top : (t : ℕ) (ps : List ℕ) (k : ℕ) → t ≤ k → prefix_at t ps k ≡ 0
unfolding prefix_at
prefix_top t ps k h = rw (le-ltb k t h)
