-- The prefixes of a cursor that next hands back pass the test that it makes: so no later call of a walk is refused by 7. Over any layer
-- words.
use mathlib.Core.Bool.{Bool, true, false, cond}
use mathlib.Core.Path.{◌≡◌, refl}
use Prim.Native.Nat.{ℕ, zero, suc, ◌<◌}
use native.Mathlib.Omega.{arith}
use borrow.Author.Tests.{ltb-true}
use lib.Dec.{ltb}
use lib.ListN.{get_or}
use Rattle.walk.specs.Calls.{Fine}
use Rattle.walk.specs.Walk.{low_layer, kind_of, kind, place_at, handed, paused, more, by_kind, descend, next}
use Rattle.walk.specs.Walk.Kind.{reads, done}
use Rattle.walk.specs.declared.Cursor.{Cursor}
use Rattle.walk.specs.declared.Step.{Step}
use Rattle.walk.proofs.Cursors.{Low, low_found, fine_taken}
use Rattle.walk_laws.specs.Walks.{Bounded}
use Rattle.walk_laws.proofs.Taken.{Wf, bit_in, taken_wf}

module _ (lw : ℕ → ℕ → ℕ) (bounded : Bounded lw) (t : ℕ) where
  fine_by : (c : Cursor) → Fine t c.prefix → (f : ℕ → Step) → ((j : ℕ) → j < t → 0 < get_or c.masks (suc j) 0 → Fine t (f j).cursor.prefix)
      → Fine t (by_kind t c f (kind t c)).cursor.prefix
  unfolding handed
  fine_by c p f g = go (low_layer t c) (low_found c.masks 0 (suc t))
    where
      up : (j : ℕ) → Low c.masks 0 (suc t) (suc j) → (b : Bool) → ltb j t ≡ b → Fine t (by_kind t c f (cond b (reads j) done)).cursor.prefix
      up j l true e = let h : j < t = ltb-true j t e in g j h (l.found (omega arith))
      up j l false e = p

      go : (n : ℕ) → Low c.masks 0 (suc t) n → Fine t (by_kind t c f (kind_of t n)).cursor.prefix
      go zero l = p
      go (suc j) l = up j l (ltb j t) refl

  pub next_fine : (b : ℕ) (c : Cursor) → Wf t c → Fine t c.prefix → Fine t (next lw t b c).cursor.prefix
  unfolding next
  next_fine zero c wf f = fine_by c f (λ j. paused c) (λ j h pos. f)
  next_fine (suc b) c wf f = fine_by c f (λ j. more 1 (next lw t b (descend lw t j c)))
      (λ j h pos.
      let q = place_at t c (suc j) in
      next_fine b (descend lw t j c) (taken_wf t c j q (lw j q) wf h (bounded j q)) (fine_taken t c j (lw j q) f h (bit_in wf (suc j) pos)))
