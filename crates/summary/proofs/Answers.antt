-- Each answer that rebuilding and the soundness check give is the definition's.
use mathlib.Core.Bool.{Bool, false}
use mathlib.Core.List.{List}
use mathlib.Core.Path.{◌≡◌}
use Prim.Native.Nat.{ℕ}
use Rattle.util.specs.Outcome.{Settled, settled}
use Rattle.store.specs.Answer.{did_paper, asked_paper}
use Rattle.store.specs.Build.{build, layer0}
use Rattle.store.specs.Layout.{is_store, StoreOf}
use Rattle.store.specs.declared.Refusal.TheVariants.{NoStore}
use Rattle.std.specs.Prelude.{Ok, Err}
use Rattle.store.proofs.Geometry.{is_store_lem}
use Rattle.summary.specs.Calls.{rebuild_of, sound_of, is_sound_of}

-- ---- no store

pub rebuild_2 : (s : List ℕ) → is_store s ≡ false → Settled did_paper (rebuild_of s) (Err NoStore) s
unfolding rebuild_of
rebuild_2 s h = settled (rw h)

pub is_sound_2 : (s : List ℕ) → is_store s ≡ false → Settled asked_paper (is_sound_of s) (Err NoStore) tt
unfolding is_sound_of
is_sound_2 s h = settled (rw h)

-- ---- a store

module _ {N : ℕ} {s : List ℕ} (z : StoreOf N s) where
  pub rebuild_done : {t : List ℕ} → t ≡ build N (layer0 N s) → Settled did_paper (rebuild_of s) (Ok tt) t
  unfolding rebuild_of
  rebuild_done e = settled (rw (is_store_lem z, z.names, ← e))

  pub is_sound_is : (r : Bool) → r ≡ sound_of N s → Settled asked_paper (is_sound_of s) (Ok r) tt
  unfolding is_sound_of
  is_sound_is r e = settled (rw (is_store_lem z, z.names, ← e))
