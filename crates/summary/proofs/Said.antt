-- What rebuilding leaves, and that the soundness check says yes exactly of sound stores.
use mathlib.Core.Bool.{true, ◌&&◌}
use mathlib.Core.List.{List}
use mathlib.Core.Logic.{◌↔◌}
use mathlib.Core.Path.{◌≡◌, sym, ap, ap₂, ◌∙◌}
use Prim.Native.Nat.{ℕ, ◌-◌, ◌/◌, ◌%◌, ◌^◌, ◌≤◌, ◌<◌}
use native.Mathlib.Decide.{dec_lt, ℕ_discrete}
use native.Mathlib.Omega.{arith}
use borrow.Author.Tests.{lt-ltb, ltb-true}
use lib.ListN.{length, get_or, get_or-eq_default}
use lib.Pow.{pow_pos}
use Rattle.util.specs.Outcome.{Outcome}
use Rattle.util.specs.Word.{bit, places, same}
use Rattle.util.proofs.Places.{places_same}
use Rattle.util.proofs.Same.{both, same_eq, same_refl}
use Rattle.store.specs.Answer.{does}
use Rattle.store.specs.Build.{build, layer0, Kept, room0}
use Rattle.store.specs.Layout.{cap, StoreOf, room, layer_len}
use Rattle.store.specs.Word.{on, members, Sound, Words64}
use Rattle.store.proofs.Build.{cap-build, layer0-build, length-build, on-build, sound_build, words-build, length-layer0, words-layer0, word-layer0, sound_built}
use Rattle.store.proofs.Geometry.{is_store_lem}
use Rattle.summary.specs.Calls.{rebuild_of, kept_of, sound_of}

-- ---- the words before the last have no place past N

module _ (N : ℕ) (ws : List ℕ) (some : 1 ≤ N) (long : length ws ≡ layer_len N 0) (small : Words64 ws) where
  kept_said : kept_of N ws ≡ true → Kept N ws
  unfolding kept_of room
  kept_said e q = go (ℕ_discrete q (length ws - 1)) (dec_lt q (length ws))
    where
      go : Dec (q ≡ length ws - 1) → Dec (q < length ws) → get_or ws q 0 < 2 ^ room0 N q
      go (yes p) d = rw p (ltb-true (get_or ws (length ws - 1) 0) (2 ^ room0 N (length ws - 1)) e)
      go (no p) (yes l) = let r : room0 N q ≡ 64 = omega (arith, long) in rw r (small q)
      go (no p) (no l) = rw (get_or-eq_default ws 0 {n = q} (omega arith)) (pow_pos (room0 N q))

  said_kept : Kept N ws → kept_of N ws ≡ true
  unfolding kept_of
  said_kept k = lt-ltb (get_or ws (length ws - 1) 0) (2 ^ room0 N (length ws - 1)) (k (length ws - 1))

-- ---- a store

module _ (s : List ℕ) (is : StoreOf (cap s) s) (small : Words64 s) where
  abbrev N : ℕ
  N = cap s

  abbrev ws : List ℕ
  ws = layer0 N s

  -- it is done, and the store is the one that layer 0 makes

  pub rebuild_does : rebuild_of s ≡ does (build (cap s) (layer0 (cap s) s))
  unfolding rebuild_of
  rebuild_does = rw (is_store_lem is)

  pub rebuilt : (rebuild_of s).lent ≡ build (cap s) (layer0 (cap s) s)
  rebuilt = ap (λ (o : Outcome (List ℕ)). o.lent) rebuild_does

  pub rebuild_words : Words64 (rebuild_of s).lent
  rebuild_words = rw rebuilt (words-build N ws (length-layer0 s is small) is.most (words-layer0 s is small))

  pub rebuild_cap : cap (rebuild_of s).lent ≡ cap s
  rebuild_cap = ap cap rebuilt ∙ cap-build N ws (length-layer0 s is small)

  pub rebuild_store : StoreOf (cap s) (rebuild_of s).lent
  rebuild_store =
      record {
        some = is.some;
        most = is.most;
        names = rebuild_cap;
        long = ap length rebuilt ∙ length-build N ws (length-layer0 s is small) is.some;
      }

  -- layer 0 is as it was, so the members are
  pub rebuild_layer0 : layer0 (cap s) (rebuild_of s).lent ≡ layer0 (cap s) s
  rebuild_layer0 = ap (layer0 N) rebuilt ∙ layer0-build N ws (length-layer0 s is small)

  same-on : (p : ℕ) → on N (build N ws) 0 p ≡ on N s 0 p
  unfolding on
  same-on p = on-build N ws (length-layer0 s is small) p ∙ ap (λ (w : ℕ). bit w (p % 64)) (word-layer0 s is small (p / 64))

  pub rebuild_members : members (rebuild_of s).lent ≡ members s
  unfolding members
  rebuild_members =
      ap₂ (λ (n : ℕ) (x : List ℕ). places (on n x 0) 0 n) rebuild_cap rebuilt
      ∙ places_same (on N (build N ws) 0) (on N s 0) 0 N (λ i l u. same-on i)

  -- it is sound if no bit stands at or past N
  pub rebuild_sound : Kept (cap s) (layer0 (cap s) s) → Sound (cap s) (rebuild_of s).lent
  rebuild_sound k = rw rebuilt (sound_build N ws (length-layer0 s is small) k)

  -- a sound store is left as it is
  pub rebuild_same : Sound (cap s) s → (rebuild_of s).lent ≡ s
  rebuild_same z = rebuilt ∙ sym ((sound_built s is small).0 z).0

  -- THE SOUNDNESS CHECK says yes exactly of sound stores
  pub sound_said : (sound_of (cap s) s ≡ true) ↔ Sound (cap s) s
  unfolding sound_of
  sound_said = (
    λ e.
        let b = both (same s (build N ws)) (kept_of N ws) e in
        (sound_built s is small).1 (same_eq s (build N ws) b.0, kept_said N ws is.some (length-layer0 s is small) (words-layer0 s is small) b.1),
    λ z.
        let b = (sound_built s is small).0 z in
        ap₂ ◌&&◌ (ap (same s) (sym b.0) ∙ same_refl s) (said_kept N ws is.some (length-layer0 s is small) (words-layer0 s is small) b.1),
  )
