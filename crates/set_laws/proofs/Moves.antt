-- Adding and removing, once for both: where the climb ends, that soundness is kept, the bits of layer 0 and how many are set below any place.
use mathlib.Core.Bool.{Bool, true, false, cond}
use mathlib.Core.List.{List}
use mathlib.Core.Logic.{◌≢◌, ◌↔◌}
use mathlib.Core.Path.{◌≡◌, refl, sym, ap, ◌∙◌, subst}
use Prim.Native.Nat.{ℕ, zero, suc, ◌+◌, ◌/◌, ◌%◌, ◌≤◌, ◌<◌, min}
use native.Mathlib.Decide.{dec_lt, ℕ_discrete}
use native.Mathlib.Omega.{arith}
use lib.ListN.{length}
use Rattle.util.proofs.Bits.{set_some}
use Rattle.util.proofs.Places.{places_same, length_changed}
use Rattle.store.specs.Layout.{top, store_len}
use Rattle.store.specs.Word.{word, on, anc, count_below, Sound, SoundStore}
use Rattle.store.proofs.Members.{over_on}
use Rattle.store.proofs.Words.{on_lt}
use Rattle.set_edit.specs.Edit.{edits, add_layers, word_left, climb, remove_layers, layers_of, moved_by}
use Rattle.set_edit.proofs.Edits.{word-edits-same, word-edits_other, store_moved, words_moved}
use Rattle.set_edit.proofs.Moves.{add_none, add_all_lem, add_one_layer, remove_none, remove_some, climb_stop, climb-on, climb-top, climb_some}
use Rattle.set_laws.proofs.Bits.{on-edits-same, on-edits_other, sound_edits}

module _ (N : ℕ) (s : List ℕ) (i : ℕ) where
  -- it ends at the first word that keeps a bit, or at the top
  pub record Climbed (k d m : ℕ) : Type 0 where
    pub above : k < m
    pub most : m ≤ suc (k + d)
    pub empty : (j : ℕ) → k ≤ j → suc j < m → word_left N s i j ≡ 0
    pub kept : (j : ℕ) → suc j ≡ m → j < k + d → word_left N s i j ≢ 0

  pub climbed : (k d : ℕ) → Climbed k d (climb N s i k d)
  climbed k zero =
      subst (Climbed k 0) (sym (climb-top N s i k))
      (record { above = omega arith; most = omega arith; empty = λ j a b. absurd (omega arith); kept = λ j e l. absurd (omega arith) })
  climbed k (suc d) = go (climbed (suc k) d) (ℕ_discrete (word_left N s i k) 0)
    where
      go : Climbed (suc k) d (climb N s i (suc k) d) → Dec (word_left N s i k ≡ 0) → Climbed k (suc d) (climb N s i k (suc d))
      go r (no n) =
          subst (Climbed k (suc d)) (sym (climb_stop N s i k (suc d) n))
          (record {
            above = omega arith;
            most = omega arith;
            empty = λ j a b. absurd (omega arith);
            kept = λ j e l. (let q : j ≡ k = omega arith in subst (λ (x : ℕ). word_left N s i x ≢ 0) (sym q) n);
          })
      go r (yes e) =
          subst (Climbed k (suc d)) (sym (climb-on N s i k d e))
          (record {
            above = omega (arith, r.above);
            most = omega (arith, r.most);
            empty = λ j a b. first j a b (ℕ_discrete j k);
            kept = λ j q l. r.kept j q (omega arith);
          })
        where
          first : (j : ℕ) → k ≤ j → suc j < climb N s i (suc k) d → Dec (j ≡ k) → word_left N s i j ≡ 0
          first j a b (yes q) = ap (word_left N s i) q ∙ e
          first j a b (no n) = r.empty j (omega arith) b

-- ---- soundness is kept

module _ (N : ℕ) (s : List ℕ) (i : ℕ) (long : length s ≡ store_len N) (hi : i < N) (z : Sound N s) where
  sound_set : (m : ℕ) → 0 < m → m ≤ suc (top N) → ((k : ℕ) → suc k ≡ m → k < top N → word N s k (anc i k / 64) ≢ 0) → Sound N (edits true N s i m)
  unfolding anc
  sound_set m hz hm tip = sound_edits true N s i long hi m hm z (λ k h. way k h (dec_lt (suc k) m) (dec_lt k m))
    where
      some : (k : ℕ) → k < m → word N (edits true N s i m) k (anc i k / 64) ≢ 0
      some k l e = set_some (word N s k (anc i k / 64)) (anc i k % 64) (sym (word-edits-same true N s i long hi m k hm l) ∙ e)

      way : (k : ℕ) → k < top N → Dec (suc k < m) → Dec (k < m)
          → (on N (edits true N s i m) (suc k) (anc i (suc k)) ≡ 1) ↔ (word N (edits true N s i m) k (anc i (suc k)) ≢ 0)
      way k h (yes l) d = ((λ e. some k (omega arith)), λ e. on-edits-same true N s i long hi m (suc k) hm l)
      way k h (no n) (yes l) =
          ((λ e. some k l), λ e. on-edits_other true N s i long hi m (suc k) (anc i (suc k)) hm h (λ x. absurd (n x)) ∙ (z.layers.exact k (anc i (suc k)) h).1 (tip k (omega arith) h))
      way k h (no n) (no o) =
          rw (on-edits_other true N s i long hi m (suc k) (anc i (suc k)) hm h (λ x. absurd (n x)), word-edits_other true N s i long hi m k (anc i (suc k)) hm (omega arith) (λ x. absurd (o x)))
          (z.layers.exact k (anc i (suc k)) h)

  sound_add : Sound N (edits true N s i (add_layers N s i))
  unfolding edits anc
  sound_add = go (ℕ_discrete (on N s 0 i) 1) (ℕ_discrete (word N s 0 (i / 64)) 0)
    where
      go : Dec (on N s 0 i ≡ 1) → Dec (word N s 0 (i / 64) ≡ 0) → Sound N (edits true N s i (add_layers N s i))
      go (yes h) d = rw (add_none N s i h) z
      go (no h) (yes w) = rw (add_all_lem N s i h w) (sound_set (suc (top N)) (omega arith) (omega arith) (λ k e l. absurd (omega arith)))
      go (no h) (no w) = rw (add_one_layer N s i h w) (sound_set 1 (omega arith) (omega arith) tip)
        where
          tip : (k : ℕ) → suc k ≡ 1 → k < top N → word N s k (anc i k / 64) ≢ 0
          tip k e l = let q : k ≡ 0 = omega arith in subst (λ (x : ℕ). word N s x (anc i x / 64) ≢ 0) (sym q) w

  sound_clear : (m : ℕ) → on N s 0 i ≡ 1 → Climbed N s i 0 (top N) m → Sound N (edits false N s i m)
  unfolding anc word_left
  sound_clear m held c = sound_edits false N s i long hi m low z (λ k h. way k h (dec_lt (suc k) m) (dec_lt k m))
    where
      low : m ≤ suc (top N)
      low = omega (arith, c.most)

      left_is : (k : ℕ) → k < m → word N (edits false N s i m) k (anc i k / 64) ≡ word_left N s i k
      left_is k l = word-edits-same false N s i long hi m k low l

      way : (k : ℕ) → k < top N → Dec (suc k < m) → Dec (k < m)
          → (on N (edits false N s i m) (suc k) (anc i (suc k)) ≡ 1) ↔ (word N (edits false N s i m) k (anc i (suc k)) ≢ 0)
      way k h (yes l) d = (
        (λ e. absurd (omega (arith, on-edits-same false N s i long hi m (suc k) low l))),
        λ n. absurd (n (left_is k (omega arith) ∙ c.empty k (omega arith) l)),
      )
      way k h (no n) (yes l) = (
        (λ e w. c.kept k (omega arith) (omega arith) (sym (left_is k l) ∙ w)),
        λ e. on-edits_other false N s i long hi m (suc k) (anc i (suc k)) low h (λ x. absurd (n x)) ∙ over_on N s z (suc k) h i held,
      )
      way k h (no n) (no o) =
          rw (on-edits_other false N s i long hi m (suc k) (anc i (suc k)) low h (λ x. absurd (n x)), word-edits_other false N s i long hi m k (anc i (suc k)) low (omega arith) (λ x. absurd (o x)))
          (z.layers.exact k (anc i (suc k)) h)

  sound_remove : Sound N (edits false N s i (remove_layers N s i))
  unfolding edits
  sound_remove = go (ℕ_discrete (on N s 0 i) 1)
    where
      go : Dec (on N s 0 i ≡ 1) → Sound N (edits false N s i (remove_layers N s i))
      go (yes h) = rw (remove_some N s i h) (sound_clear (climb N s i 0 (top N)) h (climbed N s i 0 (top N)))
      go (no h) = rw (remove_none N s i h) z

  pub sound_moved : (b : Bool) → Sound N (moved_by b N s i)
  unfolding moved_by
  sound_moved true = sound_add
  sound_moved false = sound_remove

-- the same of the whole store
pub fine_moved : (b : Bool) {N : ℕ} {s : List ℕ} → SoundStore N s → (i : ℕ) → i < N → SoundStore N (moved_by b N s i)
fine_moved b {N} {s} f i h =
    record { is = store_moved b N s i f.is; words = words_moved b N s i f.words; sound = sound_moved N s i f.is.long h f.sound b }

-- ---- the bits of layer 0 afterwards, in any store: that of the id is as asked, and no other has changed

module _ (b : Bool) (N : ℕ) (s : List ℕ) (i : ℕ) (long : length s ≡ store_len N) (hi : i < N) where
  -- layers are written where the bit is not so already
  layers_few : layers_of b N s i ≤ suc (top N)
  layers_few = go b (ℕ_discrete (on N s 0 i) 1) (ℕ_discrete (word N s 0 (i / 64)) 0)
    where
      go : (x : Bool) → Dec (on N s 0 i ≡ 1) → Dec (word N s 0 (i / 64) ≡ 0) → layers_of x N s i ≤ suc (top N)
      go true (yes h) d = omega (arith, add_none N s i h)
      go true (no h) (yes w) = omega (arith, add_all_lem N s i h w)
      go true (no h) (no w) = omega (arith, add_one_layer N s i h w)
      go false (yes h) d = omega (arith, remove_some N s i h, (climbed N s i 0 (top N)).most)
      go false (no h) d = omega (arith, remove_none N s i h)

  none_is : layers_of b N s i ≡ 0 → on N s 0 i ≡ cond b 1 0
  none_is = go b (ℕ_discrete (on N s 0 i) 1) (ℕ_discrete (word N s 0 (i / 64)) 0)
    where
      go : (x : Bool) → Dec (on N s 0 i ≡ 1) → Dec (word N s 0 (i / 64) ≡ 0) → layers_of x N s i ≡ 0 → on N s 0 i ≡ cond x 1 0
      go true (yes h) d e = h
      go true (no h) (yes w) e = absurd (omega (arith, sym (add_all_lem N s i h w) ∙ e))
      go true (no h) (no w) e = absurd (omega (arith, sym (add_one_layer N s i h w) ∙ e))
      go false (yes h) d e = absurd (climb_some N s i 0 (top N) (sym (remove_some N s i h) ∙ e))
      go false (no h) d e = omega (arith, on_lt N s 0 i)

  pub on_moved_same : on N (moved_by b N s i) 0 i ≡ cond b 1 0
  unfolding moved_by anc edits
  on_moved_same = go (layers_of b N s i) refl
    where
      go : (m : ℕ) → layers_of b N s i ≡ m → on N (edits b N s i m) 0 i ≡ cond b 1 0
      go zero e = none_is e
      go (suc m) e = on-edits-same b N s i long hi (suc m) 0 (omega (arith, layers_few)) (omega arith)

  pub on_moved_other : (j : ℕ) → j ≢ i → on N (moved_by b N s i) 0 j ≡ on N s 0 j
  unfolding moved_by anc
  on_moved_other j n = on-edits_other b N s i long hi (layers_of b N s i) 0 j layers_few (omega arith) (λ l. n)

  -- HOW MANY are below a: at or before the id as many, and beyond it one more, or less, where its bit was not so already
  pub count_moved_before : (a : ℕ) → a ≤ i → count_below N (moved_by b N s i) a ≡ count_below N s a
  count_moved_before a h =
      ap length (places_same (on N (moved_by b N s i) 0) (on N s 0) 0 (min a N) (λ j l u. on_moved_other j (omega arith)))

  pub count_moved_beyond : (a : ℕ) → i < a → count_below N (moved_by b N s i) a + on N s 0 i ≡ count_below N s a + cond b 1 0
  count_moved_beyond a h =
      length_changed (on N s 0) (on N (moved_by b N s i) 0) i (on_lt N s 0) (on_lt N (moved_by b N s i) 0) (λ j n. sym (on_moved_other j n)) 0 (min a N)
      (omega arith) (omega arith)
      ∙ ap (λ (x : ℕ). count_below N s a + x) on_moved_same
