-- What setting or clearing the bits over an id does to every word of every layer, once for both and over the layer number.
use mathlib.Core.Bool.{Bool}
use mathlib.Core.List.{List}
use mathlib.Core.Logic.{◌≢◌}
use mathlib.Core.Path.{◌≡◌, refl, sym, ap, ◌∙◌}
use Prim.Native.Nat.{ℕ, zero, suc, ◌/◌, ◌%◌, ◌≤◌, ◌<◌}
use native.Mathlib.Decide.{ℕ_discrete}
use native.Mathlib.Omega.{arith}
use lib.ListN.{length, get_or}
use Rattle.util.specs.Word.{change}
use Rattle.util.proofs.Bits.{change_lt}
use Rattle.store.specs.Layout.{header, top, layer_len, store_len, cap, StoreOf}
use Rattle.store.specs.Word.{word, anc, put, Words64}
use Rattle.store.proofs.Geometry.{store_kept}
use Rattle.store.proofs.Words.{word_lt, words-put, place_in, anc_in, length-put, header-put, word-put-same, word-put_other}
use Rattle.set_edit.specs.Edit.{edit, edits, layers_of, moved_by}

module _ (b : Bool) (N : ℕ) (s : List ℕ) (i : ℕ) where
  pub length-edits : (m : ℕ) → length (edits b N s i m) ≡ length s
  unfolding edits edit
  length-edits zero = refl
  length-edits (suc m) = length-put N (edits b N s i m) m (anc i m / 64) (change b (word N (edits b N s i m) m (anc i m / 64)) (anc i m % 64)) ∙ length-edits m

  pub header-edits : (m x : ℕ) → x < header → get_or (edits b N s i m) x 0 ≡ get_or s x 0
  unfolding edits edit
  header-edits zero x h = refl
  header-edits (suc m) x h =
      header-put N (edits b N s i m) m (anc i m / 64) (change b (word N (edits b N s i m) m (anc i m / 64)) (anc i m % 64)) x h ∙ header-edits m x h

  pub cap-edits : (m : ℕ) → cap (edits b N s i m) ≡ cap s
  cap-edits m = header-edits m 0 (omega arith)

  module _ (long : length s ≡ store_len N) (hi : i < N) where
    word_in_layer : (k : ℕ) → anc i k / 64 < layer_len N k
    word_in_layer k = place_in N k (anc i k) (anc_in N i k hi)

    -- a word that does not stand over i, or in a layer not written, is as before
    pub word-edits_other : (m k q : ℕ) → m ≤ suc (top N) → k ≤ top N → (k < m → q ≢ anc i k / 64) → word N (edits b N s i m) k q ≡ word N s k q
    unfolding edits edit
    word-edits_other zero k q hm hk ne = refl
    word-edits_other (suc m) k q hm hk ne =
        word-put_other N (edits b N s i m) (length-edits m ∙ long) m (anc i m / 64) (change b (word N (edits b N s i m) m (anc i m / 64)) (anc i m % 64))
        (omega arith) (word_in_layer m) k q hk (λ e x. ne (omega arith) (x ∙ ap (λ (t : ℕ). anc i t / 64) (sym e)))
        ∙ word-edits_other m k q (omega arith) hk (λ l. ne (omega arith))

    -- the word over i has its bit changed
    pub word-edits-same : (m k : ℕ) → m ≤ suc (top N) → k < m → word N (edits b N s i m) k (anc i k / 64) ≡ change b (word N s k (anc i k / 64)) (anc i k % 64)
    unfolding edits edit
    word-edits-same zero k hm hk = absurd (omega arith)
    word-edits-same (suc m) k hm hk = go (λ l. word-edits-same m k (omega arith) l) (ℕ_discrete k m)
      where
        w : ℕ
        w = change b (word N (edits b N s i m) m (anc i m / 64)) (anc i m % 64)

        go : (k < m → word N (edits b N s i m) k (anc i k / 64) ≡ change b (word N s k (anc i k / 64)) (anc i k % 64)) → Dec (k ≡ m)
            → word N (put N (edits b N s i m) m (anc i m / 64) (change b (word N (edits b N s i m) m (anc i m / 64)) (anc i m % 64))) k (anc i k / 64)
            ≡ change b (word N s k (anc i k / 64)) (anc i k % 64)
        go rest (yes e) =
            ap (λ (t : ℕ). word N (put N (edits b N s i m) m (anc i m / 64) w) t (anc i t / 64)) e
            ∙ word-put-same N (edits b N s i m) (length-edits m ∙ long) m (anc i m / 64) w (omega arith) (word_in_layer m)
            ∙ ap (λ (x : ℕ). change b x (anc i m % 64)) (word-edits_other m m (anc i m / 64) (omega arith) (omega arith) (λ l. absurd (omega arith)))
            ∙ sym (ap (λ (t : ℕ). change b (word N s t (anc i t / 64)) (anc i t % 64)) e)
        go rest (no n) =
            word-put_other N (edits b N s i m) (length-edits m ∙ long) m (anc i m / 64) w (omega arith) (word_in_layer m) k (anc i k / 64) (omega arith) (λ e x. n e)
            ∙ rest (omega arith)

-- ---- the store that adding, or removing, leaves

module _ (b : Bool) (N : ℕ) (s : List ℕ) (i : ℕ) where
  pub length_moved : length (moved_by b N s i) ≡ length s
  unfolding moved_by
  length_moved = length-edits b N s i (layers_of b N s i)

  pub cap_moved : cap (moved_by b N s i) ≡ cap s
  unfolding moved_by
  cap_moved = cap-edits b N s i (layers_of b N s i)

  pub store_moved : {M : ℕ} → StoreOf M s → StoreOf M (moved_by b N s i)
  store_moved z = store_kept z length_moved cap_moved

  words-edits : (m : ℕ) → Words64 s → Words64 (edits b N s i m)
  unfolding edits edit
  words-edits zero small = small
  words-edits (suc m) small =
      let t = edits b N s i m in
      let k = words-edits m small in
      words-put N t k m (anc i m / 64) _ (change_lt b (word N t m (anc i m / 64)) (anc i m % 64) (omega arith) (word_lt N t k m (anc i m / 64)))

  pub words_moved : Words64 s → Words64 (moved_by b N s i)
  unfolding moved_by
  words_moved = words-edits (layers_of b N s i)
