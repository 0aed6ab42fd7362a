-- Words and bits of layers, over the layer number, and what writing one word does to all of them.
use Rattle.std.proofs.Common.{◌≡◌, ℕ, zero, suc, ◌+◌, ◌*◌, ◌/◌, ◌%◌, ◌^◌, ◌<◌, ◌≤◌, ◌≢◌, List, length, get_or, drop, set, sym, ap, ◌∙◌, ap₂, pow-suc, div-one, arith, length-set, length-take, get_or-drop, get_or-set_other, get_or-take, get_or-set_same, shr-shr}
use native.Mathlib.Decide.{dec_lt, ℕ_discrete}
use native.Mathlib.Nat.{div-div-eq-div-mul}
use lib.Bits.{bit_and}
use lib.ListN.{get_or-eq_default}
use lib.Seq.{set_out}
use Rattle.util.specs.Word.{bit}
use Rattle.util.proofs.Bits.{bit_lt, bit_of_zero, test_on, test_off}
use Rattle.store.specs.Layout.{header, top, room, layer_len, layer_start, store_len}
use Rattle.store.specs.Word.{layer_at, word, on, anc, put, Words64}
use Rattle.store.proofs.Geometry.{end_step, after-header, within, same_place}

-- ---- words

pub word_in : (N : ℕ) (s : List ℕ) (k i : ℕ) → i < layer_len N k → word N s k i ≡ get_or s (layer_start N k + i) 0
unfolding word
word_in N s k i h = get_or-take (layer_len N k) (drop (layer_start N k) s) i 0 h ∙ get_or-drop (layer_start N k) s i 0

pub word_out : (N : ℕ) (s : List ℕ) (k i : ℕ) → layer_len N k ≤ i → word N s k i ≡ 0
unfolding word
word_out N s k i h = get_or-eq_default (layer_at N s k) 0 (omega (arith, length-take (layer_len N k) (drop (layer_start N k) s)))

pub word_lt : (N : ℕ) (s : List ℕ) → Words64 s → (k i : ℕ) → word N s k i < 2 ^ 64
word_lt N s small k i = go (dec_lt i (layer_len N k))
  where
    go : Dec (i < layer_len N k) → word N s k i < 2 ^ 64
    go (yes h) = rw (word_in N s k i h) (small (layer_start N k + i))
    go (no h) = omega (arith, word_out N s k i (omega arith))

-- a word written leaves words
pub words-put : (N : ℕ) (s : List ℕ) → Words64 s → (k q w : ℕ) → w < 2 ^ 64 → Words64 (put N s k q w)
unfolding put
words-put N s small k q w h y = go (ℕ_discrete y x) (dec_lt x (length s))
  where
    x : ℕ
    x = layer_start N k + q

    go : Dec (y ≡ x) → Dec (x < length s) → get_or (set s x w) y 0 < 2 ^ 64
    go (no n) d = rw (get_or-set_other s x y w 0 n) (small y)
    go (yes e) (yes l) = rw (e, get_or-set_same s x w 0 l) h
    go (yes e) (no l) = rw (set_out s x w (omega arith)) (small y)

-- ---- bits

pub on_lt : (N : ℕ) (s : List ℕ) (k p : ℕ) → on N s k p < 2
unfolding on
on_lt N s k p = bit_lt (word N s k (p / 64)) (p % 64)

-- bits that are set together are equal
pub on_same : (N : ℕ) (s t : List ℕ) (k p : ℕ) → (on N s k p ≡ 1 → on N t k p ≡ 1) → (on N t k p ≡ 1 → on N s k p ≡ 1) → on N s k p ≡ on N t k p
on_same N s t k p st ts = go (ℕ_discrete (on N s k p) 1) (ℕ_discrete (on N t k p) 1)
  where
    go : Dec (on N s k p ≡ 1) → Dec (on N t k p ≡ 1) → on N s k p ≡ on N t k p
    go (yes a) d = a ∙ sym (st a)
    go (no a) (yes b) = absurd (a (ts b))
    go (no a) (no b) = omega (arith, on_lt N s k p, on_lt N t k p)

-- bit b of word q is the bit at place 64 q + b
pub bit-place : (N : ℕ) (s : List ℕ) (k q b : ℕ) → b < 64 → bit (word N s k q) b ≡ on N s k (64 * q + b)
unfolding on
bit-place N s k q b h =
    let d : (64 * q + b) / 64 ≡ q = omega arith in
    let m : (64 * q + b) % 64 ≡ b = omega arith in
    sym (ap₂ (λ (x y : ℕ). bit (word N s k x) y) d m)

-- a word with a bit on is not 0
pub on_word : (N : ℕ) (s : List ℕ) (k p : ℕ) → on N s k p ≡ 1 → word N s k (p / 64) ≢ 0
unfolding on
on_word N s k p h e = omega (arith, sym h ∙ ap (λ (w : ℕ). bit w (p % 64)) e ∙ bit_of_zero (p % 64))

-- a place of layer k has its word in the layer
pub place_in : (N k p : ℕ) → p < room N k → p / 64 < layer_len N k
unfolding room
place_in N k p h = omega arith

-- the code's test of a bit
pub held : (N : ℕ) (s : List ℕ) (k p : ℕ) → p < room N k → bit_and (get_or s (layer_start N k + p / 64) 0) (2 ^ (p % 64)) ≢ 0 → on N s k p ≡ 1
unfolding on
held N s k p h n =
    ap (λ (w : ℕ). bit w (p % 64)) (word_in N s k (p / 64) (place_in N k p h)) ∙ test_on (get_or s (layer_start N k + p / 64) 0) (p % 64) n

pub free : (N : ℕ) (s : List ℕ) (k p : ℕ) → p < room N k → bit_and (get_or s (layer_start N k + p / 64) 0) (2 ^ (p % 64)) ≡ 0 → on N s k p ≡ 0
unfolding on
free N s k p h e =
    ap (λ (w : ℕ). bit w (p % 64)) (word_in N s k (p / 64) (place_in N k p h)) ∙ test_off (get_or s (layer_start N k + p / 64) 0) (p % 64) e

-- ---- the place over an id

pub anc_in : (N i k : ℕ) → i < N → anc i k < room N k
unfolding anc room
anc_in N i zero h = h
anc_in N i (suc k) h = place_in N k (anc i k) (anc_in N i k h)

-- "bit (i/64) mod 64 of layer-1 word i/4,096; .." as one division
pub anc_closed : (i k : ℕ) → anc i k ≡ i / 64 ^ k
unfolding anc
anc_closed i zero = sym (div-one i)
anc_closed i (suc k) =
    ap (λ (x : ℕ). x / 64) (anc_closed i k) ∙ div-div-eq-div-mul i (64 ^ k) 64 ∙ ap (λ (x : ℕ). i / x) (sym (pow-suc 64 k))

-- the same by the crate's shifts: 6 bits a layer
pub anc_shift : (i k : ℕ) → anc i k ≡ i / 2 ^ (6 * k)
unfolding anc
anc_shift i zero = sym (div-one i)
anc_shift i (suc k) =
    let e : 6 * k + 6 ≡ 6 * suc k = omega arith in
    ap (λ (x : ℕ). x / 64) (anc_shift i k) ∙ shr-shr i (6 * k) 6 ∙ ap (λ (x : ℕ). i / 2 ^ x) e

-- ---- one word written

pub length-put : (N : ℕ) (s : List ℕ) (k i w : ℕ) → length (put N s k i w) ≡ length s
unfolding put
length-put N s k i w = length-set s (layer_start N k + i) w

pub header-put : (N : ℕ) (s : List ℕ) (k i w x : ℕ) → x < header → get_or (put N s k i w) x 0 ≡ get_or s x 0
unfolding put
header-put N s k i w x h = get_or-set_other s (layer_start N k + i) x w 0 (λ e. omega (arith, after-header N (suc k)))

module _ (N : ℕ) (s : List ℕ) (long : length s ≡ store_len N) (k i w : ℕ) (hk : k ≤ top N) (hi : i < layer_len N k) where
  pub word-put-same : word N (put N s k i w) k i ≡ w
  unfolding put
  word-put-same =
      word_in N (put N s k i w) k i hi
      ∙ get_or-set_same s (layer_start N k + i) w 0 (omega (arith, within N k, end_step N k hk))

  pub word-put_other : (j q : ℕ) → j ≤ top N → (j ≡ k → q ≡ i → ⊥) → word N (put N s k i w) j q ≡ word N s j q
  unfolding put
  word-put_other j q hj ne = go (dec_lt q (layer_len N j))
    where
      go : Dec (q < layer_len N j) → word N (put N s k i w) j q ≡ word N s j q
      go (yes l) =
          word_in N (put N s k i w) j q l
          ∙ get_or-set_other s (layer_start N k + i) (layer_start N j + q) w 0
          (λ e. let h = same_place N j k q i hj hk l hi e in ne h.0 h.1)
          ∙ sym (word_in N s j q l)
      go (no n) =
          let h : layer_len N j ≤ q = omega arith in
          word_out N (put N s k i w) j q h ∙ sym (word_out N s j q h)

  -- bits of the word written
  pub on-put-same : (p : ℕ) → p / 64 ≡ i → on N (put N s k i w) k p ≡ bit w (p % 64)
  unfolding on
  on-put-same p e = ap (λ (x : ℕ). bit x (p % 64)) (ap (word N (put N s k i w) k) e ∙ word-put-same)
