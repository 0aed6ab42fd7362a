-- The layer words of any formula, by one induction over its tree: they are words; a summary bit that is off stands over a word that is 0;
-- no bit of layer 0 is on at or past N. A union's summary bit that is on stands over a word that is not 0; an intersection has no bit that
-- a side lacks.
use mathlib.Core.List.{List}
use mathlib.Core.Path.{◌≡◌, sym, ap, ap₂, ◌∙◌}
use Prim.Native.Nat.{ℕ, zero, suc, ◌/◌, ◌%◌, ◌^◌, ◌≤◌, ◌<◌, min, max}
use native.Mathlib.Decide.{ℕ_discrete}
use native.Mathlib.Omega.{arith}
use lib.Bits.{bit_and, bit_or, bit_xor, differ, and_zero_l, and_zero_r, or_zero_l, xor_zero_l, and_le_l, and_le_r, or_lt, xor_lt, or_add_and}
use Rattle.util.specs.Word.{bit, flip}
use Rattle.util.proofs.Bits.{bit_lt, bit-bit_and, bit-bit_or, bit-bit_xor}
use Rattle.store.specs.Layout.{top, room}
use Rattle.store.specs.Word.{word, on, Sound}
use Rattle.ops_word.specs.Op.{op_word}
use Rattle.walk_laws.specs.Walks.{Bounded, on_at, Clear, Full, InsideOf}
use Rattle.walk_laws.proofs.Store.{sound_clear, sound_full, sound_past}
use Rattle.formula_codes.specs.Tree.{Tree, existing, xor_in, joined, not_in, value, nth, tree_word}
use Rattle.formula_codes.specs.Tree.Tree.{store, both, either, one_of, inverse, every}
use Rattle.formula_laws.specs.Sides.{Union}
use Rattle.formula_laws.proofs.Cuts.{cut_lt, cut_past, cut_under}

module _ (N : ℕ) (ss : List (List ℕ)) where
  abbrev lw : Tree → ℕ → ℕ → ℕ
  lw = tree_word N ss

  -- EVERY LAYER WORD of a formula over slices of words is a word.
  pub tree_bounded : ((c k i : ℕ) → word N (nth ss c) k i < 2 ^ 64) → (e : Tree) → Bounded (lw e)
  unfolding tree_word value joined xor_in op_word not_in
  tree_bounded w (store c) k i = w c k i
  tree_bounded w (both a b) k i = omega (arith, and_le_l (lw a k i) (lw b k i), tree_bounded w a k i)
  tree_bounded w (either a b) k i = or_lt 64 (lw a k i) (lw b k i) (tree_bounded w a k i) (tree_bounded w b k i)
  tree_bounded w (one_of a b) zero i = xor_lt 64 (lw a 0 i) (lw b 0 i) (tree_bounded w a 0 i) (tree_bounded w b 0 i)
  tree_bounded w (one_of a b) (suc k) i = or_lt 64 (lw a (suc k) i) (lw b (suc k) i) (tree_bounded w a (suc k) i) (tree_bounded w b (suc k) i)
  tree_bounded w (inverse a) zero i = omega (arith, and_le_l (existing (room N 0) i) (flip (lw a 0 i)), cut_lt (room N 0) i)
  tree_bounded w (inverse a) (suc k) i = cut_lt (room N (suc k)) i
  tree_bounded w every k i = cut_lt (room N k) i

  -- AN INTERSECTION has the bits that both sides have, and so none that a side lacks, in any layer, whatever the slices are.
  pub both_bits : (f g : Tree) (k p : ℕ) → on_at (lw (both f g)) k p ≡ min (on_at (lw f) k p) (on_at (lw g) k p)
  unfolding tree_word value joined op_word on_at
  both_bits f g k p = bit-bit_and (lw f k (p / 64)) (lw g k (p / 64)) (p % 64)

  pub both_left : (f g : Tree) (t : ℕ) → InsideOf (lw (both f g)) (lw f) t
  unfolding tree_word value joined op_word
  both_left f g t k p i h l = omega (arith, bit-bit_and (lw f k p) (lw g k p) i)

  pub both_right : (f g : Tree) (t : ℕ) → InsideOf (lw (both f g)) (lw g) t
  unfolding tree_word value joined op_word
  both_right f g t k p i h l = omega (arith, bit-bit_and (lw f k p) (lw g k p) i)

-- ---- over sound stores

xor_none : (k a b : ℕ) → a ≡ 0 → b ≡ 0 → joined 18 k a b ≡ 0
unfolding joined xor_in op_word
xor_none zero a b e f = ap₂ bit_xor e f ∙ xor_zero_l 0
xor_none (suc k) a b e f = ap₂ bit_or e f ∙ or_zero_l 0

not_none : (k cut a : ℕ) → cut ≡ 0 → not_in k cut a ≡ 0
unfolding not_in
not_none zero cut a e = ap (λ (x : ℕ). bit_and x (flip a)) e ∙ and_zero_l (flip a)
not_none (suc k) cut a e = e

module _ (N : ℕ) (ss : List (List ℕ)) (z : (c : ℕ) → Sound N (nth ss c)) where
  -- THE COVERING LAW: a summary bit that is off stands over a word that is 0, and so over no member.
  pub tree_clear : (e : Tree) → Clear (tree_word N ss e) (top N)
  unfolding tree_word value joined xor_in op_word not_in on_at bit
  tree_clear (store c) k p h e = sound_clear N (nth ss c) (z c) k p h e
  tree_clear (both a b) k p h e =
      go (ℕ_discrete (bit (lw N ss a (suc k) (p / 64)) (p % 64)) 0)
      (sym (bit-bit_and (lw N ss a (suc k) (p / 64)) (lw N ss b (suc k) (p / 64)) (p % 64)) ∙ e) (tree_clear a k p h) (tree_clear b k p h)
    where
      go : {x y v w : ℕ} → Dec (x ≡ 0) → min x y ≡ 0 → (x ≡ 0 → v ≡ 0) → (y ≡ 0 → w ≡ 0) → bit_and v w ≡ 0
      go {v = v} {w = w} (yes q) m f g = ap (λ (u : ℕ). bit_and u w) (f q) ∙ and_zero_l w
      go {v = v} (no q) m f g = ap (bit_and v) (g (omega arith)) ∙ and_zero_r v
  tree_clear (either a b) k p h e =
      let m = sym (bit-bit_or (lw N ss a (suc k) (p / 64)) (lw N ss b (suc k) (p / 64)) (p % 64)) ∙ e in
      ap₂ bit_or (tree_clear a k p h (omega (arith, m))) (tree_clear b k p h (omega (arith, m))) ∙ or_zero_l 0
  tree_clear (one_of a b) k p h e =
      let m = sym (bit-bit_or (lw N ss a (suc k) (p / 64)) (lw N ss b (suc k) (p / 64)) (p % 64)) ∙ e in
      xor_none k (lw N ss a k p) (lw N ss b k p) (tree_clear a k p h (omega (arith, m))) (tree_clear b k p h (omega (arith, m)))
  tree_clear (inverse a) k p h e = not_none k (existing (room N k) p) (lw N ss a k p) (cut_under N k p e)
  tree_clear every k p h e = cut_under N k p e

  -- no bit of layer 0 at or past N
  pub tree_past : (e : Tree) (i : ℕ) → N ≤ i → on_at (tree_word N ss e) 0 i ≡ 0
  unfolding tree_word value joined xor_in op_word not_in on_at on room bit
  tree_past (store c) i h = sound_past N (nth ss c) (z c) i h
  tree_past (both a b) i h = bit-bit_and (lw N ss a 0 (i / 64)) (lw N ss b 0 (i / 64)) (i % 64) ∙ omega (arith, tree_past a i h)
  tree_past (either a b) i h = bit-bit_or (lw N ss a 0 (i / 64)) (lw N ss b 0 (i / 64)) (i % 64) ∙ omega (arith, tree_past a i h, tree_past b i h)
  tree_past (one_of a b) i h = bit-bit_xor (lw N ss a 0 (i / 64)) (lw N ss b 0 (i / 64)) (i % 64) ∙ ap₂ differ (tree_past a i h) (tree_past b i h)
  tree_past (inverse a) i h =
      bit-bit_and (existing (room N 0) (i / 64)) (flip (lw N ss a 0 (i / 64))) (i % 64) ∙ omega (arith, cut_past (room N 0) i h)
  tree_past every i h = cut_past (room N 0) i h

  -- A UNION: a summary bit that is on stands over a word that is not 0.
  pub union_full : (e : Tree) → Union e → Full (tree_word N ss e) (top N)
  unfolding tree_word value joined op_word on_at bit
  union_full (store c) u k p h e = sound_full N (nth ss c) (z c) k p h e
  union_full (both _ _) u k p h e = elim u [ ]
  union_full (one_of _ _) u k p h e = elim u [ ]
  union_full (inverse _) u k p h e = elim u [ ]
  union_full every u k p h e = elim u [ ]
  union_full (either a b) u k p h e =
      go (ℕ_discrete (bit (lw N ss a (suc k) (p / 64)) (p % 64)) 1)
      (sym (bit-bit_or (lw N ss a (suc k) (p / 64)) (lw N ss b (suc k) (p / 64)) (p % 64)) ∙ e)
      (bit_lt (lw N ss a (suc k) (p / 64)) (p % 64)) (union_full a u.0 k p h) (union_full b u.1 k p h)
    where
      go : {x y v w : ℕ} → Dec (x ≡ 1) → max x y ≡ 1 → x < 2 → (x ≡ 1 → 0 < v) → (y ≡ 1 → 0 < w) → 0 < bit_or v w
      go {v = v} {w = w} (yes q) m l f g = omega (arith, f q, or_add_and v w, and_le_r v w)
      go {v = v} {w = w} (no q) m l f g = omega (arith, g (omega arith), or_add_and v w, and_le_l v w)
