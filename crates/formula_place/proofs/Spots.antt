-- Where the words of a layer stand, as the code computes it, and the bits that exist.
use mathlib.Core.Path.{◌≡◌, refl, sym, ap, ◌∙◌}
use Prim.Native.Nat.{ℕ, zero, suc, ◌+◌, ◌-◌, ◌*◌, ◌/◌, ◌%◌, ◌^◌, ◌≤◌, ◌<◌, min}
use native.Mathlib.Numerals.{add-one}
use native.Mathlib.Omega.{arith}
use borrow.Author.Tests.{lt-ltb, le-ltb}
use Rattle.util.proofs.Bits.{shl_one}
use Rattle.store.specs.Layout.{folded, layer_end, end_of}
use Rattle.store.proofs.Ends.{length_small}
use Rattle.store.proofs.Geometry.{end_falls, within}
use Rattle.formula_codes.specs.Tree.{existing}
use Rattle.formula_place.specs.Spots.{words_in, places_in, place_of}

-- ---- the layers

module _ (N k : ℕ) where
  -- a layer starts before it ends
  pub starts_first : end_of N (k + 1) ≤ end_of N k
  unfolding end_of
  starts_first = omega (arith, end_falls (folded N) k, ap (layer_end (folded N)) (add-one k))

  pub words_in_are : end_of N k - end_of N (k + 1) ≡ words_in N k
  unfolding words_in
  words_in_are = ap (λ (x : ℕ). end_of N k - end_of N x) (add-one k)

  -- it ends soon enough for any sum of such numbers
  pub ends_soon : end_of N k ≤ 1000000
  unfolding end_of
  ends_soon = omega (arith, within (folded N) k, length_small {N = folded N} (omega arith) (omega arith))

  pub few_words : words_in N k ≤ 1000000
  unfolding words_in
  few_words = omega (arith, ends_soon)

  pub place_inside : (i : ℕ) → i < words_in N k → end_of N (k + 1) + i ≡ place_of N k i
  unfolding place_of
  place_inside i l = ap (λ (x : ℕ). end_of N x + i) (add-one k) ∙ sym (rw (lt-ltb i (words_in N k) l))

  pub place_past : (i : ℕ) → words_in N k ≤ i → end_of N 0 ≡ place_of N k i
  unfolding place_of
  place_past i h = sym (rw (le-ltb i (words_in N k) h))

pub places_ids : (N : ℕ) → N ≡ places_in N 0
unfolding places_in
places_ids N = refl

pub places_words : (N k : ℕ) → 0 < k → words_in N (k - 1) ≡ places_in N k
unfolding places_in
places_words N (suc k) h = ap (words_in N) (omega arith)
places_words N zero h = absurd (omega arith)

pub ruleset layers = (starts_first, words_in_are, ends_soon, few_words, place_inside, place_past, places_ids, places_words)

-- ---- the bits that exist

module _ (p i : ℕ) where
  pub exist_all : i < p / 64 → 18446744073709551615 ≡ existing p i
  unfolding existing
  exist_all h = let m : 64 ≡ min 64 (p - i * 64) = omega arith in ap (λ (x : ℕ). 2 ^ x - 1) m

  pub exist_none : p / 64 < i → 0 ≡ existing p i
  unfolding existing
  exist_none h = let m : 0 ≡ min 64 (p - i * 64) = omega arith in ap (λ (x : ℕ). 2 ^ x - 1) m

  pub exist_some : p / 64 ≤ i → i ≤ p / 64 → 1 * 2 ^ (p % 64) % 2 ^ 64 - 1 ≡ existing p i
  unfolding existing
  exist_some h l =
      let m : p % 64 ≡ min 64 (p - i * 64) = omega arith in
      ap (λ (x : ℕ). x - 1) (shl_one (p % 64) (omega arith)) ∙ ap (λ (x : ℕ). 2 ^ x - 1) m

pub ruleset exist = (exist_all, exist_none, exist_some)
