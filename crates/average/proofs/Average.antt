-- The bit that splits a word: what its definition says, that there is one exactly if two bits are set, and how a search meets it.
use mathlib.Core.Bool.{Bool, cond}
use mathlib.Core.List.{[], ◌∷◌}
use mathlib.Core.Logic.{◌≢◌}
use mathlib.Core.Path.{◌≡◌, refl, sym, ap, ◌∙◌}
use Prim.Native.Nat.{ℕ, zero, suc, ◌+◌, ◌-◌, ◌/◌, ◌^◌, ◌≤◌, ◌<◌}
use native.Mathlib.Decide.{dec_lt, dec_le, ℕ_discrete}
use native.Mathlib.Nat.{div-one}
use native.Mathlib.Omega.{arith}
use borrow.Author.Tests.{eq-eqb, ne_eqb}
use lib.Arith.{lt-one}
use lib.Count.{ones}
use lib.Dec.{eqb}
use lib.Pow.{shr_lt, shr_le}
use Rattle.util.specs.Outcome.{Settled}
use Rattle.util.specs.Word.{bit, count}
use Rattle.util.proofs.Bits.{bit_lt}
use Rattle.util.proofs.Count.{count_ones}
use Rattle.util.proofs.Places.{places_none, places-one}
use Rattle.average.specs.Average.{paper, splits, average_of}
use Rattle.average.specs.Search.{bits_above}
use Rattle.std.specs.Prelude.{Some, None}
use Rattle.average.proofs.Tally.{above_split, above_step}

module _ (n : ℕ) (word : n < 2 ^ 64) where
  counted : count n ≡ ones n
  counted = count_ones n word

  count_above : (p : ℕ) → count (n / 2 ^ p) ≡ bits_above n p
  count_above p = count_ones (n / 2 ^ p) (omega (arith, shr_le n p))

  step : (p : ℕ) → bits_above n p ≡ bits_above n (suc p) + bit n p
  unfolding bit
  step p = above_step n p

  -- fewer above
  falls : (p d : ℕ) → bits_above n (p + d) ≤ bits_above n p
  falls p d = omega (arith, above_split n p d)

  -- p splits n exactly if it is set and has half at or above it
  splits_here : (p : ℕ) → bits_above n p ≡ ones n / 2 → bit n p ≡ 1 → splits n p ≡ 1
  unfolding splits
  splits_here p e b = ap (λ (x : Bool). cond x (bit n p) 0) (eq-eqb (count (n / 2 ^ p)) (count n / 2) (count_above p ∙ e ∙ ap (λ (x : ℕ). x / 2) (sym counted))) ∙ b

  splits_not : (p : ℕ) → (bits_above n p ≡ ones n / 2 → bit n p ≡ 0) → splits n p ≡ 0
  unfolding splits
  splits_not p h = go (ℕ_discrete (count (n / 2 ^ p)) (count n / 2))
    where
      go : Dec (count (n / 2 ^ p) ≡ count n / 2) → cond (eqb (count (n / 2 ^ p)) (count n / 2)) (bit n p) 0 ≡ 0
      go (yes e) =
          ap (λ (x : Bool). cond x (bit n p) 0) (eq-eqb (count (n / 2 ^ p)) (count n / 2) e)
          ∙ h (sym (count_above p) ∙ e ∙ ap (λ (x : ℕ). x / 2) counted)
      go (no e) = ap (λ (x : Bool). cond x (bit n p) 0) (ne_eqb (count (n / 2 ^ p)) (count n / 2) e)

  -- two set bits have different numbers of set bits at or above them
  one_only : (p q : ℕ) → q ≢ p → bit n p ≡ 1 → bits_above n q ≡ bits_above n p → bit n q ≡ 0
  one_only p q ne b e = go (dec_lt q p)
    where
      go : Dec (q < p) → bit n q ≡ 0
      go (yes l) =
          let z : suc q + (p - suc q) ≡ p = omega arith in
          omega (arith, step q, falls (suc q) (p - suc q), ap (bits_above n) z)
      go (no l) =
          let z : suc p + (q - suc p) ≡ q = omega arith in
          absurd (omega (arith, step p, falls (suc p) (q - suc p), ap (bits_above n) z))

  -- the place whose bits above are too few, and those from it on enough
  pub found : (p : ℕ) → p < 64 → bits_above n (suc p) < ones n / 2 → ones n / 2 ≤ bits_above n p → Settled paper (average_of n) (Some p) tt
  unfolding average_of
  found p l lo hi =
      let b : bit n p ≡ 1 = omega (arith, step p, bit_lt n p) in
      let e : bits_above n p ≡ ones n / 2 = omega (arith, step p, bit_lt n p) in
      record {
        answer = sym (places-one (splits n) 0 p 64 (omega arith) (omega arith) (λ z. omega (arith, splits_here p e b))
            (λ q i u ne. splits_not q (λ h. one_only p q ne b (h ∙ sym e))));
        memory = refl;
      }

  -- no bit splits a word with at most one set bit
  pub none_found : ones n ≤ 1 → Settled paper (average_of n) None tt
  unfolding average_of
  none_found c =
      record {
        answer = sym (places_none (splits n) 0 64 (λ p i u. splits_not p (λ h. omega (arith, step p))));
        memory = refl;
      }

  -- none stand above a word, and all from place 0 on
  pub above_none : bits_above n 64 ≡ 0
  unfolding ones
  above_none = ap ones (lt-one (shr_lt 0 64 word))

  pub above_all : bits_above n 0 ≡ ones n
  above_all = ap ones (div-one n)

  -- from place d down there is a place whose bits above are too few and those from it on enough
  ends : (t d : ℕ) → bits_above n d < t → t ≤ bits_above n 0 → (p : ℕ) × (p < d) × (bits_above n (suc p) < t) × (t ≤ bits_above n p)
  ends t zero lo hi = absurd (omega arith)
  ends t (suc d) lo hi = go (λ (l : bits_above n d < t). ends t d l hi) (dec_le t (bits_above n d))
    where
      go : (bits_above n d < t → (p : ℕ) × (p < d) × (bits_above n (suc p) < t) × (t ≤ bits_above n p)) → Dec (t ≤ bits_above n d)
          → (p : ℕ) × (p < suc d) × (bits_above n (suc p) < t) × (t ≤ bits_above n p)
      go rest (yes h) = (d, omega arith, lo, h)
      go rest (no h) = let r = rest (omega arith) in (r.0, omega (arith, r.1), r.2, r.3)

  -- THE SPLIT. Of a word with two set bits or more exactly one bit splits it, and with fewer none.
  pub one-splits : 2 ≤ count n
      → (p : ℕ) × ((average_of n).numbers ≡ p ∷ []) × (p < 64) × (bit n p ≡ 1) × (count (n / 2 ^ p) ≡ count n / 2)
  one-splits c =
      let e = ends (ones n / 2) 64 (omega (arith, above_none, counted)) (omega (arith, above_all)) in
      let s = step e.0 in (
        e.0,
        sym (found e.0 e.1 e.2 e.3).answer,
        e.1,
        omega (arith, e.2, e.3, bit_lt n e.0),
        omega (arith, count_above e.0, counted, e.2, e.3, bit_lt n e.0),
      )

  pub none_splits : count n ≤ 1 → (average_of n).numbers ≡ []
  none_splits c = sym (none_found (omega (arith, counted))).answer
