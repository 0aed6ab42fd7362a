-- What the decimal digits of a number mean, and that a number that was put is read back.
use mathlib.Core.List.{List, [], ◌∷◌, ◌++◌, append_assoc}
use mathlib.Core.Path.{◌≡◌, refl, ap, ◌∙◌}
use Prim.Native.Nat.{ℕ, zero, suc, ◌+◌, ◌-◌, ◌*◌, ◌/◌, ◌%◌, ◌^◌, ◌≤◌, ◌<◌}
use native.Mathlib.Decide.{dec_lt}
use native.Mathlib.Nat.{zero-add, add-mul, mul_assoc, mul_comm, pow-suc}
use native.Mathlib.Omega.{arith}
use borrow.Author.Tests.{lt-ltb, le-ltb, ne_eqb}
use lib.ListN.{length, length-append}
use lib.Seq.{drop-append_seam}
use Rattle.text_out.specs.Out.{spelled, decimal_of}
use Rattle.text_out.proofs.Spelling.{next_power, spelled-one, spelled-more}
use Rattle.text_in.specs.Number.{digit_of, digits, value_after, number_of}
use Rattle.std.specs.Prelude.{Some, None}

-- A digit counts ten times what it would one place further on: a number in front counts as many tens as there are digits behind it.
pub value_front : (v : ℕ) (ds : List ℕ) → value_after v ds ≡ v * 10 ^ length ds + value_after 0 ds
unfolding value_after
value_front v [] = omega arith
value_front v (d ∷ ds) =
    let p = 10 ^ length ds in
    omega (
      arith,
      value_front (v * 10 + d) ds,
      ap (λ (x : ℕ). value_after x ds) (zero-add d),
      value_front d ds,
      add-mul (v * 10) d p,
      mul_assoc v 10 p,
      ap (λ (x : ℕ). v * x) (pow-suc 10 (length ds) ∙ mul_comm p 10),
    )

-- and a digit behind counts itself
pub value_last : (v : ℕ) (ds : List ℕ) (d : ℕ) → value_after v (ds ++ (d ∷ [])) ≡ value_after v ds * 10 + d
unfolding value_after
value_last v [] d = refl
value_last v (e ∷ ds) d = value_last (v * 10 + e) ds d

-- the digit of a glyph
glyph_digit : (d : ℕ) → d < 10 → digit_of (48 + d) ≡ d
unfolding digit_of
glyph_digit d h =
    let l : 48 ≤ 48 + d = omega arith in
    let u : 48 + d ≤ 57 = omega arith in
    let e : 48 + d - 48 ≡ d = omega arith in
    simp (le-ltb _ _ l, le-ltb _ _ u, e)

glyph_first : (d : ℕ) (t : List ℕ) → d < 10 → digits ((48 + d) ∷ t) ≡ d ∷ digits t
unfolding digits
glyph_first d t h = simp (glyph_digit d h, lt-ltb _ _ h)

-- What is spelled, with t behind it, is read as digits with that value, and as many.
abbrev AsSpelled : ℕ → ℕ → List ℕ → Type 0
AsSpelled k n t =
    (value_after 0 (digits (spelled k n ++ t)) ≡ value_after n (digits t))
    × (length (digits (spelled k n ++ t)) ≡ length (spelled k n) + length (digits t))

one-spelled : (k n : ℕ) (t : List ℕ) → n < 10 → AsSpelled (suc k) n t
unfolding value_after
one-spelled k n t l =
    rw (spelled-one n k l, glyph_first n t l) (ap (λ (x : ℕ). value_after x (digits t)) (zero-add n), omega arith)

more-spelled : (k n : ℕ) (t : List ℕ) → 10 ≤ n → AsSpelled k (n / 10) ((48 + n % 10) ∷ t) → AsSpelled (suc k) n t
unfolding value_after
more-spelled k n t l (value_is, length_is) =
    let r : n % 10 < 10 = omega arith in
    let whole : n / 10 * 10 + n % 10 ≡ n = omega arith in
    rw (spelled-more n k l, append_assoc (spelled k (n / 10)) ((48 + n % 10) ∷ []) t) (
      value_is ∙ ap (value_after (n / 10)) (glyph_first (n % 10) t r) ∙ ap (λ (x : ℕ). value_after x (digits t)) whole,
      omega (arith, length_is, ap length (glyph_first (n % 10) t r), length-append (spelled k (n / 10)) ((48 + n % 10) ∷ [])),
    )

pub as_spelled : (k n : ℕ) (t : List ℕ) → n < 10 ^ suc k → AsSpelled (suc k) n t
as_spelled zero n t h = one-spelled zero n t (omega arith)
as_spelled (suc k) n t h = go (as_spelled k (n / 10) ((48 + n % 10) ∷ t) (omega (arith, next_power (suc k)))) (dec_lt n 10)
  where
    go : AsSpelled (suc k) (n / 10) ((48 + n % 10) ∷ t) → Dec (n < 10) → AsSpelled (suc (suc k)) n t
    go tenth (yes l) = one-spelled (suc k) n t l
    go tenth (no l) = more-spelled (suc k) n t (omega arith) tenth

-- a spelling has a digit
some_spelled : (k n : ℕ) → length (spelled (suc k) n) ≡ 0 → ⊥
some_spelled k n = go (dec_lt n 10)
  where
    go : Dec (n < 10) → length (spelled (suc k) n) ≡ 0 → ⊥
    go (yes l) z = omega (arith, ap length (spelled-one n k l))
    go (no l) z =
        omega (arith, ap length (spelled-more n k (omega arith)), length-append (spelled k (n / 10)) ((48 + n % 10) ∷ []))

-- READ BACK. What was put of a number is read as that number, with the place behind it, where no digit follows.
pub read_back_lem : (front behind : List ℕ) (n most : ℕ) → n < 10 ^ 20 → n ≤ most → digits behind ≡ []
    → number_of (front ++ (decimal_of n ++ behind)) (length front) most ≡ Some (n, length front + length (decimal_of n))
unfolding number_of value_after
read_back_lem front behind n most h l none =
    let read = as_spelled 19 n behind h in
    let value_is : value_after 0 (digits (decimal_of n ++ behind)) ≡ n = read.0 ∙ ap (value_after n) none in
    let length_is : length (digits (decimal_of n ++ behind)) ≡ length (decimal_of n) = omega (arith, read.1, ap length none) in
    simp (
      drop-append_seam front (decimal_of n ++ behind),
      value_is,
      length_is,
      ne_eqb _ _ (some_spelled 19 n),
      le-ltb _ _ l,
    )

-- the number at place 2 of `x 0042 7` is 42, and ends at place 6; one past 64 bits is none
pub sample_numbers : (number_of (120 ∷ 32 ∷ 48 ∷ 48 ∷ 52 ∷ 50 ∷ 32 ∷ 55 ∷ []) 2 18446744073709551615 ≡ Some (42, 6))
    × (number_of (decimal_of 18446744073709551616) 0 18446744073709551615 ≡ None)
unfolding number_of digits digit_of value_after spelled
sample_numbers = (refl, refl)
