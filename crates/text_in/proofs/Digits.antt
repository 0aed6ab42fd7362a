-- A number read digit by digit.
use Rattle.std.proofs.Common.{ltb-true, ltb-false, ◌≡◌, refl, sym, ap, ◌∙◌, ℕ, ◌+◌, ◌-◌, ◌*◌, ◌≤◌, ◌<◌, Bool, cond, true, false, ltb, eqb, List, [], ◌∷◌, length, drop, get_or, arith, add-one, lt-ltb, le-ltb, eq-eqb, ne_eqb, Option, Some, None, SomeIff, slice_get}
use Rattle.std.proofs.lemmas.Bool.Decides.{nat_tests}
use Rattle.std.proofs.Math.ListN.{drop_of_length-le}
use Rattle.std.proofs.Math.Seq.{drop-cons}
use native.Mathlib.Decide.{dec_lt}
use Rattle.std.specs.Char.{digit_value}
use Rattle.std.specs.Bool.{then_some}
use Rattle.text_in.specs.Number.{digit_of, digits, value_after, number_of}

module _ (b : ℕ) where
  pub digit_low : b < 48 → digit_of b ≡ 10
  unfolding digit_of
  digit_low h = simp (lt-ltb _ _ h)

  pub digit_high : 57 < b → digit_of b ≡ 10
  unfolding digit_of
  digit_high h = let l : 48 ≤ b = omega arith in simp (le-ltb _ _ l, lt-ltb _ _ h)

  pub digit_is : 48 ≤ b → b ≤ 57 → digit_of b ≡ b - 48
  unfolding digit_of
  digit_is l h = simp (le-ltb _ _ l, le-ltb _ _ h)

  -- what `to_digit` finds
  value_some : digit_value b < 10 → digit_of b ≡ digit_value b
  unfolding digit_of
  value_some h = grind (arith, nat_tests)

  value_none : 10 ≤ digit_value b → digit_of b ≡ 10
  unfolding digit_of
  value_none h = grind (arith, nat_tests)

-- digits only add
grows : (v : ℕ) (ds : List ℕ) → v ≤ value_after v ds
unfolding value_after
grows v [] = omega arith
grows v (d ∷ ds) = omega (arith, grows (v * 10 + d) ds)

-- ---- the digit at a place

-- digit d stands at `at`
pub record DigitAt (line : List ℕ) (at d : ℕ) : Type 0 where
  pub inside : at < length line
  pub next : digits (drop at line) ≡ d ∷ digits (drop (at + 1) line)

module _ (line : List ℕ) (at : ℕ) where
  abbrev rest : List ℕ
  rest = digits (drop at line)

  past_end : length line ≤ at → rest ≡ []
  unfolding digits
  past_end h = simp (drop_of_length-le line h)

  module _ (h : at < length line) where
    digits_stop : 10 ≤ digit_of (get_or line at 0) → rest ≡ []
    unfolding digits
    digits_stop l = simp (drop-cons line at 0 h, le-ltb _ _ l)

    digits_more : digit_of (get_or line at 0) < 10 → DigitAt line at (digit_of (get_or line at 0))
    unfolding digits
    digits_more l = record { inside = h; next = simp (drop-cons line at 0 h, add-one, lt-ltb _ _ l) }

  -- what `digit_at` answers
  pub no_byte : ltb at (length line) ≡ false → None ≡ slice_get rest 0
  no_byte h = rw (past_end (ltb-false _ _ h))

  pub some_byte : ltb at (length line) ≡ true → {b : ℕ} → get_or line at 0 ≡ b → (r : Option ℕ) → SomeIff r (digit_value b < 10) (digit_value b) → r ≡ slice_get rest 0
  some_byte h {b} e None n =
      let high : 10 ≤ digit_value b = omega (arith, n) in
      rw (digits_stop (ltb-true _ _ h) (omega (arith, ap digit_of e, value_none b high)))
  some_byte h {b} e (Some d) s =
      let is : digit_of (get_or line at 0) ≡ d = ap digit_of e ∙ value_some b s.0 ∙ sym s.1 in
      rw ((digits_more (ltb-true _ _ h) (omega (arith, is, s.0, s.1))).next, is)

  -- what its answer says of all digits
  pub digits_none : None ≡ slice_get rest 0 → rest ≡ []
  digits_none e = go rest e
    where
      go : (ds : List ℕ) → None ≡ slice_get ds 0 → ds ≡ []
      go [] e = refl
      go (d ∷ ds) e = absurd (let z : ◌≡◌ {A = ℕ} 0 1 = cc in omega arith)

  pub digits_some : {d : ℕ} → Some d ≡ slice_get rest 0 → DigitAt line at d
  digits_some {d} e = go (dec_lt at (length line)) (dec_lt (digit_of (get_or line at 0)) 10)
    where
      never : rest ≡ [] → DigitAt line at d
      never none = absurd (let f = e ∙ ap (λ (ds : List ℕ). slice_get ds 0) none in let z : ◌≡◌ {A = ℕ} 0 1 = cc in omega arith)

      go : Dec (at < length line) → Dec (digit_of (get_or line at 0) < 10) → DigitAt line at d
      go (no h) t = never (past_end (omega arith))
      go (yes h) (no t) = never (digits_stop h (omega arith))
      go (yes h) (yes t) =
          let it = digits_more h t in
          let same : digit_of (get_or line at 0) ≡ d = let f = e ∙ ap (λ (ds : List ℕ). slice_get ds 0) it.next in cc in
          rw same at it

-- Of the number that starts at `from` the digits up to `at` are read: with those that are left they give all of it.
pub record Reading (line : List ℕ) (from most value at : ℕ) : Type 0 where
  pub order : from ≤ at
  pub fits : value ≤ most
  pub value_is : value_after value (digits (drop at line)) ≡ value_after 0 (digits (drop from line))
  pub end_is : at + length (digits (drop at line)) ≡ from + length (digits (drop from line))

pub reads_none : (line : List ℕ) (from most : ℕ) → Reading line from most 0 from
reads_none line from most = record { order = omega arith; fits = omega arith; value_is = refl; end_is = refl }

-- more than the most is none
too_much : (line : List ℕ) (from most : ℕ) → most < value_after 0 (digits (drop from line)) → number_of line from most ≡ None
unfolding number_of
too_much line from most h =
    rw (lt-ltb most (value_after 0 (digits (drop from line))) h) (either (eqb (length (digits (drop from line))) 0))
  where
    either : (t : Bool) → ◌≡◌ {A = Option (ℕ × ℕ)} (cond t None None) None
    either true = refl
    either false = refl

module _ {line : List ℕ} {from most value at : ℕ} (r : Reading line from most value at) where
  -- no digit is left
  module _ (none : digits (drop at line) ≡ []) where
    whole_value : value_after 0 (digits (drop from line)) ≡ value
    unfolding value_after
    whole_value = sym r.value_is ∙ ap (value_after value) none

    whole_end : from + length (digits (drop from line)) ≡ at
    whole_end = sym r.end_is ∙ ap (λ (ds : List ℕ). at + length ds) none ∙ omega arith

    pub reads_all : then_some (ltb from at) (value, at) ≡ number_of line from most
    unfolding number_of
    reads_all = go (dec_lt from at)
      where
        go : Dec (from < at) → then_some (ltb from at) (value, at) ≡ number_of line from most
        go (yes h) =
            let some : length (digits (drop from line)) ≡ 0 → ⊥ = λ z. omega (arith, whole_end) in
            simp (lt-ltb _ _ h, ne_eqb _ _ some, whole_value, whole_end, le-ltb _ _ r.fits)
        go (no h) =
            let none : length (digits (drop from line)) ≡ 0 = omega (arith, whole_end) in
            let l : at ≤ from = omega arith in
            simp (le-ltb _ _ l, eq-eqb _ _ none)

  module _ {d : ℕ} (it : DigitAt line at d) where
    -- one digit more
    pub reads_more : value * 10 + d ≤ most → Reading line from most (value * 10 + d) (at + 1)
    unfolding value_after
    reads_more fits =
        record {
          order = omega (arith, r.order);
          fits = fits;
          value_is = sym (ap (value_after value) it.next) ∙ r.value_is;
          end_is = omega (arith, r.end_is, ap length it.next);
        }

    -- one digit too many
    pub reads_over : most < value * 10 + d → None ≡ number_of line from most
    unfolding value_after
    reads_over over =
        sym (too_much line from most
        (omega (arith, r.value_is, ap (value_after value) it.next, grows (value * 10 + d) (digits (drop (at + 1) line)))))
