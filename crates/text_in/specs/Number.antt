-- Decimal numbers in a line.
use Rattle.std.specs.Prelude.{cond, List, [], ◌∷◌, ℕ, ◌+◌, ◌-◌, ◌*◌, eqb, ltb, length, drop, Option, Some, None}

-- what a byte counts as a digit, and 10 if it is none
unfoldable pub digit_of : ℕ → ℕ
digit_of b = cond (ltb b 48) 10 (cond (ltb 57 b) 10 (b - 48))

-- the digits at the start
unfoldable pub digits : List ℕ → List ℕ
digits [] = []
digits (b ∷ bs) = cond (ltb (digit_of b) 10) (digit_of b ∷ digits bs) []

-- the number v with digits behind it
unfoldable pub value_after : ℕ → List ℕ → ℕ
value_after v [] = v
value_after v (d ∷ ds) = value_after (v * 10 + d) ds

-- The number that the digits from `from` on spell, with the place after them; none where there is no digit, or more than `most`.
unfoldable pub number_of : List ℕ → ℕ → ℕ → Option (ℕ × ℕ)
number_of line from most =
    let ds = digits (drop from line) in
    let value = value_after 0 ds in
    cond (eqb (length ds) 0) None (cond (ltb most value) None (Some (value, from + length ds)))
