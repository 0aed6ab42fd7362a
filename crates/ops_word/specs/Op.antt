-- The three operations by the numbers that a formula's codes have. Document 01: "16 and, 17 or, 18 xor"; any other number counts as 18.
use Rattle.std.specs.Prelude.{cond, ℕ, min, max, eqb}
use Rattle.std.specs.Int.Bits.{bit_and, bit_or, bit_xor, differ}

-- on words, and on bits
unfoldable pub op_word : ℕ → ℕ → ℕ → ℕ
op_word op x y = cond (eqb op 16) (bit_and x y) (cond (eqb op 17) (bit_or x y) (bit_xor x y))

unfoldable pub op_bit : ℕ → ℕ → ℕ → ℕ
op_bit op x y = cond (eqb op 16) (min x y) (cond (eqb op 17) (max x y) (differ x y))

-- the word of the side that decides: where it is 0, the first word stays. Of and it is the first, else the second.
unfoldable pub decider : ℕ → ℕ → ℕ → ℕ
decider op x y = cond (eqb op 16) x y
