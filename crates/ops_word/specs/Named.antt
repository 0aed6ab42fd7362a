-- The code's operations, by the numbers that a formula's codes have.
use Rattle.std.specs.Prelude.{ℕ, cond, eqb}
use Rattle.ops_word.specs.declared.Op.{Op}
use Rattle.ops_word.specs.declared.Op.TheVariants.{And, Or, Xor}

abbrev pub code : Op → ℕ
code And = 16
code Or = 17
code Xor = 18

-- "16 and, 17 or, 18 xor"; any other number counts as 18
abbrev pub named : ℕ → Op
named n = cond (eqb n 16) And (cond (eqb n 17) Or Xor)
