-- A formula as it is lent, and what its judges answer.
use Rattle.std.specs.Prelude.{cond, List, map, ℕ, ◌==◌, Result, Ok}
use Rattle.store.specs.Answer.{refused}
use Rattle.store.specs.Layout.{cap}
use Rattle.store.specs.declared.Refusal.{Refusal}
use Rattle.formula_codes.specs.Tree.{nth}
use Rattle.formula_codes.specs.declared.Formula.{Formula}

-- the four slices
abbrev pub slices : Formula → List (List ℕ)
slices f = map (λ s. s.now) f.stores

-- the capacity that store 0 gives, or the refusal of a number that is not 0
abbrev pub sized : List (List ℕ) → ℕ → Result ℕ Refusal
sized ss n = cond (n == 0) (Ok (cap (nth ss 0))) (refused n)
