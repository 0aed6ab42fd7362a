-- What is refused before a formula is evaluated. Document 01: "Four store slices are lent. Store 0 must be a store and gives N; an empty
-- slice among the other three means not lent."
use Rattle.std.specs.Prelude.{cond, List, ℕ, min, eqb, length}
use Rattle.store.specs.Layout.{cap, is_store}
use Rattle.formula_codes.specs.Codes.{is_formula}
use Rattle.formula_codes.specs.Tree.{nth}

-- a slice beside store 0, whose capacity is N: 0 where it is not lent or a store of that capacity, 2 where it is no store, 5 where
-- "capacities differ"
unfoldable pub beside_of : ℕ → List ℕ → ℕ
beside_of N s = cond (eqb (length s) 0) 0 (cond (is_store s) (cond (eqb (cap s) N) 0 5) 2)

-- the refusal that comes first, "2 (stores in number order), 5": the lesser number, 0 being none
unfoldable pub sooner : ℕ → ℕ → ℕ
sooner a b = cond (eqb a 0) b (cond (eqb b 0) a (min a b))

-- refusals 2 and 5, or 0
unfoldable pub stores_of : List (List ℕ) → ℕ
stores_of ss =
    let N = cap (nth ss 0) in
    cond (is_store (nth ss 0)) (sooner (sooner (beside_of N (nth ss 1)) (beside_of N (nth ss 2))) (beside_of N (nth ss 3))) 2

-- refusals 2, 5 and 6, or 0
unfoldable pub check_of : List (List ℕ) → List ℕ → ℕ
check_of ss cs =
    let no = stores_of ss in
    cond (eqb no 0) (cond (is_formula ss cs) 0 6) no
