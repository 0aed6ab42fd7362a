-- The codes that join two stores. Document 01, "Formulas".
use Rattle.std.specs.Prelude.{Bool, ◌&&◌, List, ◌≡◌, ℕ, ◌%◌, ◌≤◌, ◌<◌, leb, ltb, eqb, length, get_or}
use Rattle.formula_codes.specs.Tree.{nth}
use Rattle.formula_pair.specs.Pair.{pair_words}

-- two stores and a code that joins them: "0 to 3 a store, 16 and, 17 or, 18 xor"
unfoldable pub is_pair : List ℕ → Bool
is_pair cs = eqb (length cs) 3 && (ltb (get_or cs 0 0) 4 && (ltb (get_or cs 1 0) 4 && (leb 16 (get_or cs 2 0) && ltb (get_or cs 2 0) 19)))

-- the same as facts
pub record Pair (cs : List ℕ) : Type 0 where
  pub three : length cs ≡ 3
  pub first : get_or cs 0 0 < 4
  pub second : get_or cs 1 0 < 4
  pub joins : 16 ≤ get_or cs 2 0
  pub known : get_or cs 2 0 < 19

-- the words of the two stores that the first two codes name, joined by the third; stores count modulo 4
abbrev pub named_words : List (List ℕ) → List ℕ → ℕ → ℕ → ℕ
named_words ss cs = pair_words (get_or cs 2 0) (nth ss (get_or cs 0 0 % 4)) (nth ss (get_or cs 1 0 % 4))
