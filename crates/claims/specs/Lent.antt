-- What demand 3 takes: "stores of one capacity reached from opening by our calls on such stores, any accepted formula over at most four, and
-- no change until the walk ends": the slices are the same lists at every call.
use Rattle.std.specs.Prelude.{List, ◌≢◌, ◌≡◌, ℕ, length}
use Rattle.store.specs.Layout.{cap}
use Rattle.formula_codes.specs.Check.{check_of}
use Rattle.formula_codes.specs.Tree.{nth}
use Rattle.claims.specs.Reached.{Reached}

-- the codes are accepted over four slices, of which those that are lent were reached
pub record Lent (ss : List (List ℕ)) (cs : List ℕ) : Type 0 where
  pub accepted : check_of ss cs ≡ 0
  pub reached : (x : ℕ) → length (nth ss x) ≢ 0 → Reached (cap (nth ss 0)) (nth ss x)
