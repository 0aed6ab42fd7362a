-- What is asked of one id, for all inputs. Document 01, "Calls on one store", and its refusals.
use Rattle.std.specs.Prelude.{Bool, cond, ◌&&◌, List, [], ◌∷◌, ℕ, ◌/◌, ltb, eqb}
use Rattle.util.specs.Outcome.{Outcome}
use Rattle.store.specs.Answer.{says, refuses}
use Rattle.store.specs.Layout.{layer_start, cap, is_store}
use Rattle.store.specs.Word.{word, on}

-- whether id i is held
abbrev pub holds : ℕ → List ℕ → ℕ → Bool
holds N s i = eqb (on N s 0 i) 1

-- "ids 0 to N-1 have room": the capacity, where layer 0 starts, and its word i/64 where id i has room; 3, "an id at or past N"; 2 where s is
-- no store
unfoldable pub locate_of : List ℕ → ℕ → Outcome (Unit {0})
locate_of s i =
    let N = cap s in
    cond (is_store s)
    (cond (ltb i N) (record { numbers = 0 ∷ N ∷ layer_start N 0 ∷ word N s 0 (i / 64) ∷ []; lent = tt }) (refuses 3 tt))
    (refuses 2 tt)

-- "An id is a member if it is below N and its layer-0 bit is set."
abbrev pub is_member : List ℕ → ℕ → Bool
is_member s i = ltb i (cap s) && holds (cap s) s i

-- "`contains` .. for an id at or past N answer[s] no"
unfoldable pub contains_of : List ℕ → ℕ → Outcome (Unit {0})
contains_of s i = cond (is_store s) (says (is_member s i) tt) (refuses 2 tt)
