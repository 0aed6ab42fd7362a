-- What `contains_set` answers, for all inputs. Document 01, "Calls on one store", and its refusals.
use Rattle.std.specs.Prelude.{Bool, true, cond, ◌&&◌, List, [], ◌∷◌, ℕ, eqb}
use Rattle.util.specs.Outcome.{Outcome}
use Rattle.store.specs.Answer.{says, refuses}
use Rattle.store.specs.Layout.{cap, is_store}
use Rattle.set_member.specs.Calls.{is_member}
use Rattle.walk_batches.specs.Steps.{walked}

-- every id of a list is a member
unfoldable pub all_held : List ℕ → List ℕ → Bool
all_held s [] = true
all_held s (i ∷ l) = let r = all_held s l in (is_member s i && r)

-- "`contains_set`: every id that a walk of the other store hands out is a member of this one." Refusals 2, then 5: "capacities differ".
unfoldable pub contains_set_of : List ℕ → List ℕ → Outcome (Unit {0})
contains_set_of s t =
    cond (is_store s && is_store t)
    (cond (eqb (cap s) (cap t)) (says (all_held s (walked t)) tt) (refuses 5 tt))
    (refuses 2 tt)
