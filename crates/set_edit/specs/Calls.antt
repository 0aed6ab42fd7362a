-- What each call that changes ids does, for all inputs. Document 01, "Calls on one store", and its refusals.
use Rattle.std.specs.Prelude.{Bool, true, false, cond, ◌&&◌, List, [], ◌∷◌, ℕ, ltb, Result}
use Rattle.util.specs.Outcome.{Outcome}
use Rattle.store.specs.Answer.{asked_paper, says, does, refuses}
use Rattle.store.specs.Layout.{cap, is_store}
use Rattle.store.specs.declared.Refusal.{Refusal}
use Rattle.set_member.specs.Calls.{holds}
use Rattle.set_edit.specs.Edit.{moved_by}

-- an answer that changes nothing
abbrev pub stays : Result Bool Refusal → List ℕ → Outcome (List ℕ)
stays r s = record { numbers = asked_paper.numbers r; lent = s }

-- An id added, or removed, where it has room; the answer is whether it was held. At or past N the outcome is `past`.
unfoldable pub move_of : Bool → Outcome (List ℕ) → List ℕ → ℕ → Outcome (List ℕ)
move_of set past s i =
    let N = cap s in
    cond (is_store s)
    (cond (ltb i N) (says (holds N s i) (moved_by set N s i)) past)
    (refuses 2 s)

-- "`add` answers whether the id was held already." Refusal 3: "an id at or past N".
abbrev pub add_of : List ℕ → ℕ → Outcome (List ℕ)
add_of s i = move_of true (refuses 3 s) s i

-- "`remove` answers whether it was held. .. for an id at or past N answer[s] no and change[s] nothing."
abbrev pub remove_of : List ℕ → ℕ → Outcome (List ℕ)
remove_of s i = move_of false (says false s) s i

-- "Adding a list of ids checks every id first, then adds all and answers only that it did; an empty list changes nothing."
unfoldable pub all_below : ℕ → List ℕ → Bool
all_below N [] = true
all_below N (i ∷ l) = ltb i N && all_below N l

unfoldable pub add_all : ℕ → List ℕ → List ℕ → List ℕ
add_all N s [] = s
add_all N s (i ∷ l) = add_all N (moved_by true N s i) l

unfoldable pub add_list_of : List ℕ → List ℕ → Outcome (List ℕ)
add_list_of s ids =
    cond (is_store s)
    (cond (all_below (cap s) ids) (does (add_all (cap s) s ids)) (refuses 3 s))
    (refuses 2 s)
