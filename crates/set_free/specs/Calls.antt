-- The free search, for all inputs. Document 01: "Free search: the lowest id below N that is not a member, or refusal 12 exactly if there
-- is none." Document 02, request 2, in its place: "The search is now over ids 1 to N-1 .. 12 exactly if ids 1 to N-1 are all members."
use Rattle.std.specs.Prelude.{cond, List, [], ◌∷◌, ℕ, ◌-◌, ◌≤◌, ◌<◌}
use Rattle.util.specs.Outcome.{Outcome}
use Rattle.util.specs.Word.{places}
use Rattle.store.specs.Answer.{gives, refuses}
use Rattle.store.specs.Layout.{cap, is_store}
use Rattle.store.specs.Word.{on, Member}

-- the id that the search begins with: "chunk 0 always belongs to the container header"
abbrev pub search_start : ℕ
search_start = 1

-- the ids from `first` on and below N that are not members, ascending: by layer 0 alone, so on unsound stores too
unfoldable pub free_from : ℕ → List ℕ → ℕ → List ℕ
free_from N s first = places (λ i. 1 - on N s 0 i) first (N - first)

-- the lowest of them, or n where there is none: N in a store, and 0 of a slice that is none
abbrev pub first_or : ℕ → List ℕ → ℕ
first_or n [] = n
first_or n (i ∷ l) = i

unfoldable pub lowest_of : List ℕ → ℕ
lowest_of s = cond (is_store s) (first_or (cap s) (free_from (cap s) s search_start)) 0

-- the same as an answer
abbrev pub first_of : List ℕ → Outcome (Unit {0})
first_of [] = refuses 12 tt
first_of (i ∷ l) = gives i tt

unfoldable pub first_free_of : List ℕ → Outcome (Unit {0})
first_free_of s = cond (is_store s) (first_of (free_from (cap s) s search_start)) (refuses 2 tt)

-- what an answer i says of the members: the lowest id from the first on and below N that is not a member
pub record LowestFree (s : List ℕ) (i : ℕ) : Type 0 where
  pub from : search_start ≤ i
  pub below : i < cap s
  pub free : Member s i → ⊥
  pub lowest : (j : ℕ) → search_start ≤ j → j < i → Member s j
