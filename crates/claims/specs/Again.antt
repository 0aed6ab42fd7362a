-- Demand 2: "A chunk map written and read again gives the same members."
use Rattle.std.specs.Prelude.{List, ◌≡◌, ℕ, Result, Ok}
use Rattle.store.specs.Word.{members}
use Rattle.store.specs.declared.Refusal.{Refusal}
use Rattle.claims.specs.Reached.{Reached}

-- the reader's answer r, and the store u that it leaves, of a map of the store s of capacity N
pub record Again (N : ℕ) (s : List ℕ) (r : Result (Unit {0}) Refusal) (u : List ℕ) : Type 0 where
  pub done : r ≡ Ok tt
  pub members_are : members u ≡ members s
  pub words_are : u ≡ s
  pub reached : Reached N u
