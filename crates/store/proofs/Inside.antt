-- A layer lies inside its store, said of the code's numbers, so that a check that is told a law's name finds where it is wanted.
use Rattle.std.proofs.Common.{◌≡◌, ℕ, ◌≤◌, List, length, arith, refl, Ok}
use Rattle.store.specs.Layout.{top, StoreOf, end_of, start_from}
use Rattle.store.proofs.Ends.{part, some_store}
use Rattle.store.specs.Answer.{tested}

module _ {N : ℕ} {s : List ℕ} {k : ℕ} (z : StoreOf N s) (h : k ≤ top N) where
  pub start_inside : start_from (length s) N k ≤ length s
  start_inside = let p = part z k h in omega (arith, p.starts, p.size, p.inside)

  pub end_inside : end_of N k ≤ length s
  end_inside = let p = part z k h in omega (arith, p.ends, p.inside)

  pub start_to_end : start_from (length s) N k ≤ end_of N k
  start_to_end = let p = part z k h in omega (arith, p.starts, p.ends, p.size)

-- the same of layer 0 of what the store test lets through
pub tested_start : (n : ℕ) (s : List ℕ) → tested s ≡ Ok n → start_from (length s) n 0 ≤ length s
tested_start n s e = start_inside (some_store s refl e) (omega arith)
