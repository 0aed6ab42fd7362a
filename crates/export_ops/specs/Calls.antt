-- Or, and, xor in place for a caller in C. What is promised of the first store is what `ops` promises, its exception with it
-- (docs/EXCEPTIONS.md).
use Rattle.std.specs.Prelude.{List, ℕ}
use Rattle.store.specs.Answer.{did_paper}
use Rattle.ops_merge.specs.Calls.{assign_of, Assigned}

-- the store s, with t merged into it, may be left as u
abbrev pub Leaves : ℕ → List ℕ → List ℕ → List ℕ → Type 0
Leaves op s t u = Assigned op s t (did_paper.answer (assign_of op s t).numbers) u
