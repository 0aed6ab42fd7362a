-- The walk as a C caller has it: a cursor is lent as ten words, and an answer is two numbers. Every definition here computes.
use Rattle.std.specs.Prelude.{List, ℕ, length}
use Rattle.walk.specs.Calls.{start_in, next_in}
use Rattle.walk.specs.declared.Step.{Step}
use Rattle.walk_fill.specs.Fill.{Filled, fill_in}
use Rattle.export_cursor.specs.Ten.{cursor_of}

-- ---- the calls on a store s and the words l

abbrev pub walk_started : List ℕ → List ℕ → Step
walk_started s l = start_in s (cursor_of l)

abbrev pub walk_stepped : List ℕ → List ℕ → ℕ → Step
walk_stepped s l b = next_in s (cursor_of l) b

abbrev pub walk_filled : List ℕ → List ℕ → ℕ → List ℕ → Filled
walk_filled s l b out = fill_in s (cursor_of l) b (length out)
