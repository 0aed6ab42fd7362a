-- The walk over a formula as a C caller has it, over the four slices ss, the codes cs and the ten words l. Every definition here computes.
use Rattle.std.specs.Prelude.{List, ℕ, length}
use Rattle.walk.specs.declared.Step.{Step}
use Rattle.walk_fill.specs.Fill.{Filled}
use Rattle.formula_walk.specs.Calls.{formula_next_in}
use Rattle.formula_fill.specs.Calls.{formula_fill_in}
use Rattle.export_cursor.specs.Ten.{cursor_of}

abbrev pub formula_stepped : List (List ℕ) → List ℕ → List ℕ → ℕ → Step
formula_stepped ss cs l b = formula_next_in ss cs (cursor_of l) b

abbrev pub formula_filled : List (List ℕ) → List ℕ → List ℕ → ℕ → List ℕ → Filled
formula_filled ss cs l b out = formula_fill_in ss cs (cursor_of l) b (length out)
