-- The start of a walk over a formula as a C caller has it, over the four slices ss, the codes cs and the ten words l.
use Rattle.std.specs.Prelude.{List, ℕ}
use Rattle.walk.specs.declared.Step.{Step}
use Rattle.formula_walk.specs.Calls.{formula_start_in}
use Rattle.export_cursor.specs.Ten.{cursor_of}

abbrev pub formula_started : List (List ℕ) → List ℕ → List ℕ → Step
formula_started ss cs l = formula_start_in ss cs (cursor_of l)
