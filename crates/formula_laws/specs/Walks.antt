-- Walks over a formula by the public calls: started, and then a next or a fill for each ask of a list.
use mathlib.Core.List.{List, Memᴰ}
use Rattle.std.specs.Prelude.{◌↔◌, ◌≡◌, ℕ, ◌+◌, ◌<◌}
use Rattle.util.specs.Word.{Rising}
use Rattle.store.specs.Layout.{top}
use Rattle.walk.specs.declared.Cursor.{Cursor}
use Rattle.walk.specs.declared.Step.{Step}
use Rattle.walk_fill.specs.Fill.{Filled}
use Rattle.walk_laws.specs.Calls.{Ask, asked_of, Run, run_by}
use Rattle.walk_laws.specs.Under.{all_reads}
use Rattle.formula_codes.specs.Codes.{tree_of}
use Rattle.formula_ask.specs.Calls.{cap_of, formula_words}
use Rattle.formula_walk.specs.Calls.{formula_start_in, formula_next_in}
use Rattle.formula_fill.specs.Calls.{formula_fill_in}
use Rattle.formula_laws.specs.Members.{Among, formula_members}

-- a call of next and of fill, the budget first, and one of either by what it is asked for
abbrev pub next_over : List (List ℕ) → List ℕ → ℕ → Cursor → Step
next_over ss cs b c = formula_next_in ss cs c b

abbrev pub fill_over : List (List ℕ) → List ℕ → ℕ → ℕ → Cursor → Filled
fill_over ss cs b m c = formula_fill_in ss cs c b m

abbrev pub call_over : List (List ℕ) → List ℕ → Ask → Cursor → Filled
call_over ss cs = asked_of (next_over ss cs) (fill_over ss cs)

-- started with any cursor; the total is the reads after the start's
abbrev pub walk_over : List (List ℕ) → List ℕ → Cursor → List Ask → Run
walk_over ss cs c l = run_by (call_over ss cs) (formula_start_in ss cs c).cursor l

-- all words that a walk read, the start's among them
abbrev pub reads_of : List (List ℕ) → List ℕ → Cursor → Run → ℕ
reads_of ss cs c w = (formula_start_in ss cs c).reads + w.total

-- "a walk that ends has handed out exactly the formula's members, each once, ascending, and reported the count of words that the
-- definition says it reads"
pub record FormulaWalked (ss : List (List ℕ)) (cs : List ℕ) (c : Cursor) (w : Run) : Type 0 where
  pub members-all : w.members ≡ formula_members (cap_of ss) ss (tree_of cs)
  pub exact : (i : ℕ) → Memᴰ i w.members ↔ ((i < cap_of ss) × Among ss (tree_of cs) i)
  pub rising : Rising 0 w.members
  pub counted : reads_of ss cs c w ≡ all_reads (formula_words ss cs) (top (cap_of ss))
