-- Many members of a formula in one call, for all inputs: as a fill of one store, over the formula's layer words. Refusals 2, 5, 6, then 7.
use Rattle.std.specs.Prelude.{cond, List, ℕ, eqb, length}
use Rattle.util.specs.Outcome.{Outcome}
use Rattle.store.specs.Answer.{numbered}
use Rattle.store.specs.Layout.{top}
use Rattle.walk.specs.declared.Cursor.{Cursor}
use Rattle.walk_fill.specs.Fill.{Filled, stopped, fill_from, filled}
use Rattle.walk_fill.specs.declared.Stop.TheVariants.{Refused}
use Rattle.formula_ask.specs.Calls.{cap_of, formula_words}
use Rattle.formula_walk.specs.Calls.{refusal_in}

unfoldable pub formula_fill_in : List (List ℕ) → List ℕ → Cursor → ℕ → ℕ → Filled
formula_fill_in ss cs c b m =
    let no = refusal_in ss cs c in
    let f = fill_from (formula_words ss cs) (top (cap_of ss)) m b c in
    cond (eqb no 0) f (stopped (Refused (numbered no)) 0 c)

abbrev pub formula_fill_of : List (List ℕ) → List ℕ → Cursor → ℕ → List ℕ → Outcome (List ℕ)
formula_fill_of ss cs c b out = filled (formula_fill_in ss cs c b (length out)) out
