-- Start and next over a formula, for all inputs. Document 01: "The public calls over a formula are `contains`, `is_empty`, the layer word and
-- the walk"; "a formula word counts one". Refusals 2, 5, 6, then 7.
use Rattle.std.specs.Prelude.{cond, List, ℕ, eqb}
use Rattle.util.specs.Outcome.{Outcome}
use Rattle.store.specs.Layout.{top}
use Rattle.walk.specs.Calls.{fits, refused, written}
use Rattle.walk.specs.Walk.{start_at, next}
use Rattle.walk.specs.declared.Cursor.{Cursor}
use Rattle.walk.specs.declared.Next.TheVariants.{Paused}
use Rattle.walk.specs.declared.Step.{Step}
use Rattle.formula_codes.specs.Check.{check_of}
use Rattle.formula_ask.specs.Calls.{cap_of, formula_words}

-- "Starting reads the top word and reports one read": the formula's, whatever the cursor given
unfoldable pub formula_start_in : List (List ℕ) → List ℕ → Cursor → Step
formula_start_in ss cs c =
    let t = top (cap_of ss) in
    let no = check_of ss cs in
    cond (eqb no 0) (record { cursor = start_at t (formula_words ss cs t 0); reads = 1; answer = Paused }) (refused no c)

-- the refusal of a walk at a cursor, or 0
unfoldable pub refusal_in : List (List ℕ) → List ℕ → Cursor → ℕ
refusal_in ss cs c =
    let no = check_of ss cs in
    cond (eqb no 0) (cond (fits (top (cap_of ss)) c) 0 7) no

-- the walk over the formula's layer words
unfoldable pub formula_next_in : List (List ℕ) → List ℕ → Cursor → ℕ → Step
formula_next_in ss cs c b =
    let no = refusal_in ss cs c in
    let a = next (formula_words ss cs) (top (cap_of ss)) b c in
    cond (eqb no 0) a (refused no c)

abbrev pub formula_start_of : List (List ℕ) → List ℕ → Cursor → Outcome (Unit {0})
formula_start_of ss cs c = written (formula_start_in ss cs c)

abbrev pub formula_next_of : List (List ℕ) → List ℕ → Cursor → ℕ → Outcome (Unit {0})
formula_next_of ss cs c b = written (formula_next_in ss cs c b)
