-- The calls of a walk, one after another until one answers the end: each a next at a budget of reads, or a fill of as many members as it
-- has places for or its budget allows, in any mix.
use Rattle.std.specs.Prelude.{Bool, true, false, List, [], ◌∷◌, ◌++◌, ◌≡◌, ℕ, ◌+◌, ◌≤◌, length}
use Rattle.walk.specs.Calls.{Fine}
use Rattle.walk.specs.Walk.{next}
use Rattle.walk.specs.declared.Cursor.{Cursor}
use Rattle.walk.specs.declared.Step.{Step}
use Rattle.walk_fill.specs.Fill.{Filled, stopped, go_on, fill_from}
use Rattle.walk_fill.specs.declared.Stop.{Stop}
use Rattle.walk_fill.specs.declared.Stop.TheVariants.{Full, Paused, End, Refused}

-- ---- one call

-- what a call is asked for: next at a budget, or fill at a budget and a number of places
pub data Ask : Type 0 where
  one : ℕ → Ask
  many : ℕ → ℕ → Ask

abbrev pub budget_of : Ask → ℕ
budget_of (one b) = b
budget_of (many b m) = b

-- how many members it may hand out
abbrev pub room_of : Ask → ℕ
room_of (one b) = 1
room_of (many b m) = m

-- an answer of next, told as that of a fill of one place: with a member it is full
abbrev pub alone : Step → Filled
alone a = go_on a.answer a.reads a.cursor (stopped Full 0)

-- a call, by what next does with a budget, and fill with a budget and a number of places
abbrev pub asked_of : (ℕ → Cursor → Step) → (ℕ → ℕ → Cursor → Filled) → Ask → Cursor → Filled
asked_of nexts fills (one b) c = alone (nexts b c)
asked_of nexts fills (many b m) c = fills b m c

-- a stop at budget b and m places, with the ids handed out and the reads: all places taken, or all of the budget spent, or the end; the
-- reads are within the budget, the ids within the places, and it is never a refusal
pub data Stopped (b m : ℕ) : Stop → ℕ → ℕ → Type 0 where
  full : {r : ℕ} → r ≤ b → Stopped b m Full m r
  paused : {n : ℕ} → n ≤ m → Stopped b m Paused n b
  ended : {n r : ℕ} → n ≤ m → r ≤ b → Stopped b m End n r

abbrev pub Keeps : ℕ → ℕ → Filled → Type 0
Keeps b m f = Stopped b m f.stop (length f.ids) f.reads

-- ---- calls one after another

-- every budget and every number of places of a list is one or more
abbrev pub Some : List Ask → Type 0
Some [] = Unit {0}
Some (a ∷ l) = (1 ≤ budget_of a) × (1 ≤ room_of a) × Some l

-- the members handed out, the reads made, and whether the end was answered
pub record Run : Type 0 where
  pub members : List ℕ
  pub total : ℕ
  pub over : Bool

-- one call before what the later ones do; the end and a refusal stop it
abbrev pub onward : Stop → List ℕ → ℕ → Run → Run
onward Full l r w = record { members = l ++ w.members; total = r + w.total; over = w.over }
onward Paused l r w = record { members = l ++ w.members; total = r + w.total; over = w.over }
onward End l r w = record { members = l; total = r; over = true }
onward (Refused n) l r w = record { members = l; total = r; over = false }

-- a call for each ask of a list, by what one does at a cursor
unfoldable pub run_by : (Ask → Cursor → Filled) → Cursor → List Ask → Run
run_by call c [] = record { members = []; total = 0; over = false }
run_by call c (a ∷ l) = let f = call a c in onward f.stop f.ids f.reads (run_by call f.cursor l)

-- every call of a list stops so
unfoldable pub AllStopped : (Ask → Cursor → Filled) → List Ask → Cursor → Type 0
AllStopped call [] c = Unit {0}
AllStopped call (a ∷ l) c = let f = call a c in Keeps (budget_of a) (room_of a) f × AllStopped call l f.cursor

-- ---- over any layer words, with t the top layer

-- a fill for what a call is asked for: a next is one of a single place
abbrev pub fill_at : (ℕ → ℕ → ℕ) → ℕ → Ask → Cursor → Filled
fill_at lw t a c = fill_from lw t (room_of a) (budget_of a) c

-- calls that are next, and fill, over the layer words at every cursor whose prefixes fit
abbrev pub Nexts : (ℕ → ℕ → ℕ) → ℕ → (ℕ → Cursor → Step) → Type 0
Nexts lw t call = (b : ℕ) (c : Cursor) → Fine t c.prefix → call b c ≡ next lw t b c

abbrev pub Fills : (ℕ → ℕ → ℕ) → ℕ → (ℕ → ℕ → Cursor → Filled) → Type 0
Fills lw t call = (b m : ℕ) (c : Cursor) → Fine t c.prefix → call b m c ≡ fill_from lw t m b c
