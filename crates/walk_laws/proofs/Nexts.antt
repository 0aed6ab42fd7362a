-- A fill is calls of next, one after another, at what is left of its budget; so calls of next and fill in any mix are calls of next alone.
-- Over any layer words.
use mathlib.Core.Bool.{Bool, true, false}
use mathlib.Core.List.{List, [], ◌∷◌, ◌++◌, map}
use mathlib.Core.Path.{◌≡◌, refl, sym, ap, ◌∙◌}
use Prim.Native.Nat.{ℕ, zero, suc, ◌+◌, ◌-◌}
use native.Mathlib.Omega.{arith}
use Rattle.walk.specs.Walk.{next}
use Rattle.walk.specs.declared.Cursor.{Cursor}
use Rattle.walk.specs.declared.Next.{Next}
use Rattle.walk.specs.declared.Next.TheVariants.{Member, Paused, End, Refused}
use Rattle.walk_fill.specs.Fill.{Filled, stopped, go_on, fill_from}
use Rattle.walk_fill.specs.declared.Stop.{Stop}
use Rattle.walk_fill.specs.declared.Stop.TheVariants.{Full, Paused as StopPaused, End as StopEnd, Refused as StopRefused}
use Rattle.walk_laws.specs.Calls.{Ask, budget_of, room_of, Run, onward, run_by, fill_at}
use Rattle.walk_laws.specs.Calls.Ask.{one}

-- ---- one next and the rest of a fill are the fill

-- runs that differ in how their total is summed
same_run : (l : List ℕ) (o : Bool) {x y : ℕ} → x ≡ y → ◌≡◌ {A = Run} (record { members = l; total = x; over = o }) (record { members = l; total = y; over = o })
same_run l o e = ap (λ (n : ℕ). record { members = l; total = n; over = o }) e

onward-more : (e : Stop) (v : ℕ) (ids : List ℕ) (r q : ℕ) (w : Run) → onward Full (v ∷ []) (r + 0) (onward e ids q w) ≡ onward e (v ∷ ids) (r + q) w
onward-more Full v ids r q w = same_run (v ∷ (ids ++ w.members)) w.over (omega arith)
onward-more StopPaused v ids r q w = same_run (v ∷ (ids ++ w.members)) w.over (omega arith)
onward-more StopEnd v ids r q w = same_run (v ∷ ids) true (omega arith)
onward-more (StopRefused n) v ids r q w = same_run (v ∷ ids) false (omega arith)

-- the budgets behind an answer of next: those of the rest of the fill behind a member, else those behind the fill
abbrev behind : Next → List ℕ → List ℕ → List ℕ
behind (Member v) later bs = later
behind Paused later bs = bs
behind End later bs = bs
behind (Refused n) later bs = bs

first_next : (o : Next) (r : ℕ) (d : Cursor) (fill : Cursor → Filled) (run : Cursor → List ℕ → Run) (later bs : List ℕ)
    → run d later ≡ (let f = fill d in onward f.stop f.ids f.reads (run f.cursor bs))
    → (let g = go_on o r d (stopped Full 0) in onward g.stop g.ids g.reads (run g.cursor (behind o later bs)))
    ≡ (let h = go_on o r d fill in onward h.stop h.ids h.reads (run h.cursor bs))
first_next (Member v) r d fill run later bs ih =
    ap (onward Full (v ∷ []) (r + 0)) ih ∙ onward-more (fill d).stop v (fill d).ids r (fill d).reads (run (fill d).cursor bs)
first_next Paused r d fill run later bs ih = refl
first_next End r d fill run later bs ih = refl
first_next (Refused n) r d fill run later bs ih = refl

-- ---- all calls

module _ (lw : ℕ → ℕ → ℕ) (t : ℕ) where
  -- the budgets of a fill's calls of next, before those behind it
  unfoldable fill_budgets : ℕ → ℕ → Cursor → List ℕ → List ℕ
  fill_budgets zero b c bs = bs
  fill_budgets (suc m) b c bs =
      let a = next lw t b c in
      b ∷ behind a.answer (fill_budgets m (b - a.reads) a.cursor bs) bs

  abbrev run : Cursor → List ℕ → Run
  run c bs = run_by (fill_at lw t) c (map one bs)

  fill_nexts : (m b : ℕ) (c : Cursor) (bs : List ℕ)
      → run c (fill_budgets m b c bs) ≡ (let f = fill_from lw t m b c in onward f.stop f.ids f.reads (run f.cursor bs))
  unfolding fill_budgets fill_from run_by
  fill_nexts zero b c bs = let w = run c bs in same_run w.members w.over (omega arith)
  fill_nexts (suc m) b c bs =
      let a = next lw t b c in
      first_next a.answer a.reads a.cursor (fill_from lw t m (b - a.reads)) run (fill_budgets m (b - a.reads) a.cursor bs) bs
      (fill_nexts m (b - a.reads) a.cursor bs)

  -- the budgets of all calls
  unfoldable next_budgets : List Ask → Cursor → List ℕ
  next_budgets [] c = []
  next_budgets (a ∷ l) c = fill_budgets (room_of a) (budget_of a) c (next_budgets l (fill_at lw t a c).cursor)

  as_budgets : (l : List Ask) (c : Cursor) → run_by (fill_at lw t) c l ≡ run c (next_budgets l c)
  unfolding next_budgets run_by
  as_budgets [] c = refl
  as_budgets (a ∷ l) c =
      let f = fill_at lw t a c in
      ap (onward f.stop f.ids f.reads) (as_budgets l f.cursor) ∙ sym (fill_nexts (room_of a) (budget_of a) c (next_budgets l f.cursor))

  -- calls in any mix hand out and read what calls of next alone do, at some budgets
  pub as_nexts : (l : List Ask) (c : Cursor) → (bs : List ℕ) × (run_by (fill_at lw t) c l ≡ run_by (fill_at lw t) c (map one bs))
  as_nexts l c = (next_budgets l c, as_budgets l c)
