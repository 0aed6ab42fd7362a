-- Calls one after another: where they end they have handed out and read all that the cursor had, and enough of them do end. Over any layer
-- words.
use mathlib.Core.Bool.{true, true≢false}
use mathlib.Core.List.{List, [], ◌∷◌, ◌++◌, append-nil}
use mathlib.Core.Path.{◌≡◌, refl, sym, ap, ◌∙◌}
use Prim.Native.Nat.{ℕ, zero, suc, ◌+◌, ◌≤◌, ◌<◌}
use native.Mathlib.Omega.{arith}
use lib.ListN.{length, length-append, replicate}
use Rattle.walk.specs.Walk.{start_at}
use Rattle.walk.specs.declared.Cursor.{Cursor}
use Rattle.walk_fill.specs.Fill.{Filled}
use Rattle.walk_fill.specs.declared.Stop.{Stop}
use Rattle.walk_fill.specs.declared.Stop.TheVariants.{Full, Paused as StopPaused, End as StopEnd, Refused as StopRefused}
use Rattle.walk_laws.specs.Calls.{Ask, budget_of, room_of, Stopped, Some, Run, onward, run_by, fill_at}
use Rattle.walk_laws.specs.Calls.Ask.{one}
use Rattle.walk_laws.specs.Calls.Stopped.{full, paused, ended}
use Rattle.walk_laws.specs.Under.{all_ids, all_reads}
use Rattle.walk_laws.specs.Walks.{Bounded}
use Rattle.walk_laws.proofs.Fills.{FillMoved, fill_moved}
use Rattle.walk_laws.proofs.Rest.{rest, cost, start_rest, start_cost}
use Rattle.walk_laws.proofs.Taken.{Wf, start_wf}

module _ (lw : ℕ → ℕ → ℕ) (bounded : Bounded lw) (t : ℕ) where
  whole_from : (l : List Ask) (c : Cursor) → Wf t c → (run_by (fill_at lw t) c l).over ≡ true
      → ((run_by (fill_at lw t) c l).members ≡ rest lw t c (suc t)) × ((run_by (fill_at lw t) c l).total ≡ cost lw t c (suc t))
  unfolding run_by
  whole_from [] c wf e = absurd (true≢false (sym e))
  whole_from (a ∷ l) c wf e =
      let f = fill_at lw t a c in
      let m = fill_moved lw bounded t (room_of a) (budget_of a) c wf in
      go f.stop refl m (λ h. whole_from l f.cursor m.wf h) e
    where
      f : Filled
      f = fill_at lw t a c

      later : Run
      later = run_by (fill_at lw t) f.cursor l

      go : (o : Stop) → f.stop ≡ o → FillMoved lw t (budget_of a) (room_of a) c f
          → (later.over ≡ true → (later.members ≡ rest lw t f.cursor (suc t)) × (later.total ≡ cost lw t f.cursor (suc t)))
          → (onward o f.ids f.reads later).over ≡ true
          → ((onward o f.ids f.reads later).members ≡ rest lw t c (suc t)) × ((onward o f.ids f.reads later).total ≡ cost lw t c (suc t))
      go Full q m ih e = let i = ih e in (ap (λ (x : List ℕ). f.ids ++ x) i.0 ∙ sym m.moves.ids, omega (arith, i.1, m.moves.count))
      go StopPaused q m ih e = let i = ih e in (ap (λ (x : List ℕ). f.ids ++ x) i.0 ∙ sym m.moves.ids, omega (arith, i.1, m.moves.count))
      go StopEnd q m ih e = (
        sym (m.moves.ids ∙ ap (λ (x : List ℕ). f.ids ++ x) (m.over q).0 ∙ append-nil f.ids),
        omega (arith, (m.over q).1, m.moves.count),
      )
      go (StopRefused n) q m ih e = absurd (true≢false (sym e))

  -- one that does not end makes what is left less
  ends_from : (l : List Ask) (c : Cursor) → Wf t c → Some l → cost lw t c (suc t) + length (rest lw t c (suc t)) < length l → (run_by (fill_at lw t) c l).over ≡ true
  unfolding run_by
  ends_from [] c wf s h = absurd (omega arith)
  ends_from (a ∷ l) c wf s h =
      let f = fill_at lw t a c in
      let m = fill_moved lw bounded t (room_of a) (budget_of a) c wf in
      let e : length (rest lw t c (suc t)) ≡ length f.ids + length (rest lw t f.cursor (suc t)) = ap length m.moves.ids ∙ length-append f.ids (rest lw t f.cursor (suc t)) in
      go f.stop m.kept (λ p. ends_from l f.cursor m.wf s.2 (omega (arith, h, e, m.moves.count, p)))
    where
      later : Run
      later = run_by (fill_at lw t) (fill_at lw t a c).cursor l

      go : (o : Stop) {n r : ℕ} → Stopped (budget_of a) (room_of a) o n r → (1 ≤ r + n → later.over ≡ true) → (onward o (fill_at lw t a c).ids (fill_at lw t a c).reads later).over ≡ true
      go Full (full x) ih = ih (omega (arith, s.1))
      go StopPaused (paused x) ih = ih (omega (arith, s.0))
      go StopEnd (ended x y) ih = refl
      go (StopRefused _) x ih = elim x [ ]

  -- THE WALK. Whatever the calls, next and fill mixed, and their budgets and places: a walk that ends has handed out exactly the ids below
  -- the top word, in the definition's order, and with the start's read it has reported the definition's count.
  pub walk_all : (l : List Ask) → (run_by (fill_at lw t) (start_at t (lw t 0)) l).over ≡ true
      → ((run_by (fill_at lw t) (start_at t (lw t 0)) l).members ≡ all_ids lw t) × (1 + (run_by (fill_at lw t) (start_at t (lw t 0)) l).total ≡ all_reads lw t)
  walk_all l e =
      let r = whole_from l (start_at t (lw t 0)) (start_wf t (lw t 0) (bounded t 0)) e in
      (r.0 ∙ start_rest lw t, ap (λ (x : ℕ). 1 + x) r.1 ∙ start_cost lw t)

  -- It ends once its calls, each with a budget and places of one or more, are as many as its members and its reads together.
  pub run_ends : (l : List Ask) → Some l → all_reads lw t + length (all_ids lw t) ≤ length l → (run_by (fill_at lw t) (start_at t (lw t 0)) l).over ≡ true
  run_ends l s h =
      ends_from l (start_at t (lw t 0)) (start_wf t (lw t 0) (bounded t 0)) s (omega (arith, start_cost lw t, ap length (start_rest lw t)))

-- such calls there are, of any number
pub some_asks : (n : ℕ) → Some (replicate n (one 1))
some_asks zero = tt
some_asks (suc n) = (omega arith, omega arith, some_asks n)
