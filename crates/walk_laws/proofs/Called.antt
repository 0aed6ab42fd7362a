-- Calls that are the walk over layer words, one after another from the start: one store and a formula are instances.
use mathlib.Core.Bool.{true}
use mathlib.Core.List.{List, [], ◌∷◌, map}
use mathlib.Core.Path.{◌≡◌, refl, sym, ap, ◌∙◌, subst}
use Prim.Native.Nat.{ℕ, ◌+◌, ◌≤◌}
use lib.ListN.{length}
use Rattle.walk.specs.Calls.{Fine}
use Rattle.walk.specs.Walk.{start_at, next}
use Rattle.walk.specs.declared.Cursor.{Cursor}
use Rattle.walk.specs.declared.Next.{Next}
use Rattle.walk.specs.declared.Next.TheVariants.{Member, Paused, End, Refused}
use Rattle.walk.specs.declared.Step.{Step}
use Rattle.walk_fill.specs.Fill.{Filled, fill_from}
use Rattle.walk_laws.specs.Calls.{Ask, budget_of, room_of, alone, asked_of, Keeps, Some, Run, onward, run_by, AllStopped, fill_at, Nexts, Fills}
use Rattle.walk_laws.specs.Calls.Ask.{one, many}
use Rattle.walk_laws.specs.Under.{all_ids, all_reads}
use Rattle.walk_laws.specs.Walks.{Bounded, Full, spaced_by, Spaced, SpacedAs}
use Rattle.walk_laws.proofs.Ends.{run_ends, walk_all}
use Rattle.walk_laws.proofs.Fills.{fill_moved}
use Rattle.walk_laws.proofs.Gaps.{spaced}
use Rattle.walk_laws.proofs.Nexts.{as_nexts}
use Rattle.walk_laws.proofs.Prefixes.{next_fine}
use Rattle.walk_laws.proofs.Rest.{moved_next}
use Rattle.walk_laws.proofs.Taken.{Wf, start_wf, start_fine}

module _ (lw : ℕ → ℕ → ℕ) (bounded : Bounded lw) (t : ℕ) (call : ℕ → Cursor → Step) (is : Nexts lw t call) where
  spaced_from : (bs : List ℕ) (c : Cursor) (r : ℕ) → Wf t c → Fine t c.prefix → Spaced t (next lw t) bs c r → Spaced t call bs c r
  unfolding Spaced
  spaced_from [] c r wf f h = tt
  spaced_from (b ∷ bs) c r wf f h =
      subst (λ (x : Step). spaced_by t x.answer (r + x.reads) (Spaced t call bs x.cursor)) (sym (is b c f))
      (go a.answer (r + a.reads) (λ n. spaced_from bs a.cursor n (moved_next lw bounded t b c wf).wf (next_fine lw bounded t b c wf f)) h)
    where
      a : Step
      a = next lw t b c

      go : (o : Next) (n : ℕ) → {P Q : ℕ → Type 0} → ((m : ℕ) → P m → Q m) → spaced_by t o n P → spaced_by t o n Q
      go (Member v) n f h = (h.0, f 0 h.1)
      go Paused n f h = (h.0, f n h.1)
      go End n f h = h
      go (Refused m) n f h = h

  -- where every set summary bit stands over a word that is not 0: at most t words before each next member, and none before the end
  pub calls_spaced : Full lw t → (bs : List ℕ) → Spaced t call bs (start_at t (lw t 0)) 0
  calls_spaced full bs =
      spaced_from bs (start_at t (lw t 0)) 0 (start_wf t (lw t 0) (bounded t 0)) (start_fine t (lw t 0)) (spaced lw bounded t full bs)

-- ---- next and fill, in any mix

-- a next is a fill of one place
one_place : (lw : ℕ → ℕ → ℕ) (t b : ℕ) (c : Cursor) → alone (next lw t b c) ≡ fill_from lw t 1 b c
unfolding fill_from
one_place lw t b c = refl

module _ (lw : ℕ → ℕ → ℕ) (bounded : Bounded lw) (t : ℕ) (nexts : ℕ → Cursor → Step) (fills : ℕ → ℕ → Cursor → Filled) where
  abbrev call : Ask → Cursor → Filled
  call = asked_of nexts fills

  abbrev begin : Cursor
  begin = start_at t (lw t 0)

  module _ (is : Nexts lw t nexts) (are : Fills lw t fills) where
    call_is : (a : Ask) (c : Cursor) → Fine t c.prefix → call a c ≡ fill_at lw t a c
    call_is (one b) c f = ap alone (is b c f) ∙ one_place lw t b c
    call_is (many b m) c f = are b m c f

    calls_are : (l : List Ask) (c : Cursor) → Wf t c → Fine t c.prefix → (run_by call c l ≡ run_by (fill_at lw t) c l) × AllStopped call l c
    unfolding run_by AllStopped
    calls_are [] c wf f = (refl, tt)
    calls_are (a ∷ l) c wf f =
        let g = fill_at lw t a c in
        let m = fill_moved lw bounded t (room_of a) (budget_of a) c wf in
        let i = calls_are l g.cursor m.wf (m.fine f) in (
          ap (λ (x : Filled). onward x.stop x.ids x.reads (run_by call x.cursor l)) (call_is a c f) ∙ ap (onward g.stop g.ids g.reads) i.0,
          subst (λ (x : Filled). Keeps (budget_of a) (room_of a) x × AllStopped call l x.cursor) (sym (call_is a c f)) (m.kept, i.1),
        )

    from_start : (l : List Ask) → (run_by call begin l ≡ run_by (fill_at lw t) begin l) × AllStopped call l begin
    from_start l = calls_are l begin (start_wf t (lw t 0) (bounded t 0)) (start_fine t (lw t 0))

    -- no call refuses or reads past its budget, and a paused one has spent it
    pub calls_kept : (l : List Ask) → AllStopped call l begin
    calls_kept l = (from_start l).1

    -- calls that end have handed out the ids below the top word and, with the start's read, reported the definition's count
    pub calls_defined : (l : List Ask) → (run_by call begin l).over ≡ true
        → ((run_by call begin l).members ≡ all_ids lw t) × (1 + (run_by call begin l).total ≡ all_reads lw t)
    calls_defined l e =
        let w = (from_start l).0 in
        let r = walk_all lw bounded t l (sym (ap (λ (x : Run). x.over) w) ∙ e) in
        (ap (λ (x : Run). x.members) w ∙ r.0, ap (λ (x : Run). 1 + x.total) w ∙ r.1)

    -- and enough calls end it
    pub calls_over : (l : List Ask) → Some l → all_reads lw t + length (all_ids lw t) ≤ length l → (run_by call begin l).over ≡ true
    calls_over l some h = ap (λ (x : Run). x.over) (from_start l).0 ∙ run_ends lw bounded t l some h

    -- where every set summary bit stands over a word that is not 0, calls in any mix are as spaced as next alone
    pub calls_spaced_as : Full lw t → (l : List Ask) → SpacedAs t nexts fills l begin
    calls_spaced_as full l =
        let n = as_nexts lw t l begin in
        record { budgets = n.0; same = (from_start l).0 ∙ n.1 ∙ sym (from_start (map one n.0)).0; gaps = calls_spaced lw bounded t nexts is full n.0 }
