-- What each way out of the code answers is what the definition answers there.
use mathlib.Core.Bool.{Bool, true, false, cond}
use mathlib.Core.List.{List}
use mathlib.Core.Logic.{◌≢◌}
use mathlib.Core.Path.{◌≡◌, refl, sym, ap, ◌∙◌, ap₂}
use Prim.Native.Nat.{ℕ, ◌≤◌}
use native.Mathlib.Omega.{arith}
use borrow.Author.Tests.{ne_eqb, eqb-true}
use lib.Dec.{eqb}
use lib.ListN.{length}
use Rattle.std.specs.Prelude.{Result, Ok, Err, IsErrAnd}
use Rattle.util.specs.Outcome.{Settled}
use Rattle.store.specs.Answer.{numbered}
use Rattle.store.specs.Layout.{top, cap, top_most}
use Rattle.store.specs.declared.Refusal.{Refusal}
use Rattle.store.proofs.TopLayer.{top_is}
use Rattle.walk.specs.Calls.{step_paper, fits}
use Rattle.walk.specs.Checked.{Checked}
use Rattle.walk.specs.Steps.{refusal_of}
use Rattle.walk.specs.Walk.{start_at, next}
use Rattle.walk.specs.declared.Cursor.{Cursor}
use Rattle.walk.specs.declared.Next.TheVariants.{Paused, Refused}
use Rattle.walk.specs.declared.Step.{Step}
use Rattle.walk.specs.declared.over.Ready.{Ready}
use Rattle.walk.proofs.Answers.{answered}
use Rattle.walk.proofs.Turns.{next-same}
use Rattle.formula_codes.specs.Check.{check_of}
use Rattle.formula_codes.specs.Formula.{slices, sized}
use Rattle.formula_codes.specs.declared.Formula.{Formula}
use Rattle.formula_codes.specs.Tree.{nth}
use Rattle.formula_codes.proofs.Accepted.{accepted_first}
use Rattle.formula_codes.proofs.Sized.{sized_passed, sized_refused, sized_out}
use Rattle.formula_word.specs.Machine.{machine_word}
use Rattle.formula_word.proofs.Words.{machine_lent}
use Rattle.formula_ask.specs.Calls.{formula_words}
use Rattle.formula_sink.specs.Steps.{words_of}
use Rattle.formula_walk.specs.Calls.{formula_start_in, refusal_in, formula_next_in, formula_start_of, formula_next_of}

module _ (f : Formula) where
  abbrev ss : List (List ℕ)
  ss = slices f

  abbrev cs : List ℕ
  cs = f.codes.now

  -- ---- what a walk is refused for

  module _ (k : Cursor) where
    pub check_formula : {x : Refusal} → Err x ≡ sized ss (check_of ss cs) → (q : Result Ready Refusal) → IsErrAnd q (λ y. y ≡ x) → Checked (refusal_in ss cs k) k q
    unfolding refusal_in
    check_formula e q o =
        let p = sized_out ss (check_of ss cs) e o in
        let r : refusal_in ss cs k ≡ check_of ss cs = rw (ne_eqb (check_of ss cs) 0 p.0) in
        rw (r, p.1) (p.0, refl)

    -- past the formula's refusals it is that of the cursor, on the capacity
    pub refusal_same : {n : ℕ} → Ok n ≡ sized ss (check_of ss cs) → refusal_in ss cs k ≡ refusal_of n (fits (top n) k)
    unfolding refusal_in refusal_of
    refusal_same {n} e =
        let z = sized_passed ss (check_of ss cs) e in
        let some : n ≢ 0 = λ q. omega (arith, q, z.1, (accepted_first ss cs z.0).some) in
        rw (z.0, ← z.1, ne_eqb n 0 some)

    pub check_cursor : {n : ℕ} → Ok n ≡ sized ss (check_of ss cs) → (q : Result Ready Refusal) → Checked (refusal_of n (fits (top n) k)) k q → Checked (refusal_in ss cs k) k q
    check_cursor e q h = rw (refusal_same e) h

  -- ---- the start

  module _ (k : Cursor) where
    pub start_refused : {x : Refusal} (r : Step) → Err x ≡ sized ss (check_of ss cs) → r ≡ record { cursor = k; reads = 0; answer = Refused x } → Settled step_paper (formula_start_of ss cs k) r tt
    unfolding formula_start_in
    start_refused r e is =
        let p = sized_refused ss (check_of ss cs) e in
        answered (is ∙ ap (λ (y : Refusal). record { cursor = k; reads = 0; answer = Refused y }) p.1 ∙ sym (rw (ne_eqb (check_of ss cs) 0 p.0)))

    pub start_runs : length f.stores ≡ 4 → {n t w : ℕ} → Ok n ≡ sized ss (check_of ss cs) → t ≡ top n → w ≡ machine_word n ss cs t 0
        → record { cursor = start_at top_most w; reads = 1; answer = Paused } ≡ formula_start_in ss cs k
    unfolding formula_start_in
    start_runs four {n} {t} {w} e t-is w-is =
        let z = sized_passed ss (check_of ss cs) e in
        let T : t ≡ top (cap (nth ss 0)) = t-is ∙ ap top z.1 in
        let v : w ≡ formula_words ss cs (top (cap (nth ss 0))) 0 =
        w-is ∙ ap₂ (λ (x y : ℕ). machine_word x ss cs y 0) z.1 T ∙ machine_lent f (top (cap (nth ss 0))) 0 four z.0 (omega arith) in
        ap₂ (λ (t x : ℕ). record { cursor = start_at t x; reads = 1; answer = Paused }) (sym (top_is (cap (nth ss 0)))) v ∙ sym (rw z.0)

  -- ---- next

  -- nothing is refused: the codes are a formula
  none_refused : (k : Cursor) → refusal_in ss cs k ≡ 0 → check_of ss cs ≡ 0
  unfolding refusal_in
  none_refused k h = go (eqb (check_of ss cs) 0) refl (fits (top (cap (nth ss 0))) k) h
    where
      go : (x : Bool) → eqb (check_of ss cs) 0 ≡ x → (y : Bool) → cond x (cond y 0 7) (check_of ss cs) ≡ 0 → check_of ss cs ≡ 0
      go true e y z = eqb-true (check_of ss cs) 0 e
      go false e y z = z

  -- the machine's words are then the formula's
  pub walked_words : length f.stores ≡ 4 → check_of ss cs ≡ 0 → (k i : ℕ) → k ≤ top (cap (nth ss 0)) → words_of f (cap (nth ss 0)) k i ≡ formula_words ss cs k i
  walked_words four e k i h = machine_lent f k i four e h

  module _ (k : Cursor) (b : ℕ) where
    pub next_refused : {x : Refusal} (r : Step) → (refusal_in ss cs k ≢ 0) × (x ≡ numbered (refusal_in ss cs k)) → r ≡ record { cursor = k; reads = 0; answer = Refused x }
        → Settled step_paper (formula_next_of ss cs k b) r tt
    unfolding formula_next_in
    next_refused r h is = answered (is ∙ ap (λ (y : Refusal). record { cursor = k; reads = 0; answer = Refused y }) h.1 ∙ sym (rw (ne_eqb (refusal_in ss cs k) 0 h.0)))

    pub next_runs : length f.stores ≡ 4 → {d : Cursor} → (refusal_in ss cs k ≡ 0) × (d ≡ k) → {g : Formula} {n : ℕ} → (g ≡ f) × (n ≡ cap (nth ss 0))
        → next (words_of g n) top_most b d ≡ formula_next_in ss cs k b
    unfolding formula_next_in
    next_runs four {d} h {g} {n} e =
        let N = cap (nth ss 0) in
        ap₂ (λ (g : Formula) (x : ℕ). next (words_of g x) top_most b d) e.0 e.1
        ∙ ap₂ (λ (t : ℕ) (c : Cursor). next (words_of f N) t b c) (sym (top_is N)) h.1
        ∙ next-same (words_of f N) (formula_words ss cs) (top N) (λ j i l. walked_words four (none_refused k h.0) j i (omega arith)) b k
        ∙ sym (rw h.0)

pub ruleset checks = (check_formula, check_cursor)

pub ruleset starts = (answered, start_refused, start_runs)

pub ruleset nexts = (answered, next_refused, next_runs)
