-- What each way out of the code answers is what the definition answers there.
use mathlib.Core.Bool.{true, cond}
use mathlib.Core.List.{List}
use mathlib.Core.Logic.{◌≢◌}
use mathlib.Core.Path.{◌≡◌, sym, ap, ap₂, ◌∙◌}
use Prim.Native.Nat.{ℕ, ◌%◌, ◌<◌}
use native.Mathlib.Omega.{arith}
use borrow.Author.Tests.{ne_eqb}
use lib.Dec.{eqb}
use lib.ListN.{length, get_or}
use Rattle.std.specs.Prelude.{Ok, Err}
use Rattle.util.specs.Outcome.{Settled, settled}
use Rattle.store.specs.Answer.{numbered}
use Rattle.store.specs.Layout.{top_most, top, cap}
use Rattle.store.specs.declared.Refusal.{Refusal}
use Rattle.store.proofs.TopLayer.{top_is, top_high}
use Rattle.walk.specs.Calls.{fits}
use Rattle.walk.specs.Steps.{refusal_of}
use Rattle.walk.specs.declared.Cursor.{Cursor}
use Rattle.walk_fill.specs.Fill.{Filled, stopped, fill_from, batch_paper, filled}
use Rattle.walk_fill.specs.declared.Batch.{Batch}
use Rattle.walk_fill.specs.declared.Stop.TheVariants.{Refused}
use Rattle.walk_fill.proofs.Fills.{fill_same, fill_answered}
use Rattle.formula_codes.specs.Check.{check_of}
use Rattle.formula_codes.specs.Formula.{slices, sized}
use Rattle.formula_codes.specs.declared.Formula.{Formula}
use Rattle.formula_codes.specs.Tree.{nth}
use Rattle.formula_codes.proofs.Accepted.{lent_beside}
use Rattle.formula_codes.proofs.Sized.{sized_passed, sized_refused}
use Rattle.formula_ask.specs.Calls.{formula_words}
use Rattle.formula_sink.specs.Steps.{words_of}
use Rattle.formula_walk.specs.Calls.{refusal_in}
use Rattle.formula_walk.proofs.Answers.{refusal_same, walked_words}
use Rattle.formula_pair.specs.Pair.{pair_words, fill_words, filled_words}
use Rattle.formula_pair_codes.specs.Pairs.{is_pair, named_words}
use Rattle.formula_pair_codes.proofs.Laws.{pair_of}
use Rattle.formula_fill.specs.Calls.{formula_fill_in, formula_fill_of}
use Rattle.formula_fill.proofs.Pairs.{pair_words_lem}

module _ (f : Formula) (k : Cursor) (m : ℕ) (out : List ℕ) where
  abbrev ss : List (List ℕ)
  ss = slices f

  abbrev cs : List ℕ
  cs = f.codes.now

  -- ---- refused

  -- by the number that the walk is refused for
  refused_by : {x : Refusal} (n : ℕ) → n ≢ 0 → n ≡ refusal_in ss cs k → x ≡ numbered n → {r : Batch} → r ≡ record { cursor = k; reads = 0; count = 0; stop = Refused x }
      → Settled batch_paper (formula_fill_of ss cs k m out) r out
  unfolding formula_fill_in
  refused_by {x} n h e x-is {r} is =
      let w : formula_fill_in ss cs k m (length out) ≡ stopped (Refused (numbered n)) 0 k = rw (← e, ne_eqb n 0 h) in
      settled (ap (λ (z : Filled). filled z out) w ∙ ap (λ (z : Batch). record { numbers = batch_paper.numbers z; lent = out })
      (sym (is ∙ ap (λ (y : Refusal). record { cursor = k; reads = 0; count = 0; stop = Refused y }) x-is)))

  pub fill_refused : {x : Refusal} (r : Batch) → Err x ≡ sized ss (check_of ss cs) → r ≡ record { cursor = k; reads = 0; count = 0; stop = Refused x }
      → Settled batch_paper (formula_fill_of ss cs k m out) r out
  unfolding refusal_in
  fill_refused r e is =
      let z = sized_refused ss (check_of ss cs) e in
      refused_by (check_of ss cs) z.0 (sym (rw (ne_eqb (check_of ss cs) 0 z.0))) z.1 is

  pub fill_cursor : {x : Refusal} {n : ℕ} (r : Batch) → Ok n ≡ sized ss (check_of ss cs) → (refusal_of n (fits (top n) k) ≢ 0) × (x ≡ numbered (refusal_of n (fits (top n) k)))
      → r ≡ record { cursor = k; reads = 0; count = 0; stop = Refused x } → Settled batch_paper (formula_fill_of ss cs k m out) r out
  fill_cursor {n = n} r e h is = refused_by (refusal_of n (fits (top n) k)) h.0 (sym (refusal_same f k e)) h.1 is

  module _ (four : length f.stores ≡ 4) {n : ℕ} (e : Ok n ≡ sized ss (check_of ss cs)) where
    -- ---- any codes

    pub fill_runs : {d : Cursor} → (refusal_of n (fits (top n) k) ≡ 0) × (d ≡ k) → {g : Formula} {N : ℕ} → (g ≡ f) × (N ≡ cap (nth ss 0)) → {r : Batch} {x : List ℕ}
        → Settled batch_paper (filled (fill_from (words_of g N) top_most (length out) m d) out) r x → Settled batch_paper (formula_fill_of ss cs k m out) r x
    unfolding formula_fill_in
    fill_runs {d} h {g} {N} q s =
        let C = cap (nth ss 0) in
        let z = sized_passed ss (check_of ss cs) e in
        let w : formula_fill_in ss cs k m (length out) ≡ fill_from (formula_words ss cs) (top C) (length out) m k = rw (refusal_same f k e, h.0) in
        fill_answered out (ap₂ (λ (g : Formula) (x : ℕ). fill_from (words_of g x) top_most (length out) m d) q.0 q.1
        ∙ ap₂ (λ (t : ℕ) (c : Cursor). fill_from (words_of f C) t (length out) m c) (sym (top_is C)) h.1
        ∙ fill_same (words_of f C) (formula_words ss cs) (top C) (λ j i l. walked_words f four z.0 j i (omega arith)) (length out) m k ∙ sym w) s

    -- ---- two stores and what joins them: the fill of a pair refuses what is left to refuse, a cursor

    module _ (p : true ≡ is_pair cs) where
      -- the two words that are joined are the formula's
      named_words_lem : (j i : ℕ) → j < top_most → named_words ss cs j i ≡ formula_words ss cs j i
      named_words_lem j i h =
          let q = pair_of cs (sym p) in
          let z = sized_passed ss (check_of ss cs) e in
          let u : get_or cs 0 0 % 4 ≡ get_or cs 0 0 = omega (arith, q.first) in
          let v : get_or cs 1 0 % 4 ≡ get_or cs 1 0 = omega (arith, q.second) in
          ap₂ (λ (x y : ℕ). pair_words (get_or cs 2 0) (nth ss x) (nth ss y) j i) u v ∙ pair_words_lem ss cs (lent_beside f four z.0) q j i h

      pair_fills : fill_words (named_words ss cs) n k m (length out) ≡ formula_fill_in ss cs k m (length out)
      unfolding formula_fill_in fill_words
      pair_fills =
          let no = refusal_of n (fits (top n) k) in
          let z = sized_passed ss (check_of ss cs) e in
          let below : (j i : ℕ) → j < top n → named_words ss cs j i ≡ formula_words ss cs j i = λ j i h. named_words_lem j i (omega (arith, h, top_high n)) in
          let w = fill_same (named_words ss cs) (formula_words ss cs) (top n) below (length out) m k ∙ ap (λ (t : ℕ). fill_from (formula_words ss cs) t (length out) m k) (ap top z.1) in
          rw (refusal_same f k e) (ap (λ (y : Filled). cond (eqb no 0) y (stopped (Refused (numbered no)) 0 k)) w)

      pub fill_joins : {r : Batch} {x : List ℕ} → Settled batch_paper (filled_words (named_words ss cs) n k m out) r x → Settled batch_paper (formula_fill_of ss cs k m out) r x
      fill_joins s = fill_answered out pair_fills s
