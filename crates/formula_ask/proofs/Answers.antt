-- What each way out of the code answers is what the definition answers there.
use mathlib.Core.Bool.{Bool, true, false}
use mathlib.Core.List.{List}
use mathlib.Core.Path.{◌≡◌, sym, ap, ◌∙◌}
use Prim.Native.Nat.{ℕ, ◌/◌, ◌%◌, ◌≤◌, ◌<◌}
use native.Mathlib.Omega.{arith}
use borrow.Author.Tests.{le-leb, lt-leb, lt-ltb, le-ltb, ne_eqb}
use lib.Dec.{ltb, eqb}
use lib.ListN.{length}
use Rattle.std.specs.Prelude.{Result, Ok, Err, IsErrAnd}
use Rattle.util.specs.Outcome.{Settled, settled}
use Rattle.util.specs.Word.{bit}
use Rattle.store.specs.Answer.{asked_paper, number_paper}
use Rattle.store.specs.Layout.{top, cap}
use Rattle.store.specs.declared.Refusal.{Refusal}
use Rattle.store.specs.declared.Refusal.TheVariants.{Layer, Formula as NoFormula}
use Rattle.store.proofs.Exits.{number_numbered}
use Rattle.formula_codes.specs.Check.{stores_of, check_of}
use Rattle.formula_codes.specs.Codes.{tree_of, is_formula}
use Rattle.formula_codes.specs.Formula.{slices, sized}
use Rattle.formula_codes.specs.declared.Formula.{Formula}
use Rattle.formula_codes.specs.Tree.{nth, tree_word}
use Rattle.formula_codes.proofs.Accepted.{stores_small, check_small}
use Rattle.formula_codes.proofs.Sized.{sized_passed, sized_out}
use Rattle.formula_word.specs.Machine.{machine_word}
use Rattle.formula_word.proofs.Words.{machine_lent}
use Rattle.formula_ask.specs.Calls.{layer_word_of, formula_contains_of, formula_is_empty_of}

module _ (f : Formula) where
  abbrev ss : List (List ℕ)
  ss = slices f

  abbrev cs : List ℕ
  cs = f.codes.now

  -- ---- refused

  module _ {x : Refusal} (e : Err x ≡ sized ss (check_of ss cs)) {q : Result Bool Refusal} (o : IsErrAnd q (λ y. y ≡ x)) where
    pub contains_refused : (i : ℕ) → Settled asked_paper (formula_contains_of ss cs i) q tt
    unfolding formula_contains_of
    contains_refused i =
        let p = sized_out ss (check_of ss cs) e o in
        let n = number_numbered (check_of ss cs) (omega (arith, p.0)) (omega (arith, check_small ss cs)) in
        rw p.1 (settled (rw (n, ne_eqb (check_of ss cs) 0 p.0)))

    pub empty_refused : Settled asked_paper (formula_is_empty_of ss cs) q tt
    unfolding formula_is_empty_of
    empty_refused =
        let p = sized_out ss (check_of ss cs) e o in
        let n = number_numbered (check_of ss cs) (omega (arith, p.0)) (omega (arith, check_small ss cs)) in
        rw p.1 (settled (rw (n, ne_eqb (check_of ss cs) 0 p.0)))

  pub word_refused : {x : Refusal} → Err x ≡ sized ss (stores_of ss) → {q : Result ℕ Refusal} → IsErrAnd q (λ y. y ≡ x) → (k i : ℕ)
      → Settled number_paper (layer_word_of ss cs k i) q tt
  unfolding layer_word_of
  word_refused e o k i =
      let p = sized_out ss (stores_of ss) e o in
      let n = number_numbered (stores_of ss) (omega (arith, p.0)) (omega (arith, stores_small ss)) in
      rw p.1 (settled (rw (n, ne_eqb (stores_of ss) 0 p.0)))

  module _ {N : ℕ} (e : Ok N ≡ sized ss (stores_of ss)) (i : ℕ) where
    pub word_4 : (k : ℕ) → top N < k → Settled number_paper (layer_word_of ss cs k i) (Err Layer) tt
    unfolding layer_word_of
    word_4 k h = let z = sized_passed ss (stores_of ss) e in settled (rw (z.0, ← z.1, lt-leb k (top N) h))

    pub word_6 : (k : ℕ) → k ≤ top N → false ≡ is_formula ss cs → Settled number_paper (layer_word_of ss cs k i) (Err NoFormula) tt
    unfolding layer_word_of
    word_6 k l h = let z = sized_passed ss (stores_of ss) e in settled (rw (z.0, ← z.1, le-leb k (top N) l, ← h))

  -- ---- where nothing is refused, the machine's word is the formula's

  module _ (four : length f.stores ≡ 4) where
    evaluated : check_of ss cs ≡ 0 → {N : ℕ} → N ≡ cap (nth ss 0) → {w : ℕ} (k i : ℕ) → k ≤ top N → w ≡ machine_word N ss cs k i → w ≡ tree_word N ss (tree_of cs) k i
    evaluated c n k i h q = q ∙ rw n (machine_lent f k i four c (rw n at h))

    module _ {N : ℕ} (e : Ok N ≡ sized ss (check_of ss cs)) where
      pub contains_past : (i : ℕ) → N ≤ i → Settled asked_paper (formula_contains_of ss cs i) (Ok (ltb i N)) tt
      unfolding formula_contains_of
      contains_past i h = let z = sized_passed ss (check_of ss cs) e in settled (rw (z.0, ← z.1, le-ltb i N h))

      pub contains_is : (i : ℕ) {w : ℕ} {r : Bool} → i < N → w ≡ machine_word N ss cs 0 (i / 64) → r ≡ eqb (bit w (i % 64)) 1
          → Settled asked_paper (formula_contains_of ss cs i) (Ok r) tt
      unfolding formula_contains_of
      contains_is i {w} h q r =
          let z = sized_passed ss (check_of ss cs) e in
          let v : w ≡ tree_word N ss (tree_of cs) 0 (i / 64) = evaluated z.0 z.1 0 (i / 64) (omega arith) q in
          settled (rw (z.0, ← z.1, lt-ltb i N h, ← v, ← r))

      pub empty_is : {w : ℕ} → w ≡ machine_word N ss cs (top N) 0 → Settled asked_paper (formula_is_empty_of ss cs) (Ok (eqb w 0)) tt
      unfolding formula_is_empty_of
      empty_is {w} q =
          let z = sized_passed ss (check_of ss cs) e in
          let v : w ≡ tree_word N ss (tree_of cs) (top N) 0 = evaluated z.0 z.1 (top N) 0 (omega arith) q in
          settled (rw (z.0, ← z.1, ← v))

    module _ {N : ℕ} (e : Ok N ≡ sized ss (stores_of ss)) (h : true ≡ is_formula ss cs) where
      passed : check_of ss cs ≡ 0
      unfolding check_of
      passed = rw ((sized_passed ss (stores_of ss) e).0, ← h)

      pub word_top : {w : ℕ} (k i : ℕ) → k ≡ top N → w ≡ machine_word N ss cs (top N) 0 → Settled number_paper (layer_word_of ss cs k i) (Ok w) tt
      unfolding layer_word_of
      word_top {w} k i l q =
          let z = sized_passed ss (stores_of ss) e in
          let v : w ≡ tree_word N ss (tree_of cs) k 0 = evaluated passed z.1 (top N) 0 (omega arith) q ∙ ap (λ (x : ℕ). tree_word N ss (tree_of cs) x 0) (sym l) in
          settled (rw (z.0, ← z.1, ← h, le-leb k (top N) (omega arith), le-ltb k (top N) (omega arith), ← v))

      pub word_is : {w : ℕ} (k i : ℕ) → k < top N → w ≡ machine_word N ss cs k i → Settled number_paper (layer_word_of ss cs k i) (Ok w) tt
      unfolding layer_word_of
      word_is {w} k i l q =
          let z = sized_passed ss (stores_of ss) e in
          let v : w ≡ tree_word N ss (tree_of cs) k i = evaluated passed z.1 k i (omega arith) q in
          settled (rw (z.0, ← z.1, ← h, le-leb k (top N) (omega arith), lt-ltb k (top N) l, ← v))

pub ruleset contains_answers = (contains_refused, contains_past, contains_is)

pub ruleset empty_answers = (empty_refused, empty_is)

pub ruleset word_answers = (word_refused, word_4, word_6, word_top, word_is)
