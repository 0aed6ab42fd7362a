-- DEMAND 3, over stores that our calls reached and any accepted formula over at most four of them.
use mathlib.Core.Bool.{true}
use mathlib.Core.List.{List, [], ◌∷◌, ◌++◌}
use mathlib.Core.Path.{◌≡◌, sym, subst}
use Prim.Native.Nat.{ℕ, ◌+◌, ◌^◌, ◌≤◌, ◌<◌}
use native.Mathlib.Decide.{ℕ_discrete}
use native.Mathlib.Omega.{arith}
use lib.ListN.{length, get_or-eq_default}
use Rattle.store.specs.Layout.{top, cap}
use Rattle.store.specs.Word.{Words64}
use Rattle.walk.specs.Walk.{start_at}
use Rattle.walk.specs.declared.Cursor.{Cursor}
use Rattle.walk.specs.declared.Next.TheVariants.{Paused}
use Rattle.walk_laws.specs.Calls.{Ask, Some, AllStopped}
use Rattle.walk_laws.specs.Under.{all_ids, all_reads}
use Rattle.walk_laws.specs.Walks.{Spaced, SpacedAs, FewReads}
use Rattle.walk_laws.proofs.Bounds.{spaced_reads}
use Rattle.formula_codes.specs.Tree.{four, nth}
use Rattle.formula_ask.specs.Calls.{formula_words}
use Rattle.formula_walk.specs.Calls.{formula_start_in}
use Rattle.formula_laws.specs.Sides.{Sounds, UnionCodes}
use Rattle.formula_laws.specs.Walks.{next_over, fill_over, call_over, walk_over, reads_of, FormulaWalked}
use Rattle.formula_laws.proofs.Answers.{sounds}
use Rattle.formula_laws.proofs.Calls.{formula_kept, formula_walked, formula_over, formula_spaced, formula_fill_spaced, and_reads_left, and_reads_right}
use Rattle.claims.specs.Lent.{Lent}
use Rattle.claims.proofs.Histories.{reached_fine}

module _ (a b c d : List ℕ) where
  abbrev ss : List (List ℕ)
  ss = four a b c d

  words_lent : {cs : List ℕ} → Lent ss cs → (x : ℕ) → Words64 (nth ss x)
  words_lent l x = go (ℕ_discrete (length (nth ss x)) 0)
    where
      go : Dec (length (nth ss x) ≡ 0) → Words64 (nth ss x)
      go (yes e) = λ y. subst (λ (z : ℕ). z < 2 ^ 64) (sym (get_or-eq_default {A = ℕ} (nth ss x) 0 {n = y} (omega arith))) (omega arith)
      go (no n) = (reached_fine (l.reached x n)).words

  pub sounds_lent : {cs : List ℕ} → Lent ss cs → Sounds (cap a) ss
  sounds_lent {cs} l = sounds a b c d cs l.accepted (words_lent l) (λ x n. (reached_fine (l.reached x n)).sound)

  module _ {cs : List ℕ} (l : Lent ss cs) where
    -- "Starting reads the top word and reports one read.", and does not refuse
    pub walk_starts : (k : Cursor)
        → formula_start_in ss cs k ≡ record { cursor = start_at (top (cap a)) (formula_words ss cs (top (cap a)) 0); reads = 1; answer = Paused }
    unfolding formula_start_in
    walk_starts k = rw l.accepted

    -- "However it is cut by read budgets, a walk that ends has handed out exactly the formula's members, each once, ascending, and reported
    -- the count of words that the definition says it reads." Its calls may be next and fill in any mix.
    pub walk_members : (k : Cursor) (q : List Ask) → (walk_over ss cs k q).over ≡ true → FormulaWalked ss cs k (walk_over ss cs k q)
    walk_members = formula_walked a b c d cs l.accepted (sounds_lent l)

    -- it does end, and no call refuses or reads past its budget
    pub walk_ends : (k : Cursor) (q : List Ask) → Some q → all_reads (formula_words ss cs) (top (cap a)) + length (all_ids (formula_words ss cs) (top (cap a))) ≤ length q
        → (walk_over ss cs k q).over ≡ true
    walk_ends = formula_over a b c d cs l.accepted (sounds_lent l)

    pub walk_keeps : (k : Cursor) (q : List Ask) → AllStopped (call_over ss cs) q (formula_start_in ss cs k).cursor
    walk_keeps = formula_kept a b c d cs l.accepted (sounds_lent l)

    -- "On one store or a union of stores, after the top word, at most three words are read before each next member and none before the end."
    pub walk_gaps : UnionCodes cs → (k : Cursor) (bs : List ℕ) → Spaced (top (cap a)) (next_over ss cs) bs (formula_start_in ss cs k).cursor 0
    walk_gaps = formula_spaced a b c d cs l.accepted (sounds_lent l)

    -- and of next and fill in any mix, which hand out and read what next alone does
    pub walk_fill_gaps : UnionCodes cs → (k : Cursor) (q : List Ask)
        → SpacedAs (top (cap a)) (next_over ss cs) (fill_over ss cs) q (formula_start_in ss cs k).cursor
    walk_fill_gaps = formula_fill_spaced a b c d cs l.accepted (sounds_lent l)

    -- so in all they read at most three words for each member handed out and three more, and where they ended none more
    pub walk_reads : UnionCodes cs → (k : Cursor) (q : List Ask) → FewReads (top (cap a)) (walk_over ss cs k q)
    walk_reads u k q = spaced_reads (walk_fill_gaps u k q)

  -- "An intersection reads no more than either side alone."
  module _ (f g : List ℕ) (left : Lent ss f) (right : Lent ss g) (l : Lent ss (f ++ (g ++ 16 ∷ []))) (k m : Cursor) (bs qs : List Ask) where
    abbrev fg : List ℕ
    fg = f ++ (g ++ 16 ∷ [])

    pub fewer_than_left : (walk_over ss fg k bs).over ≡ true → (walk_over ss f m qs).over ≡ true → reads_of ss fg k (walk_over ss fg k bs) ≤ reads_of ss f m (walk_over ss f m qs)
    fewer_than_left = and_reads_left a b c d f g (sounds_lent l) left.accepted right.accepted l.accepted k m bs qs

    pub fewer_than_right : (walk_over ss fg k bs).over ≡ true → (walk_over ss g m qs).over ≡ true → reads_of ss fg k (walk_over ss fg k bs) ≤ reads_of ss g m (walk_over ss g m qs)
    fewer_than_right = and_reads_right a b c d f g (sounds_lent l) left.accepted right.accepted l.accepted k m bs qs
