-- DEMAND 3 over a formula by the public calls: what `walk_laws` says of calls that are a walk, with the formula's layer words and members.
use mathlib.Core.Bool.{true}
use mathlib.Core.List.{List, [], ◌∷◌, ◌++◌, Memᴰ}
use mathlib.Core.Logic.{◌↔◌}
use mathlib.Core.Path.{◌≡◌, sym, ap, ◌∙◌, subst}
use Prim.Native.Nat.{ℕ, ◌+◌, ◌≤◌, ◌<◌}
use native.Mathlib.Omega.{arith}
use lib.ListN.{length}
use Rattle.util.specs.Word.{Rising}
use Rattle.store.specs.Layout.{top, cap}
use Rattle.store.proofs.Words.{word_lt}
use Rattle.walk.specs.Calls.{Fine}
use Rattle.walk.specs.Walk.{start_at}
use Rattle.walk.specs.declared.Cursor.{Cursor}
use Rattle.walk.specs.declared.Next.TheVariants.{Paused}
use Rattle.walk.specs.declared.Step.{Step}
use Rattle.walk.proofs.Cursors.{fit_of}
use Rattle.walk_laws.specs.Calls.{Ask, Some, Run, run_by, AllStopped, Nexts, Fills}
use Rattle.walk_laws.specs.Under.{all_ids, all_reads}
use Rattle.walk_laws.specs.Walks.{Bounded, Full, Spaced, SpacedAs}
use Rattle.walk_laws.proofs.Called.{calls_kept, calls_defined, calls_over, calls_spaced, calls_spaced_as}
use Rattle.formula_codes.specs.Check.{check_of}
use Rattle.formula_codes.specs.Codes.{code_kind, tree_of}
use Rattle.formula_codes.specs.Tree.{four, nth}
use Rattle.formula_codes.proofs.Accepted.{accepted}
use Rattle.formula_ask.specs.Calls.{formula_words}
use Rattle.formula_walk.specs.Calls.{formula_start_in, refusal_in, formula_next_in}
use Rattle.formula_fill.specs.Calls.{formula_fill_in}
use Rattle.formula_laws.specs.Members.{Among, formula_members}
use Rattle.formula_laws.specs.Sides.{Sounds, UnionCodes}
use Rattle.formula_laws.specs.Walks.{next_over, fill_over, call_over, walk_over, reads_of, FormulaWalked}
use Rattle.formula_laws.proofs.Fewer.{both_reads}
use Rattle.formula_laws.proofs.Sets.{tree_ids, tree_members_are, tree_rises}
use Rattle.formula_laws.proofs.Shapes.{tree_two, tree_union}
use Rattle.formula_laws.proofs.Trees.{tree_bounded, union_full}

module _ (a b c d cs : List ℕ) (ok : check_of (four a b c d) cs ≡ 0) (z : Sounds (cap a) (four a b c d)) where
  abbrev ss : List (List ℕ)
  ss = four a b c d

  abbrev t : ℕ
  t = top (cap a)

  abbrev lw : ℕ → ℕ → ℕ
  lw = formula_words ss cs

  bounded : Bounded lw
  bounded = tree_bounded (cap a) ss (λ x. word_lt (cap a) (nth ss x) (z.words x)) (tree_of cs)

  -- no call refuses
  none : (k : Cursor) → Fine t k.prefix → refusal_in ss cs k ≡ 0
  unfolding refusal_in
  none k f = rw (ok, fit_of t k.prefix f)

  next_is : Nexts lw t (next_over ss cs)
  unfolding formula_next_in
  next_is m k f = rw (none k f)

  fill_is : Fills lw t (fill_over ss cs)
  unfolding formula_fill_in
  fill_is m n k f = rw (none k f)

  start_is : (k : Cursor) → formula_start_in ss cs k ≡ record { cursor = start_at t (lw t 0); reads = 1; answer = Paused }
  unfolding formula_start_in
  start_is k = rw ok

  start_cursor : (k : Cursor) → (formula_start_in ss cs k).cursor ≡ start_at t (lw t 0)
  start_cursor k = ap (λ (x : Step). x.cursor) (start_is k)

  -- no call of a started walk refuses or reads past its budget, and a paused one has spent it
  pub formula_kept : (k : Cursor) (l : List Ask) → AllStopped (call_over ss cs) l (formula_start_in ss cs k).cursor
  formula_kept k l =
      subst (AllStopped (call_over ss cs) l) (sym (start_cursor k)) (calls_kept lw bounded t (next_over ss cs) (fill_over ss cs) next_is fill_is l)

  -- what the definition hands out and counts is the members and the reads
  walked_of : (k : Cursor) (w : Run) → (w.members ≡ all_ids lw t) × (1 + w.total ≡ all_reads lw t) → FormulaWalked ss cs k w
  walked_of k w r =
      let m : w.members ≡ formula_members (cap a) ss (tree_of cs) = r.0 ∙ tree_ids (cap a) ss (accepted a b c d cs ok).first.most z (tree_of cs) in
      record {
        members-all = m;
        exact = λ i. subst (λ (l : List ℕ). Memᴰ i l ↔ ((i < cap a) × Among ss (tree_of cs) i)) (sym m)
            (tree_members_are (cap a) ss (λ x. (accepted a b c d cs ok).beside x) (tree_of cs) i);
        rising = subst (Rising 0) (sym m) (tree_rises (cap a) ss (tree_of cs));
        counted = ap (λ (x : Step). x.reads + w.total) (start_is k) ∙ r.1;
      }

  -- A WALK of a formula that ends, however it is cut into calls of next and of fill
  pub formula_walked : (k : Cursor) (l : List Ask) → (walk_over ss cs k l).over ≡ true → FormulaWalked ss cs k (walk_over ss cs k l)
  formula_walked k l e =
      let w = ap (λ (x : Cursor). run_by (call_over ss cs) x l) (start_cursor k) in
      let d = calls_defined lw bounded t (next_over ss cs) (fill_over ss cs) next_is fill_is l (sym (ap (λ (x : Run). x.over) w) ∙ e) in
      subst (FormulaWalked ss cs k) (sym w) (walked_of k _ d)

  -- and enough calls end it
  pub formula_over : (k : Cursor) (l : List Ask) → Some l → all_reads lw t + length (all_ids lw t) ≤ length l → (walk_over ss cs k l).over ≡ true
  formula_over k l some h =
      ap (λ (x : Cursor). (run_by (call_over ss cs) x l).over) (start_cursor k)
      ∙ calls_over lw bounded t (next_over ss cs) (fill_over ss cs) next_is fill_is l some h

  -- ON ONE STORE OR A UNION OF STORES at most three words are read before each next member, after the top word, and none before the end.
  full : UnionCodes cs → Full lw t
  full u = union_full (cap a) ss z.sound (tree_of cs) (tree_union ss cs (accepted a b c d cs ok).formula u)

  pub formula_spaced : UnionCodes cs → (k : Cursor) (bs : List ℕ) → Spaced t (next_over ss cs) bs (formula_start_in ss cs k).cursor 0
  formula_spaced u k bs =
      subst (λ (x : Cursor). Spaced t (next_over ss cs) bs x 0) (sym (start_cursor k)) (calls_spaced lw bounded t (next_over ss cs) next_is (full u) bs)

  -- the same of next and fill in any mix
  pub formula_fill_spaced : UnionCodes cs → (k : Cursor) (l : List Ask) → SpacedAs t (next_over ss cs) (fill_over ss cs) l (formula_start_in ss cs k).cursor
  formula_fill_spaced u k l =
      subst (SpacedAs t (next_over ss cs) (fill_over ss cs) l) (sym (start_cursor k))
      (calls_spaced_as lw bounded t (next_over ss cs) (fill_over ss cs) next_is fill_is (full u) l)

-- AN INTERSECTION reads no more than either side alone, for any two formulas on the sides: the walks of both sides and of the intersection to
-- their ends, each cut as it may be.
module _ (a b c d f g : List ℕ) (z : Sounds (cap a) (four a b c d)) where
  abbrev qs : List (List ℕ)
  qs = four a b c d

  abbrev fg : List ℕ
  fg = f ++ (g ++ 16 ∷ [])

  module _ (left : check_of qs f ≡ 0) (right : check_of qs g ≡ 0) (ok : check_of qs fg ≡ 0) (k m : Cursor) (bs ls : List Ask) (ends : (walk_over qs fg k bs).over ≡ true) where
    fewer : (all_reads (formula_words qs fg) (top (cap a)) ≤ all_reads (formula_words qs f) (top (cap a)))
        × (all_reads (formula_words qs fg) (top (cap a)) ≤ all_reads (formula_words qs g) (top (cap a)))
    unfolding code_kind
    fewer = rw (tree_two qs f g 16 (accepted a b c d f left).formula (accepted a b c d g right).formula) (both_reads (cap a) qs (tree_of f) (tree_of g))

    pub and_reads_left : (walk_over qs f m ls).over ≡ true → reads_of qs fg k (walk_over qs fg k bs) ≤ reads_of qs f m (walk_over qs f m ls)
    and_reads_left e =
        omega (arith, fewer.0, (formula_walked a b c d fg ok z k bs ends).counted, (formula_walked a b c d f left z m ls e).counted)

    pub and_reads_right : (walk_over qs g m ls).over ≡ true → reads_of qs fg k (walk_over qs fg k bs) ≤ reads_of qs g m (walk_over qs g m ls)
    and_reads_right e =
        omega (arith, fewer.1, (formula_walked a b c d fg ok z k bs ends).counted, (formula_walked a b c d g right z m ls e).counted)
