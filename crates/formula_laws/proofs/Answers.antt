-- What the calls over a formula tell of its members.
use mathlib.Core.Bool.{Bool, true, false, ◌&&◌}
use mathlib.Core.List.Memᴰ
use mathlib.Core.List.{List, [], ◌∷◌, ◌++◌, Memᴰ}
use mathlib.Core.Logic.{◌≢◌, ◌↔◌}
use mathlib.Core.Path.{◌≡◌, refl, sym, ap, ap₂, ◌∙◌, subst}
use Prim.Native.Nat.{ℕ, ◌/◌, ◌%◌, ◌<◌, min}
use native.Mathlib.Decide.{ℕ_discrete}
use native.Mathlib.Omega.{arith}
use borrow.Author.Tests.{lt-ltb, ltb-true, eq-eqb, ne_eqb, eqb-true}
use lib.Dec.{ltb, eqb}
use lib.ListN.{length}
use Rattle.util.specs.Word.{bit}
use Rattle.util.proofs.Bits.{bit_of_zero}
use Rattle.util.proofs.Same.{both}
use Rattle.store.specs.Answer.{says}
use Rattle.store.specs.Layout.{top, cap}
use Rattle.store.specs.Word.{anc, Sound, Words64}
use Rattle.store.proofs.Answers.{says_yes}
use Rattle.store.proofs.TopLayer.{top_one}
use Rattle.store.proofs.Words.{word_lt, place_in, anc_in}
use Rattle.walk_laws.specs.Under.{all_ids}
use Rattle.walk_laws.specs.Walks.{on_at}
use Rattle.walk_laws.proofs.Members.{summary_over, under-empty, under_none}
use Rattle.formula_codes.specs.Check.{check_of}
use Rattle.formula_codes.specs.Codes.{code_kind, tree_of}
use Rattle.formula_codes.specs.Tree.{Tree, four, nth, tree_word}
use Rattle.formula_codes.proofs.Accepted.{Beside, accepted}
use Rattle.formula_ask.specs.Calls.{formula_words, formula_contains_of, formula_is_empty_of}
use Rattle.formula_laws.specs.Members.{Among, held_by, formula_members}
use Rattle.formula_laws.specs.Sides.{Sounds, UnionCodes}
use Rattle.formula_laws.proofs.Sets.{sound_none, tree_held, held_among, tree_members_are, tree_ids}
use Rattle.formula_laws.proofs.Shapes.{tree_two, tree_union}
use Rattle.formula_laws.proofs.Trees.{tree_bounded, both_bits, tree_clear, union_full}

no_members : (l : List ℕ) → ((i : ℕ) → Memᴰ i l → ⊥) → l ≡ []
no_members [] n = refl
no_members (a ∷ l) n = absurd (n a (Memᴰ.head refl))

module _ (a b c d cs : List ℕ) (ok : check_of (four a b c d) cs ≡ 0) (words : (x : ℕ) → Words64 (nth (four a b c d) x)) where
  abbrev ss : List (List ℕ)
  ss = four a b c d

  -- what a walk asks of the slices, where those that are lent are sound
  pub sounds : ((x : ℕ) → length (nth ss x) ≢ 0 → Sound (cap a) (nth ss x)) → Sounds (cap a) ss
  sounds sound = record { words = words; sound = λ x. go (nth ss x) (sound x) (ℕ_discrete (length (nth ss x)) 0) }
    where
      go : (s : List ℕ) → (length s ≢ 0 → Sound (cap a) s) → Dec (length s ≡ 0) → Sound (cap a) s
      go s z (yes e) = sound_none (cap a) s e
      go s z (no n) = z n

  -- CONTAINS says yes exactly for the members, whether the stores are sound or not.
  pub contains_among : (i : ℕ) → (formula_contains_of ss cs i ≡ says true tt) ↔ ((i < cap a) × Among ss (tree_of cs) i)
  unfolding formula_contains_of on_at
  contains_among i = (
    λ e.
        let t = both (ltb i N) (eqb w 1) (says_yes (ltb i N && eqb w 1) (sym is ∙ e)) in
        let h = ltb-true i N t.0 in
        (h, (held_among N ss fit (tree_of cs) i h).0 (sym (bit_held h) ∙ eqb-true w 1 t.1)),
    λ t. is ∙ rw (lt-ltb i N t.0, eq-eqb w 1 (bit_held t.0 ∙ (held_among N ss fit (tree_of cs) i t.0).1 t.1)),
  )
    where
      N : ℕ
      N = cap a

      w : ℕ
      w = bit (formula_words ss cs 0 (i / 64)) (i % 64)

      fit : (x : ℕ) → Beside N (nth ss x)
      fit = (accepted a b c d cs ok).beside

      is : formula_contains_of ss cs i ≡ says (ltb i N && eqb w 1) tt
      is = rw ok

      bit_held : i < N → w ≡ held_by N ss (tree_of cs) i
      bit_held h = tree_held N ss (λ x. word_lt N (nth ss x) (words x)) (tree_of cs) i h

  -- "A formula's `is_empty` reads only its layer-3 word, as the crate's."
  top-asked : formula_is_empty_of ss cs ≡ says (eqb (formula_words ss cs (top (cap a)) 0) 0) tt
  unfolding formula_is_empty_of
  top-asked = rw ok

  module _ (z : Sounds (cap a) ss) where
    handed_out : all_ids (formula_words ss cs) (top (cap a)) ≡ formula_members (cap a) ss (tree_of cs)
    handed_out = tree_ids (cap a) ss (accepted a b c d cs ok).first.most z (tree_of cs)

    -- IS_EMPTY says yes only where there is no member, over sound stores.
    pub empty_none : formula_is_empty_of ss cs ≡ says true tt → (i : ℕ) → i < cap a → Among ss (tree_of cs) i → ⊥
    empty_none e i h m =
        let none = eqb-true _ 0 (says_yes (eqb (formula_words ss cs (top (cap a)) 0) 0) (sym top-asked ∙ e)) in
        let nil = sym handed_out ∙ under-empty (formula_words ss cs) (top (cap a)) 0 none in
        Memᴰ.not-nil (subst (Memᴰ i) nil ((tree_members_are (cap a) ss (accepted a b c d cs ok).beside (tree_of cs) i).1 (h, m)))

    -- ON ONE STORE OR A UNION OF STORES it says yes exactly there.
    pub union_empty : UnionCodes cs → (formula_is_empty_of ss cs ≡ says true tt) ↔ ((i : ℕ) → i < cap a → Among ss (tree_of cs) i → ⊥)
    union_empty u = (empty_none, from)
      where
        from : ((i : ℕ) → i < cap a → Among ss (tree_of cs) i → ⊥) → formula_is_empty_of ss cs ≡ says true tt
        from none =
            let nil = no_members (formula_members (cap a) ss (tree_of cs)) (λ i m. let t = (tree_members_are (cap a) ss (accepted a b c d cs ok).beside (tree_of cs) i).0 m in none i t.0 t.1) in
            let full = union_full (cap a) ss z.sound (tree_of cs) (tree_union ss cs (accepted a b c d cs ok).formula u) in
            let bounded = tree_bounded (cap a) ss (λ x. word_lt (cap a) (nth ss x) (words x)) (tree_of cs) in
            let w = under_none (formula_words ss cs) (top (cap a)) bounded full (top (cap a)) (omega arith) 0 (handed_out ∙ nil) in
            top-asked ∙ ap (λ (b : Bool). says b tt) (eq-eqb _ 0 w)

-- ON AN INTERSECTION, of any two formulas, it says no wherever a member of one side and a member of the other stand under one place of the
-- top layer: so it may say no where there is no member (Apart.antt). An exclusive or of a store with itself is another such formula, and so
-- is the inverse of a store that holds every id.
module _ (a b c d f g : List ℕ) (z : Sounds (cap a) (four a b c d)) (left : check_of (four a b c d) f ≡ 0) (right : check_of (four a b c d) g ≡ 0) where
  abbrev qs : List (List ℕ)
  qs = four a b c d

  abbrev fg : List ℕ
  fg = f ++ (g ++ 16 ∷ [])

  abbrev t : ℕ
  t = top (cap a)

  -- the bit over a member is on in the top layer
  over_member : (cs : List ℕ) → check_of qs cs ≡ 0 → (i : ℕ) → i < cap a → Among qs (tree_of cs) i → on_at (formula_words qs cs) t (anc i t) ≡ 1
  over_member cs ok i h m =
      summary_over (formula_words qs cs) t (tree_clear (cap a) qs z.sound (tree_of cs)) i
      (tree_held (cap a) qs (λ x. word_lt (cap a) (nth qs x) (z.words x)) (tree_of cs) i h ∙ (held_among (cap a) qs (accepted a b c d cs ok).beside (tree_of cs) i h).1 m)
      t (omega arith)

  pub and_not_empty : check_of qs fg ≡ 0 → (i j : ℕ) → i < cap a → j < cap a → Among qs (tree_of f) i → Among qs (tree_of g) j → anc i t ≡ anc j t
      → formula_is_empty_of qs fg ≡ says false tt
  unfolding on_at code_kind
  and_not_empty ok i j h l m n e =
      let x = over_member f left i h m in
      let y = ap (on_at (formula_words qs g) t) e ∙ over_member g right j l n in
      let first = (accepted a b c d f left).first in
      let q : anc i t / 64 ≡ 0 = omega (arith, place_in (cap a) t (anc i t) (anc_in (cap a) i t h), top_one (cap a) first.some first.most) in
      let tree = tree_two qs f g 16 (accepted a b c d f left).formula (accepted a b c d g right).formula in
      let o = ap (λ (u : Tree). on_at (tree_word (cap a) qs u) t (anc i t)) tree ∙ both_bits (cap a) qs (tree_of f) (tree_of g) t (anc i t) ∙ ap₂ min x y in
      let some : formula_words qs fg t 0 ≢ 0 = λ w. omega (arith, sym o ∙ ap (λ (u : ℕ). bit u (anc i t % 64)) (ap (formula_words qs fg t) q ∙ w) ∙ bit_of_zero (anc i t % 64)) in
      top-asked a b c d fg ok z.words ∙ ap (λ (v : Bool). says v tt) (ne_eqb _ 0 some)
