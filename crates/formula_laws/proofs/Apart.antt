-- `is_empty` of an intersection may say no where there is no member: {0} and {1} at capacity 2 share none, and stand under the same summary
-- bits.
use mathlib.Core.Bool.{true, false}
use mathlib.Core.List.{List, [], ◌∷◌}
use mathlib.Core.Logic.{◌≢◌}
use mathlib.Core.Path.{◌≡◌, refl, sym, ap, ap₂, ◌∙◌, subst}
use Prim.Native.Nat.{ℕ, zero, suc, ◌-◌, ◌/◌, ◌%◌, ◌<◌}
use native.Mathlib.Omega.{arith}
use borrow.Author.Tests.{lt-ltb, ne_eqb}
use lib.Dec.{ltb}
use lib.ListN.{length, get_or}
use lib.Pow.{pow_pos}
use Rattle.util.specs.Word.{bit}
use Rattle.store.specs.Answer.{says}
use Rattle.store.specs.Build.{build, room0, Kept}
use Rattle.store.specs.Layout.{top, room, layer_len, cap}
use Rattle.store.specs.Word.{on, anc, Member, Sound, Words64, SoundStore}
use Rattle.store.proofs.Build.{on-build, build_fine}
use Rattle.store.proofs.Geometry.{is_store_lem, after-header}
use Rattle.store.proofs.Members.{member-on, on-member, own}
use Rattle.store.proofs.TopLayer.{top_low}
use Rattle.formula_codes.specs.Check.{beside_of, sooner, stores_of, check_of}
use Rattle.formula_codes.specs.Codes.{code_kind, trees, tree_of, takes_in, left, is_formula}
use Rattle.formula_codes.specs.Tree.{four, nth}
use Rattle.formula_ask.specs.Calls.{formula_is_empty_of}
use Rattle.formula_laws.specs.Members.{Among}
use Rattle.formula_laws.specs.Sides.{Sounds}
use Rattle.formula_laws.proofs.Answers.{sounds, and_not_empty}

-- the store of capacity 2 with this word in layer 0
abbrev pair : ℕ → List ℕ
pair w = build 2 (w ∷ [])

module _ (w : ℕ) (h : w < 4) where
  long : length (w ∷ []) ≡ layer_len 2 0
  unfolding room
  long = refl

  kept : Kept 2 (w ∷ [])
  kept zero = h
  kept (suc q) = pow_pos (room0 2 (suc q))

  fine : SoundStore 2 (pair w)
  fine = build_fine 2 (w ∷ []) (omega arith) (omega arith) long kept

  bit_pair : (i : ℕ) → i < 2 → on 2 (pair w) 0 i ≡ bit w i
  bit_pair i l =
      let d : i / 64 ≡ 0 = omega arith in
      let m : i % 64 ≡ i = omega arith in
      on-build 2 (w ∷ []) long i ∙ ap₂ (λ (x y : ℕ). bit (get_or (w ∷ []) x 0) y) d m

  lent : 0 < length (pair w)
  lent = omega (arith, fine.is.long, after-header 2 0)

  held_is : (i : ℕ) → Member (pair w) i → (i < 2) × (bit w i ≡ 1)
  held_is i m = let o = member-on fine.is.names m in (o.0, sym (bit_pair i o.0) ∙ o.1)

-- ids below 64 stand under the first place of every layer above layer 0
first_place : (i k : ℕ) → i < 64 → anc i (suc k) ≡ 0
unfolding anc
first_place i zero h = omega arith
first_place i (suc k) h = ap (λ (x : ℕ). x / 64) (first_place i k h)

abbrev ss : List (List ℕ)
ss = four (pair 1) (pair 2) [] []

-- the slices and the codes are accepted
stores_ok : stores_of ss ≡ 0
unfolding stores_of beside_of sooner
stores_ok =
    let f = fine 1 (omega arith) in
    let g = fine 2 (omega arith) in
    rw (is_store_lem f.is, is_store_lem g.is, f.is.names, g.is.names, ne_eqb (length (pair 2)) 0 (omega (arith, lent 2 (omega arith))))

module _ (first : ltb 0 (length (pair 1)) ≡ true) (second : ltb 0 (length (pair 2)) ≡ true) where
  left_ok : check_of ss (0 ∷ []) ≡ 0
  unfolding check_of is_formula left takes_in code_kind
  left_ok = rw (stores_ok, first)

  right_ok : check_of ss (1 ∷ []) ≡ 0
  unfolding check_of is_formula left takes_in code_kind
  right_ok = rw (stores_ok, second)

  both_ok : check_of ss (0 ∷ 1 ∷ 16 ∷ []) ≡ 0
  unfolding check_of is_formula left takes_in code_kind
  both_ok = rw (stores_ok, first, second)

  says_no : formula_is_empty_of ss (0 ∷ 1 ∷ 16 ∷ []) ≡ says false tt
  unfolding tree_of trees code_kind bit
  says_no =
      let f = fine 1 (omega arith) in
      let g = fine 2 (omega arith) in
      let t = top (cap (pair 1)) in
      let up : t ≡ suc (t - 1) = omega (arith, top_low (cap (pair 1))) in
      and_not_empty (pair 1) (pair 2) [] [] (0 ∷ []) (1 ∷ []) all_sound left_ok right_ok both_ok 0 1 (omega (arith, f.is.names)) (omega (arith, f.is.names))
      (on-member f.is.names (omega arith) (bit_pair 1 (omega arith) 0 (omega arith)))
      (on-member g.is.names (omega arith) (bit_pair 2 (omega arith) 1 (omega arith)))
      (ap (anc 0) up ∙ first_place 0 (t - 1) (omega arith) ∙ sym (ap (anc 1) up ∙ first_place 1 (t - 1) (omega arith)))
    where
      words : (x : ℕ) → Words64 (nth ss x)
      words zero = (fine 1 (omega arith)).words
      words (suc zero) = (fine 2 (omega arith)).words
      words (suc (suc zero)) = λ y. omega arith
      words (suc (suc (suc zero))) = λ y. omega arith
      words (suc (suc (suc (suc x)))) = λ y. omega arith

      sound : (x : ℕ) → length (nth ss x) ≢ 0 → Sound (cap (pair 1)) (nth ss x)
      sound zero n = (own (fine 1 (omega arith))).sound
      sound (suc zero) n = subst (λ (m : ℕ). Sound m (pair 2)) (sym (fine 1 (omega arith)).is.names) (fine 2 (omega arith)).sound
      sound (suc (suc zero)) n = absurd (n refl)
      sound (suc (suc (suc zero))) n = absurd (n refl)
      sound (suc (suc (suc (suc x)))) n = absurd (n refl)

      all_sound : Sounds (cap (pair 1)) ss
      all_sound = sounds (pair 1) (pair 2) [] [] (0 ∷ 1 ∷ 16 ∷ []) both_ok words sound

none_shared : (i : ℕ) → Member (pair 1) i → Member (pair 2) i → ⊥
unfolding bit
none_shared zero m n = omega (arith, (held_is 2 (omega arith) 0 n).1)
none_shared (suc zero) m n = omega (arith, (held_is 1 (omega arith) 1 m).1)
none_shared (suc (suc i)) m n = omega (arith, (held_is 1 (omega arith) (suc (suc i)) m).0)

-- "A formula's `is_empty` reads only its layer-3 word, as the crate's."
pub apart_not_empty : (formula_is_empty_of ss (0 ∷ 1 ∷ 16 ∷ []) ≡ says false tt) × ((i : ℕ) → Among ss (tree_of (0 ∷ 1 ∷ 16 ∷ [])) i → ⊥)
unfolding tree_of trees code_kind
apart_not_empty = (
  says_no (lt-ltb 0 (length (pair 1)) (lent 1 (omega arith))) (lt-ltb 0 (length (pair 2)) (lent 2 (omega arith))),
  λ i m. none_shared i m.0 m.1,
)
