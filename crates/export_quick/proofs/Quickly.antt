-- What a quick member is: next hands it out at any budget.
use mathlib.Core.Bool.{Bool, true, false, ◌&&◌}
use mathlib.Core.List.{List, [], ◌∷◌}
use mathlib.Core.Path.{◌≡◌, refl, ap, ap₂, ◌∙◌}
use Prim.Native.Nat.{ℕ, suc, ◌+◌, ◌-◌, ◌^◌, ◌<◌, min}
use native.Mathlib.Omega.{arith}
use borrow.Author.Tests.{ltb-true}
use lib.Count.{count_trailing_zeros}
use lib.Dec.{ltb}
use Rattle.std.specs.Prelude.{Result, is_ok}
use Rattle.store.specs.Answer.{tested}
use Rattle.store.specs.declared.Refusal.{Refusal}
use lib.ListN.{length, get_or, set, length-set}
use borrow.Author.Rules.{rules}
use Rattle.std.proofs.lemmas.Slice.Eq.{text_from_reads}
use Rattle.util.proofs.Same.{both}
use Rattle.store.specs.Layout.{max_cap, top_most, top, cap, is_store}
use Rattle.store.proofs.TopLayer.{top_is}
use Rattle.store.specs.Word.{word}
use Rattle.walk.specs.Calls.{prefixes_fit, next_in}
use Rattle.walk.specs.Walk.{prefix_at, place_at, less, handed}
use Rattle.walk.specs.declared.Next.TheVariants.{Member}
use Rattle.walk.proofs.Cursors.{Low, fine_of}
use Rattle.walk.proofs.Turns.{next-gives}
use Rattle.export_cursor.specs.Ten.{prefix_of, cursor_of, cursor_words}
use Rattle.export_quick.specs.Handing.{ready_of, handed_id, handed_of}

-- the store test goes through exactly for a store
pub is_ok_store : (s : List ℕ) (r : Result ℕ Refusal) → r ≡ tested s → is_ok r ≡ is_store s
is_ok_store s r e = go (is_store s) refl
  where
    go : (b : Bool) → is_store s ≡ b → is_ok r ≡ is_store s
    go true h = rw (e, h)
    go false h = rw (e, h)

-- ten words of which the first and the last are written
pub words_handed : (l : List ℕ) (a : ℕ) → length l ≡ 10
    → set (set l 0 a) 9 0 ≡ a ∷ get_or l 1 0 ∷ get_or l 2 0 ∷ get_or l 3 0 ∷ get_or l 4 0 ∷ get_or l 5 0 ∷ get_or l 6 0 ∷ get_or l 7 0 ∷ get_or l 8 0 ∷ 0 ∷ []
words_handed l a h =
    text_from_reads (set (set l 0 a) 9 0) _ (simp length-set h) (search rules)

-- the three words where the prefixes stand
abbrev three : List ℕ → List ℕ
three l = get_or l 5 0 ∷ get_or l 6 0 ∷ get_or l 7 0 ∷ []

module _ (s l : List ℕ) (h : ready_of s l ≡ true) where
  facts : (ltb 0 (get_or l 0 0) ≡ true) × ((is_store s && prefixes_fit top_most (three l) top_most) ≡ true)
  unfolding ready_of
  facts = both (ltb 0 (get_or l 0 0)) (is_store s && prefixes_fit top_most (three l) top_most) h

  pub has_bit : 0 < get_or l 0 0
  has_bit = ltb-true 0 (get_or l 0 0) facts.0

  a_store : (is_store s ≡ true) × (prefixes_fit top_most (three l) top_most ≡ true)
  a_store = both (is_store s) (prefixes_fit top_most (three l) top_most) facts.1

  pub small : get_or l 5 0 < max_cap
  small = (fine_of top_most (three l) a_store.1 0 (omega arith)).1

  -- prefixes that fit are 32-bit numbers
  same_prefixes : (cursor_of l).prefix ≡ three l
  unfolding cursor_of prefix_of
  same_prefixes =
      let f = fine_of top_most (three l) a_store.1 in
      let a : min (get_or l 5 0) 4294967295 ≡ get_or l 5 0 = omega (arith, (f 0 (omega arith)).1) in
      let b : min (get_or l 6 0) 4294967295 ≡ get_or l 6 0 = omega (arith, (f 1 (omega arith)).1) in
      let c : min (get_or l 7 0) 4294967295 ≡ get_or l 7 0 = omega (arith, (f 2 (omega arith)).1) in
      rw (a, b, c)

  low : Low (cursor_of l).masks 0 (suc (top (cap s))) 0
  unfolding cursor_of
  low = record { first = omega arith; last = omega arith; empty = λ i k j. absurd (omega arith); found = λ k. has_bit }

  the_place : place_at (top (cap s)) (cursor_of l) 0 ≡ handed_id l
  unfolding place_at prefix_at cursor_of handed_id
  the_place = ap (λ (t : ℕ). place_at t (cursor_of l) 0) (top_is (cap s)) ∙ ap (λ (ps : List ℕ). get_or ps 0 0 + count_trailing_zeros 64 (get_or l 0 0)) same_prefixes

  pub quick_next : (b : ℕ) → next_in s (cursor_of l) b ≡ record { cursor = handed (cursor_of l); reads = 0; answer = Member (handed_id l) }
  unfolding next_in cursor_of
  quick_next b =
      let t = top (cap s) in
      let f : prefixes_fit t (cursor_of l).prefix t ≡ true =
      ap₂ (λ (k : ℕ) (ps : List ℕ). prefixes_fit k ps k) (top_is (cap s)) same_prefixes ∙ a_store.1 in
      rw (a_store.0, f) (next-gives (word (cap s) s) t (cursor_of l) low b
      ∙ ap (λ (x : ℕ). record { cursor = handed (cursor_of l); reads = 0; answer = Member x }) the_place)

  pub quick_put : cursor_words l (handed (cursor_of l)) 0 ≡ handed_of l
  unfolding cursor_words handed less cursor_of handed_of
  quick_put =
      let m = get_or l 0 0 in
      ap
      (λ (p : List ℕ). (m - 2 ^ count_trailing_zeros 64 m) ∷ get_or l 1 0 ∷ get_or l 2 0 ∷ get_or l 3 0 ∷ get_or l 4 0 ∷ get_or p 0 0 ∷ get_or p 1 0 ∷ get_or p 2 0 ∷ get_or l 8 0 ∷ 0 ∷ [])
      same_prefixes
