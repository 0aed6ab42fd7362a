-- THE HEADER'S COUNT is the number of members, whether the store is sound or not.
use Rattle.std.proofs.Common.{List, [], ◌∷◌, ◌++◌, append-nil, ◌≡◌, refl, sym, ap, ◌∙◌, subst, ℕ, zero, suc, ◌+◌, ◌-◌, ◌/◌, ◌%◌, ◌^◌, ◌≤◌, ◌<◌, min, arith, length, get_or, take, take-suc, take_all}
use native.Mathlib.Decide.{ℕ_discrete}
use lib.Count.{ones_in}
use Rattle.util.specs.Word.{bit, count, places}
use Rattle.util.proofs.Bits.{bit_high}
use Rattle.util.proofs.Places.{places-append, places_none, length-bits_in}
use Rattle.store.specs.Build.{build, layer_of, layer0, room0}
use Rattle.store.specs.Layout.{room, StoreOf}
use Rattle.store.specs.Word.{word, on, members, member_count, count_below}
use Rattle.store.proofs.Build.{word-build}
use Rattle.store.proofs.Count.{count_words, count-words}
use Rattle.map_write.specs.Map.{told_words, count_all}
use Rattle.map_write.proofs.Bytes.{count-append}
use Rattle.map_write.proofs.Words.{kept_low}
use Rattle.map_laws.proofs.Stores.{long_in, made_fine, made_members}

-- the bits of a short word are all below its width
ones_short : (r w : ℕ) → r ≤ 64 → w < 2 ^ r → ones_in r w ≡ count w
unfolding count
ones_short r w h l =
    let e : r + (64 - r) ≡ 64 = omega arith in
    let none : places (bit w) (0 + r) (64 - r) ≡ [] = places_none (bit w) (0 + r) (64 - r) (λ i a b. bit_high r w i l (omega arith)) in
    sym (length-bits_in r w)
    ∙ ap length (sym (append-nil (places (bit w) 0 r)) ∙ ap (λ (x : List ℕ). places (bit w) 0 r ++ x) (sym none) ∙ sym (places-append (bit w) 0 r (64 - r)))
    ∙ ap (λ (k : ℕ). length (places (bit w) 0 k)) e
    ∙ length-bits_in 64 w

module _ {N : ℕ} {s : List ℕ} (z : StoreOf N s) where
  abbrev ws : List ℕ
  ws = told_words N s

  abbrev made : List ℕ
  made = build N (told_words N s)

  word_made : (q : ℕ) → word N made 0 q ≡ get_or ws q 0
  unfolding layer_of
  word_made q = word-build N ws (long_in z) 0 q (omega arith)

  count_front : (q : ℕ) → q ≤ length ws → count_words N made q ≡ count_all (take q ws)
  unfolding count_words count_all
  count_front zero h = refl
  count_front (suc q) h =
      let one = count-append (take q ws) (get_or ws q 0 ∷ []) in
      omega (arith, count_front q (omega arith), ap count (word_made q), one, ap count_all (take-suc ws q 0 h))

  count_made : member_count made ≡ count_all ws
  unfolding count_all ones_in room
  count_made = by_capacity ∙ go (ℕ_discrete (N % 64) 0)
    where
      by_capacity : member_count made ≡ count_words N made (N / 64) + ones_in (N % 64) (get_or ws (N / 64) 0)
      by_capacity =
          count-words made
          ∙ ap (λ (n : ℕ). count_words n made (n / 64) + ones_in (n % 64) (word n made 0 (n / 64))) (made_fine z).is.names
          ∙ ap (λ (w : ℕ). count_words N made (N / 64) + ones_in (N % 64) w) (word_made (N / 64))

      go : Dec (N % 64 ≡ 0) → count_words N made (N / 64) + ones_in (N % 64) (get_or ws (N / 64) 0) ≡ count_all ws
      go (yes e) =
          let l : length ws ≤ N / 64 = omega (arith, long_in z) in
          let none : ones_in (N % 64) (get_or ws (N / 64) 0) ≡ 0 = ap (λ (k : ℕ). ones_in k (get_or ws (N / 64) 0)) e in
          omega (arith, none, count_front (N / 64) (omega (arith, long_in z)), ap count_all (take_all (N / 64) ws l))
      go (no n) =
          let l : length ws ≤ suc (N / 64) = omega (arith, long_in z) in
          let r : room0 N (N / 64) ≡ N % 64 = omega arith in
          let w = ones_short (N % 64) (get_or ws (N / 64) 0) (omega arith) (subst (λ (k : ℕ). get_or ws (N / 64) 0 < 2 ^ k) r (kept_low N (layer0 N s) (N / 64))) in
          let one = count-append (take (N / 64) ws) (get_or ws (N / 64) 0 ∷ []) in
          omega (
            arith,
            w,
            count_front (N / 64) (omega (arith, long_in z)),
            one,
            ap count_all (sym (take-suc ws (N / 64) 0 (omega (arith, long_in z))) ∙ take_all (suc (N / 64)) ws l),
          )

  -- "member count": the members, all of them below N
  pub count_is : count_all (told_words N s) ≡ count_below N s N
  unfolding members
  count_is =
      let e : N ≡ min N N = omega arith in
      sym count_made ∙ ap length (made_members z)
      ∙ ap (λ (n : ℕ). length (places (on n s 0) 0 n)) z.names
      ∙ ap (λ (n : ℕ). length (places (on N s 0) 0 n)) e
