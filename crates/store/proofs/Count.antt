-- The member count, word by word: the set bits of every whole word of layer 0, and those below N of the last.
use Rattle.std.proofs.Common.{◌≡◌, ℕ, zero, suc, ◌+◌, ◌*◌, ◌/◌, ◌%◌, ◌≤◌, List, length, sym, refl, ap, ◌∙◌, ap₂, arith, length-append}
use lib.Count.{ones_in}
use Rattle.util.specs.Word.{bit, count, places}
use Rattle.util.proofs.Places.{places-append, length_shift, length-bits_in}
use Rattle.store.specs.Layout.{cap}
use Rattle.store.specs.Word.{word, on, members, member_count}
use Rattle.store.proofs.Words.{bit-place}

-- the set bits of the first q words of layer 0
unfoldable pub count_words : ℕ → List ℕ → ℕ → ℕ
count_words N s zero = 0
count_words N s (suc q) = count_words N s q + count (word N s 0 q)

module _ (N : ℕ) (s : List ℕ) where
  -- the first r bits of word q
  count_part : (q r : ℕ) → r ≤ 64 → length (places (on N s 0) (64 * q) r) ≡ ones_in r (word N s 0 q)
  count_part q r h =
      length_shift (on N s 0) (bit (word N s 0 q)) (64 * q) 0 r
      (λ i l. let z : i ≡ 0 + i = omega arith in sym (bit-place N s 0 q i (omega arith)) ∙ ap (bit (word N s 0 q)) z)
      ∙ length-bits_in r (word N s 0 q)

  count_whole : (q : ℕ) → length (places (on N s 0) 0 (64 * q)) ≡ count_words N s q
  unfolding count_words count places
  count_whole zero = refl
  count_whole (suc q) =
      let e : 64 * suc q ≡ 64 * q + 64 = omega arith in
      let z : 0 + 64 * q ≡ 64 * q = omega arith in
      ap (λ (n : ℕ). length (places (on N s 0) 0 n)) e
      ∙ ap length (places-append (on N s 0) 0 (64 * q) 64)
      ∙ length-append (places (on N s 0) 0 (64 * q)) (places (on N s 0) (0 + 64 * q) 64)
      ∙ ap₂ (λ (x y : ℕ). x + y) (count_whole q) (ap (λ (b : ℕ). length (places (on N s 0) b 64)) z ∙ count_part q 64 (omega arith))

pub count-words : (s : List ℕ) → member_count s ≡ count_words (cap s) s (cap s / 64) + ones_in (cap s % 64) (word (cap s) s 0 (cap s / 64))
unfolding members
count-words s =
    let N : ℕ = cap s in
    let e : N ≡ 64 * (N / 64) + N % 64 = omega arith in
    let z : 0 + 64 * (N / 64) ≡ 64 * (N / 64) = omega arith in
    ap (λ (n : ℕ). length (places (on N s 0) 0 n)) e
    ∙ ap length (places-append (on N s 0) 0 (64 * (N / 64)) (N % 64))
    ∙ length-append (places (on N s 0) 0 (64 * (N / 64))) (places (on N s 0) (0 + 64 * (N / 64)) (N % 64))
    ∙ ap₂ (λ (x y : ℕ). x + y) (count_whole N s (N / 64)) (ap (λ (b : ℕ). length (places (on N s 0) b (N % 64))) z ∙ count_part N s (N / 64) (N % 64) (omega arith))
