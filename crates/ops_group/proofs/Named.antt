-- A group, word by word and bit by bit.
use mathlib.Core.Bool.{Bool, true, false, cond}
use mathlib.Core.List.{List, [], ◌∷◌}
use mathlib.Core.Logic.{◌≢◌, ◌↔◌}
use mathlib.Core.Path.{◌≡◌, refl, sym, ap, ap₂, ◌∙◌}
use Prim.Native.Nat.{ℕ, zero, suc, ◌+◌, ◌-◌, ◌^◌, ◌≤◌, ◌<◌, min, max}
use native.Mathlib.Decide.{dec_lt}
use native.Mathlib.Nat.{add-zero}
use native.Mathlib.Omega.{arith}
use lib.Bits.{bit_and, and_le_l, and_le_r, or_lt}
use lib.Dec.{eqb}
use lib.ListN.{length, get_or, get_or-eq_default}
use Rattle.util.specs.Word.{bit, flip}
use Rattle.util.proofs.Bits.{bit_lt, bit-bit_or, bit-bit_and, bit-flip, bit_of_zero}
use Rattle.store.specs.Build.{flag, flags}
use Rattle.store.proofs.Build.{flag_lt, flag-on, bit-flags}
use Rattle.ops_word.specs.Named.{code, named}
use Rattle.ops_word.specs.Op.{op_word, decider}
use Rattle.ops_word.proofs.Laws.{op_still, op_none, op_word_named}
use Rattle.ops_group.specs.Group.{merge_named, mark_named, all, is_dense, chosen, group_words, group_over}

pub length_named : (op m i : ℕ) (xs ys : List ℕ) → length (merge_named op m i xs ys) ≡ length xs
unfolding merge_named
length_named op m i [] ys = refl
length_named op m i (x ∷ xs) ys = ap suc (length_named op m (suc i) xs ys)

-- two numbers of one operation
pub named_op : (op o m i : ℕ) (xs ys : List ℕ) → ((x y : ℕ) → op_word o x y ≡ op_word op x y) → merge_named o m i xs ys ≡ merge_named op m i xs ys
unfolding merge_named
named_op op o m i [] ys e = refl
named_op op o m i (x ∷ xs) ys e =
    ap₂ (λ (z : ℕ) (zs : List ℕ). cond (eqb (bit m i) 1) z x ∷ zs) (e x (get_or ys i 0)) (named_op op o m (suc i) xs ys e)

-- so what is said of the operation that any number counts as is said of the number
module _ (n : ℕ) (xs ys : List ℕ) (m : ℕ) where
  pub merge_of_number : merge_named (code (named n)) m 0 xs ys ≡ merge_named n m 0 xs ys
  merge_of_number = named_op n (code (named n)) m 0 xs ys (op_word_named n)

  pub group_of_number : group_words (code (named n)) xs ys m ≡ group_words n xs ys m
  unfolding group_words
  group_of_number = named_op n (code (named n)) (chosen xs ys m) 0 xs ys (op_word_named n)

  pub over_of_number : (w : ℕ) → group_over (code (named n)) xs ys w m ≡ group_over n xs ys w m
  unfolding group_over
  over_of_number w = ap (λ (zs : List ℕ). mark_named (chosen xs ys m) zs w) group_of_number

-- word j of the group
named_from : (op m i : ℕ) (xs ys : List ℕ) (j : ℕ) → j < length xs
    → get_or (merge_named op m i xs ys) j 0 ≡ cond (eqb (bit m (i + j)) 1) (op_word op (get_or xs j 0) (get_or ys (i + j) 0)) (get_or xs j 0)
unfolding merge_named
named_from op m i [] ys j h = absurd (omega arith)
named_from op m i (x ∷ xs) ys zero h = ap (λ (y : ℕ). cond (eqb (bit m y) 1) (op_word op x (get_or ys y 0)) x) (sym (add-zero i))
named_from op m i (x ∷ xs) ys (suc j) h =
    let e : suc i + j ≡ i + suc j = omega arith in
    named_from op m (suc i) xs ys j (omega arith)
    ∙ ap (λ (y : ℕ). cond (eqb (bit m y) 1) (op_word op (get_or xs j 0) (get_or ys y 0)) (get_or xs j 0)) e

module _ (op m : ℕ) (xs ys : List ℕ) (j : ℕ) where
  at : j < length xs → (b : Bool) → eqb (bit m j) 1 ≡ b → get_or (merge_named op m 0 xs ys) j 0 ≡ cond b (op_word op (get_or xs j 0) (get_or ys j 0)) (get_or xs j 0)
  at h b e =
      let z : 0 + j ≡ j = omega arith in
      named_from op m 0 xs ys j h
      ∙ ap (λ (y : ℕ). cond (eqb (bit m y) 1) (op_word op (get_or xs j 0) (get_or ys y 0)) (get_or xs j 0)) z
      ∙ ap (λ (q : Bool). cond q (op_word op (get_or xs j 0) (get_or ys j 0)) (get_or xs j 0)) e

  past : length xs ≤ j → get_or (merge_named op m 0 xs ys) j 0 ≡ 0
  past h = get_or-eq_default (merge_named op m 0 xs ys) 0 (omega (arith, length_named op m 0 xs ys))

  pub named_here : j < length xs → bit m j ≡ 1 → get_or (merge_named op m 0 xs ys) j 0 ≡ op_word op (get_or xs j 0) (get_or ys j 0)
  named_here h e = at h true (rw e)

  pub named_on : length ys ≤ length xs → bit m j ≡ 1 → get_or (merge_named op m 0 xs ys) j 0 ≡ op_word op (get_or xs j 0) (get_or ys j 0)
  named_on short e = go (dec_lt j (length xs))
    where
      go : Dec (j < length xs) → get_or (merge_named op m 0 xs ys) j 0 ≡ op_word op (get_or xs j 0) (get_or ys j 0)
      go (yes h) = named_here h e
      go (no h) =
          past (omega arith) ∙ sym (op_none op)
          ∙ sym (ap₂ (op_word op) (get_or-eq_default xs 0 (omega arith)) (get_or-eq_default ys 0 (omega arith)))

  pub named_off : bit m j ≡ 0 → get_or (merge_named op m 0 xs ys) j 0 ≡ get_or xs j 0
  named_off e = go (dec_lt j (length xs))
    where
      go : Dec (j < length xs) → get_or (merge_named op m 0 xs ys) j 0 ≡ get_or xs j 0
      go (yes h) = at h false (rw e)
      go (no h) = past (omega arith) ∙ sym (get_or-eq_default xs 0 (omega arith))

-- bit i of the word above
module _ (m : ℕ) (zs : List ℕ) (w i : ℕ) (small : m < 2 ^ 64) (h : i < 64) where
  bit_marked : bit (mark_named m zs w) i ≡ max (min (bit w i) (1 - bit m i)) (min (bit m i) (flag (get_or zs i 0)))
  unfolding mark_named
  bit_marked =
      bit-bit_or (bit_and w (flip m)) (bit_and m (flags zs)) i
      ∙ ap₂ max
      (bit-bit_and w (flip m) i ∙ ap (min (bit w i)) (bit-flip m i small h))
      (bit-bit_and m (flags zs) i ∙ ap (min (bit m i)) (bit-flags zs i))

  pub marked_on : bit m i ≡ 1 → bit (mark_named m zs w) i ≡ flag (get_or zs i 0)
  marked_on e = bit_marked ∙ omega (arith, flag_lt (get_or zs i 0))

  pub marked_off : bit m i ≡ 0 → bit (mark_named m zs w) i ≡ bit w i
  marked_off e = bit_marked ∙ omega (arith, bit_lt w i)

pub marked_lt : (m : ℕ) (zs : List ℕ) (w : ℕ) → m < 2 ^ 64 → mark_named m zs w < 2 ^ 64
unfolding mark_named
marked_lt m zs w h =
    or_lt 64 (bit_and w (flip m)) (bit_and m (flags zs)) (omega (arith, and_le_r w (flip m))) (omega (arith, and_le_l m (flags zs)))

pub bit-all : (i : ℕ) → i < 64 → bit all i ≡ 1
bit-all i h = bit-flip 0 i (omega arith) h ∙ ap (λ (x : ℕ). 1 - x) (bit_of_zero i)

-- ---- A GROUP in which no word that is not named needs to change, and whose word above is right there: all words are merged, and the
-- word above is right
module _ (op : ℕ) (xs ys : List ℕ) (w m : ℕ) (small : m < 2 ^ 64) where
  chosen_lt : chosen xs ys m < 2 ^ 64
  chosen_lt = go (is_dense (length xs) (length ys) m)
    where
      go : (b : Bool) → cond b all m < 2 ^ 64
      go true = omega arith
      go false = small

  -- what is not chosen is not named
  chosen_off : (i : ℕ) → i < 64 → bit (chosen xs ys m) i ≡ 0 → bit m i ≡ 0
  chosen_off i h = go (is_dense (length xs) (length ys) m)
    where
      go : (b : Bool) → bit (cond b all m) i ≡ 0 → bit m i ≡ 0
      go true e = absurd (omega (arith, bit-all i h))
      go false e = e

  pub length_group : length (group_words op xs ys m) ≡ length xs
  unfolding group_words
  length_group = length_named op (chosen xs ys m) 0 xs ys

  module _ (i : ℕ) (h : i < 64) where
    pub words_at : length ys ≤ length xs → (bit m i ≡ 0 → decider op (get_or xs i 0) (get_or ys i 0) ≡ 0)
        → get_or (group_words op xs ys m) i 0 ≡ op_word op (get_or xs i 0) (get_or ys i 0)
    unfolding group_words
    words_at short idle = go (bit (chosen xs ys m) i) refl
      where
        go : (b : ℕ) → bit (chosen xs ys m) i ≡ b → get_or (merge_named op (chosen xs ys m) 0 xs ys) i 0 ≡ op_word op (get_or xs i 0) (get_or ys i 0)
        go zero e =
            named_off op (chosen xs ys m) xs ys i e
            ∙ sym (op_still op (get_or xs i 0) (get_or ys i 0) (idle (chosen_off i h e)))
        go (suc b) e = named_on op (chosen xs ys m) xs ys i short (omega (arith, bit_lt (chosen xs ys m) i))

    pub over_at : (bit m i ≡ 0 → (bit w i ≡ 1) ↔ (get_or xs i 0 ≢ 0)) → (bit (group_over op xs ys w m) i ≡ 1) ↔ (get_or (group_words op xs ys m) i 0 ≢ 0)
    unfolding group_words group_over
    over_at right = go (bit (chosen xs ys m) i) refl
      where
        go : (b : ℕ) → bit (chosen xs ys m) i ≡ b → (bit (mark_named (chosen xs ys m) (merge_named op (chosen xs ys m) 0 xs ys) w) i ≡ 1) ↔ (get_or (merge_named op (chosen xs ys m) 0 xs ys) i 0 ≢ 0)
        go zero e =
            rw (marked_off (chosen xs ys m) (merge_named op (chosen xs ys m) 0 xs ys) w i chosen_lt h e, named_off op (chosen xs ys m) xs ys i e)
            (right (chosen_off i h e))
        go (suc b) e =
            rw (marked_on (chosen xs ys m) (merge_named op (chosen xs ys m) 0 xs ys) w i chosen_lt h (omega (arith, bit_lt (chosen xs ys m) i)))
            (flag-on (get_or (merge_named op (chosen xs ys m) 0 xs ys) i 0))
