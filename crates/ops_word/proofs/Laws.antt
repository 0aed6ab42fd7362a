-- The operations' laws, all that the proofs above use of them: where the deciding word is 0 nothing changes; bit by bit; none from none.
use mathlib.Core.Bool.{Bool, true, false, cond}
use mathlib.Core.Path.{◌≡◌, refl}
use Prim.Native.Nat.{ℕ, ◌^◌, ◌<◌, min, max}
use lib.Bits.{bit_and, bit_or, bit_xor, differ, and_zero_l, or_zero_r, xor_zero_r, and_lt, or_lt, xor_lt}
use lib.Dec.{eqb}
use Rattle.util.specs.Word.{bit}
use Rattle.util.proofs.Bits.{bit-bit_and, bit-bit_or, bit-bit_xor}
use Rattle.ops_word.specs.Op.{op_word, op_bit, decider}
use Rattle.ops_word.specs.Named.{code, named}
use Rattle.ops_word.specs.declared.Op.TheVariants.{And, Or, Xor}

pub op_still : (op x y : ℕ) → decider op x y ≡ 0 → op_word op x y ≡ x
unfolding op_word decider
op_still op x y = go (eqb op 16) (eqb op 17)
  where
    go : (p q : Bool) → cond p x y ≡ 0 → cond p (bit_and x y) (cond q (bit_or x y) (bit_xor x y)) ≡ x
    go true q h = rw h (and_zero_l y)
    go false true h = rw h (or_zero_r x)
    go false false h = rw h (xor_zero_r x)

pub op_bit_lem : (op x y b : ℕ) → bit (op_word op x y) b ≡ op_bit op (bit x b) (bit y b)
unfolding op_word op_bit
op_bit_lem op x y b = go (eqb op 16) (eqb op 17)
  where
    go : (p q : Bool) → bit (cond p (bit_and x y) (cond q (bit_or x y) (bit_xor x y))) b
        ≡ cond p (min (bit x b) (bit y b)) (cond q (max (bit x b) (bit y b)) (differ (bit x b) (bit y b)))
    go true q = bit-bit_and x y b
    go false true = bit-bit_or x y b
    go false false = bit-bit_xor x y b

pub moved_none : (op : ℕ) → decider op 0 0 ≡ 0
unfolding decider
moved_none op = go (eqb op 16)
  where
    go : (p : Bool) → cond {A = ℕ} p 0 0 ≡ 0
    go true = refl
    go false = refl

pub op_none : (op : ℕ) → op_word op 0 0 ≡ 0
op_none op = op_still op 0 0 (moved_none op)

-- no bit from none, at any width
pub op_lt : (op n x y : ℕ) → x < 2 ^ n → y < 2 ^ n → op_word op x y < 2 ^ n
unfolding op_word
op_lt op n x y h g = go (eqb op 16) (eqb op 17)
  where
    go : (p q : Bool) → cond p (bit_and x y) (cond q (bit_or x y) (bit_xor x y)) < 2 ^ n
    go true q = and_lt n x y h g
    go false true = or_lt n x y h g
    go false false = xor_lt n x y h g

-- a number's operation is the one that its code counts as
pub op_word_named : (n x y : ℕ) → op_word (code (named n)) x y ≡ op_word n x y
unfolding op_word
op_word_named n x y = go (eqb n 16) (eqb n 17)
  where
    go : (p q : Bool) → op_word (code (cond p And (cond q Or Xor))) x y ≡ cond p (bit_and x y) (cond q (bit_or x y) (bit_xor x y))
    go true q = refl
    go false true = refl
    go false false = refl

-- and so is the side that decides
pub decider_named : (n x y : ℕ) → decider (code (named n)) x y ≡ decider n x y
unfolding decider
decider_named n x y = go (eqb n 16) (eqb n 17)
  where
    go : (p q : Bool) → decider (code (cond p And (cond q Or Xor))) x y ≡ cond p x y
    go true q = refl
    go false true = refl
    go false false = refl
