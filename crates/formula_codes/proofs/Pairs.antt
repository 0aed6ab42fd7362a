-- What a code makes of two words, by the operation that it is in the layer.
use mathlib.Core.Logic.{◌≢◌}
use mathlib.Core.Path.{◌≡◌, refl, sym}
use Prim.Native.Nat.{ℕ, zero, suc}
use borrow.Author.Tests.{ne_eqb}
use Rattle.ops_word.specs.Op.{op_word}
use Rattle.formula_codes.specs.Tree.{xor_in, joined}

-- 16 and 17 are their operations in every layer
pub joined_and : (code k x y : ℕ) → code ≡ 16 → op_word 16 x y ≡ joined code k x y
unfolding joined
joined_and code k x y e = sym (rw e)

pub joined_or : (code k x y : ℕ) → code ≡ 17 → op_word 17 x y ≡ joined code k x y
unfolding joined
joined_or code k x y e = sym (rw e)

-- every other code is xor in layer 0, and or above it
module _ (code k x y : ℕ) (n : code ≢ 16) (m : code ≢ 17) where
  pub joined_ids : k ≡ 0 → op_word 18 x y ≡ joined code k x y
  unfolding joined xor_in
  joined_ids z = sym (rw (ne_eqb code 16 n, ne_eqb code 17 m, z))

  pub joined_above : k ≢ 0 → op_word 17 x y ≡ joined code k x y
  unfolding joined xor_in
  joined_above z = sym (rw (ne_eqb code 16 n, ne_eqb code 17 m) (go k z))
    where
      go : (j : ℕ) → j ≢ 0 → op_word (xor_in j) x y ≡ op_word 17 x y
      go zero h = absurd (h refl)
      go (suc j) h = refl

pub ruleset pairs = (joined_and, joined_or, joined_ids, joined_above)
