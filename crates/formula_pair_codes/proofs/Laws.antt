-- What the codes that pass the test are.
use Rattle.std.proofs.Common.{◌≡◌, ℕ, List, true, arith}
use Rattle.formula_pair_codes.specs.Pairs.{is_pair, Pair}

-- a pair
pub pair_of : (cs : List ℕ) → is_pair cs ≡ true → Pair cs
unfolding is_pair
pair_of cs e = record { three = grind arith; first = grind arith; second = grind arith; joins = grind arith; known = grind arith }
