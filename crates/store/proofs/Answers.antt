-- An answer, by its numbers.
use Rattle.std.proofs.Common.{◌≡◌, Bool, true, false, refl, ap, arith}
use Rattle.store.specs.Answer.{says, value_of}

-- what says as yes says is yes
pub says_yes : (b : Bool) → says b tt ≡ says {X = Unit {0}} true tt → b ≡ true
says_yes true e = refl
says_yes false e = absurd (omega (arith, ap value_of e))
