-- `util::offset` meets its contract: a shift of 32 or more leaves nothing of an id.
use mathlib.Core.Path.{sym}
use native.Mathlib.Nat.{div-eq_of_lt}
use native.Mathlib.Omega.{arith}
use lib.Pow.{pow_mono}
use Rattle.util.proofs.offset.Goals as goal

pub returns-else-shift-lt32 : goal.returns-else-shift-lt32
returns-else-shift-lt32 c = sym (div-eq_of_lt (omega (arith, pow_mono c.if-shift-lt32.false)))
