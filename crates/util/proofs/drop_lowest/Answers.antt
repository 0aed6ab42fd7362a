-- `drop_lowest` meets its contract.
use native.Mathlib.Omega.{arith}
use Rattle.util.proofs.Lowest.{less_is}
use Rattle.util.proofs.drop_lowest.Goals as goal

pub returns : goal.returns
returns c = less_is c.args.w (omega arith) (omega (arith, c.if-w-eq0.false))
