-- `map_length` meets its contract.
use Rattle.std.proofs.Common.{arith}
use Rattle.map_format.proofs.Used.{used_front, used_few}
use Rattle.map_format.proofs.map_length.Goals as goal

pub returns-in-Some : goal.returns-in-Some
returns-in-Some c =
    omega (arith, used_front c.args.layer.now c.args.last _ _ c.in-Some.ensures.cases.0, c.count_used.ensures, c.from.ensures)

pub returns-in-None : goal.returns-in-None
returns-in-None c = omega (arith, used_few c.args.layer.now c.args.last, c.in-None.ensures.cases)
