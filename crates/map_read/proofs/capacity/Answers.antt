-- `capacity` meets its contract.
use Rattle.std.proofs.lemmas.Result.{err_from_is_err_and}
use Rattle.map_read.proofs.Answers.{capacity_9, capacity_named}
use Rattle.map_read.proofs.capacity.Goals as goal

pub returns-in_err-named : goal.returns-in_err-named
returns-in_err-named c =
    let p = err_from_is_err_and c.from_residual.result c.from_residual.ensures.1 in
    rw (p.1, p.2) (capacity_9 c.in_err-named.ensures)

pub returns : goal.returns
returns c = capacity_named c.in_ok-named.ensures
