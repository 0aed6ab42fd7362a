-- `open` meets its contract.
use Rattle.set_whole.proofs.Answers.{open_refused, open_done}
use Rattle.set_whole.proofs.open.Goals as goal

pub returns-in_err-can_open : goal.returns-in_err-can_open
returns-in_err-can_open c = open_refused c.args.store.now c.args.n c.can_open.ensures c.in_err-can_open.was c.from_residual.ensures.1

pub returns : goal.returns
returns c = open_done c.args.store.now c.args.n _ c.can_open.ensures c.in_ok-can_open.was c.empty.ensures
