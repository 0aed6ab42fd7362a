-- `open` meets its contract.
use Rattle.directory.proofs.Answers.{open_out, open_done}
use Rattle.directory.proofs.Directory.«open».Goals as goal

pub returns-in_err-can_open-clause-settled : goal.returns-in_err-can_open-clause-settled
returns-in_err-can_open-clause-settled c = open_out _ _ c.can_open.ensures c.in_err-can_open.was c.from_residual.ensures.1

pub returns-clause-settled : goal.returns-clause-settled
returns-clause-settled c = open_done _ _ c.can_open.ensures c.in_ok-can_open.was _ _ c.«open».ensures.memory (c.fill.ensures.after (λ y e. e))
