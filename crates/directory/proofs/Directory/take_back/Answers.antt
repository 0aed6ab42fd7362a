-- `take_back` meets its contract.
use mathlib.Core.Path.{refl}
use Rattle.directory.proofs.Answers.{take_out, take_inside, take_done}
use Rattle.directory.proofs.Directory.take_back.Goals as goal

pub returns-in_err-can_return-clause-settled : goal.returns-in_err-can_return-clause-settled
returns-in_err-can_return-clause-settled c = take_out _ _ _ c.can_return.ensures c.in_err-can_return.was c.from_residual.ensures.1

pub bounds-self-chunk : goal.bounds-self-chunk
bounds-self-chunk c = take_inside _ _ _ c.can_return.ensures c.in_ok-can_return.was

pub returns-clause-settled : goal.returns-clause-settled
returns-clause-settled c = take_done _ _ _ c.can_return.ensures c.in_ok-can_return.was _ _ c.remove.ensures.memory refl
