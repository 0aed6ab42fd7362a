-- `give` meets its contract.
use mathlib.Core.Path.{refl}
use native.Mathlib.Omega.{arith}
use Rattle.directory.proofs.Answers.{item_small, give_out, give_full, give_done}
use Rattle.directory.proofs.Directory.give.Goals as goal

pub returns-in_err-can_take-clause-settled : goal.returns-in_err-can_take-clause-settled
returns-in_err-can_take-clause-settled c = give_out _ _ c.can_take.ensures c.in_err-can_take.was c.from_residual.ensures.1

pub returns-then-self-chunk-clause-settled : goal.returns-then-self-chunk-clause-settled
returns-then-self-chunk-clause-settled c = give_full _ _ c.can_take.ensures c.in_ok-can_take.was c.lowest_free-chunk.ensures c.if-self-chunk.true

pub overflow_cast-self : goal.overflow_cast-self
overflow_cast-self c = record { fits = omega (arith, item_small _ _ c.can_take.ensures c.in_ok-can_take.was) }

pub returns-clause-settled : goal.returns-clause-settled
returns-clause-settled c = give_done _ _ c.can_take.ensures c.in_ok-can_take.was c.lowest_free-chunk.ensures c.if-self-chunk.false _ _ c.add.ensures.memory refl
