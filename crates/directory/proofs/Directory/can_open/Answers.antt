-- `can_open` meets its contract.
use Rattle.directory.proofs.Answers.{room_out, room_owners, room_none}
use Rattle.directory.proofs.Directory.can_open.Goals as goal

pub returns-in_err-can_open : goal.returns-in_err-can_open
returns-in_err-can_open c = room_out _ _ _ c.can_open.ensures c.in_err-can_open.was c.from_residual.ensures.1

pub returns-then-self-n : goal.returns-then-self-n
returns-then-self-n c = room_owners _ _ _ c.can_open.ensures c.in_ok-can_open.was c.if-self-n.true

pub returns : goal.returns
returns c = room_none _ _ _ c.can_open.ensures c.in_ok-can_open.was c.if-self-n.false
