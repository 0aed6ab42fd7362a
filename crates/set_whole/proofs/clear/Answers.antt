-- `clear` meets its contract.
use Rattle.store.proofs.Ends.{some_store}
use Rattle.set_whole.proofs.Answers.{clear_2, clear_done}
use Rattle.set_whole.proofs.clear.Goals as goal

pub returns-in_err-n : goal.returns-in_err-n
returns-in_err-n c = clear_2 c.args.store.now c.capacity.ensures c.in_err-n.was c.from_residual.ensures.1

pub returns : goal.returns
returns c = clear_done (some_store c.args.store.now c.capacity.ensures c.in_ok-n.was) _ c.empty.ensures
