-- `is_empty` meets its contract.
use Rattle.store.proofs.Ends.{some_store}
use Rattle.set_whole.proofs.Answers.{is_empty_2, is_empty_is}
use Rattle.set_whole.proofs.is_empty.Goals as goal

pub returns-in_err-capacity : goal.returns-in_err-capacity
returns-in_err-capacity c = is_empty_2 c.args.store.now c.capacity.ensures c.in_err-capacity.was c.from_residual.ensures.1

pub returns : goal.returns
returns c = is_empty_is (some_store c.args.store.now c.capacity.ensures c.in_ok-capacity.was) _ c.top_word.ensures
