-- `equal` meets its contract.
use Rattle.store.proofs.Ends.{some_store}
use Rattle.set_whole.proofs.Answers.{equal_first_2, equal_second_2, equal_5, equal_is}
use Rattle.set_whole.proofs.equal.Goals as goal

pub returns-in_err-n : goal.returns-in_err-n
returns-in_err-n c = equal_first_2 c.args.a.now c.capacity.ensures c.in_err-n.was c.args.b.now c.from_residual.ensures.1

-- past its test each slice is a store
pub returns-in_err-m : goal.returns-in_err-m
returns-in_err-m c =
    equal_second_2 c.args.b.now c.capacity-2.ensures c.in_err-m.was (some_store c.args.a.now c.capacity.ensures c.in_ok-n.was) c.from_residual-in_err-m.ensures.1

pub returns-then-n-m : goal.returns-then-n-m
returns-then-n-m c =
    equal_5 (some_store c.args.a.now c.capacity.ensures c.in_ok-n.was) (some_store c.args.b.now c.capacity-2.ensures c.in_ok-m.was) c.if-n-m.true

pub returns : goal.returns
returns c =
    equal_is (some_store c.args.a.now c.capacity.ensures c.in_ok-n.was) (some_store c.args.b.now c.capacity-2.ensures c.in_ok-m.was) c.if-n-m.false _ c.eq.ensures
