-- `contains_set` meets its contract: past its test each slice is a store.
use Rattle.store.proofs.Ends.{some_store}
use Rattle.store.proofs.Geometry.{is_store_lem}
use Rattle.set_superset.proofs.Answers.{first_2, second_2, differ_5, said_is}
use Rattle.set_superset.proofs.contains_set.Goals as goal

pub returns-in_err-n : goal.returns-in_err-n
returns-in_err-n c = first_2 c.args.store.now c.capacity.ensures c.in_err-n.was c.from_residual.ensures.1 c.args.other.now

pub returns-in_err-m : goal.returns-in_err-m
returns-in_err-m c =
    second_2 c.args.other.now c.capacity-2.ensures c.in_err-m.was c.from_residual-in_err-m.ensures.1
    (some_store c.args.store.now c.capacity.ensures c.in_ok-n.was)

pub returns-then-n-m : goal.returns-then-n-m
returns-then-n-m c =
    differ_5 (some_store c.args.store.now c.capacity.ensures c.in_ok-n.was) (some_store c.args.other.now c.capacity-2.ensures c.in_ok-m.was) c.if-n-m.true

pub all_walked-requires : goal.all_walked-requires
all_walked-requires c = (
  is_store_lem (some_store c.args.store.now c.capacity.ensures c.in_ok-n.was),
  is_store_lem (some_store c.args.other.now c.capacity-2.ensures c.in_ok-m.was),
)

pub returns : goal.returns
returns c =
    said_is (some_store c.args.store.now c.capacity.ensures c.in_ok-n.was) (some_store c.args.other.now c.capacity-2.ensures c.in_ok-m.was) _
    c.if-n-m.false c.all_walked.ensures
