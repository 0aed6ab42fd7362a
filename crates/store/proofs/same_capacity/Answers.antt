-- `store::same_capacity` meets its contract.
use Rattle.std.proofs.Common.{◌∙◌}
use Rattle.store.proofs.Ends.{passed, pair_first, pair_second, pair_apart, pair_same}
use Rattle.store.proofs.same_capacity.Goals as goal

pub returns-in_err-n : goal.returns-in_err-n
returns-in_err-n c =
    passed c.from_residual.ensures.1 ∙ pair_first c.args.a.now c.args.b.now c.capacity.ensures c.in_err-n.was

pub returns-in_err-m : goal.returns-in_err-m
returns-in_err-m c =
    passed c.from_residual-in_err-m.ensures.1
    ∙ pair_second c.args.a.now c.args.b.now c.capacity.ensures c.capacity-2.ensures c.in_ok-n.was c.in_err-m.was

pub returns-then-n-m : goal.returns-then-n-m
returns-then-n-m c =
    pair_apart c.args.a.now c.args.b.now c.capacity.ensures c.capacity-2.ensures c.in_ok-n.was c.in_ok-m.was c.if-n-m.true

pub returns : goal.returns
returns c =
    pair_same c.args.a.now c.args.b.now c.capacity.ensures c.capacity-2.ensures c.in_ok-n.was c.in_ok-m.was c.if-n-m.false
