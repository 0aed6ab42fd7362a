-- `add_list` meets its contract.
use Rattle.std.proofs.Common.{sym, ◌∙◌}
use Rattle.store.proofs.Ends.{some_store}
use Rattle.set_edit.proofs.Answers.{list_2, list_3, list_done}
use Rattle.set_edit.proofs.add_list.Goals as goal

pub returns-in_err-n : goal.returns-in_err-n
returns-in_err-n c = list_2 c.args.store.now c.args.ids.now c.capacity.ensures c.in_err-n.was c.from_residual.ensures.1

pub all_below-requires : goal.all_below-requires
all_below-requires c = (some_store c.args.store.now c.capacity.ensures c.in_ok-n.was).most

pub returns-then-not-all_below : goal.returns-then-not-all_below
returns-then-not-all_below c =
    list_3 c.args.store.now c.args.ids.now _ (some_store c.args.store.now c.capacity.ensures c.in_ok-n.was) (sym c.all_below.ensures ∙ c.if-not-all_below.true)

pub add_all-requires : goal.add_all-requires
add_all-requires c =
    (some_store c.args.store.now c.capacity.ensures c.in_ok-n.was, sym c.all_below.ensures ∙ c.if-not-all_below.false)

pub returns : goal.returns
returns c =
    list_done c.args.store.now c.args.ids.now _ (some_store c.args.store.now c.capacity.ensures c.in_ok-n.was) _
    (sym c.all_below.ensures ∙ c.if-not-all_below.false) c.add_all.ensures
