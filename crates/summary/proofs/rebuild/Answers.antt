-- `rebuild` meets its contract.
use Rattle.std.proofs.lemmas.Result.{err_from_is_err_and}
use Rattle.store.proofs.Ends.{some_store, no_store, no_store_is}
use Rattle.summary.proofs.Answers.{rebuild_2, rebuild_done}
use Rattle.summary.proofs.rebuild.Goals as goal

pub returns-in_err-n : goal.returns-in_err-n
returns-in_err-n c =
    let s = c.args.store.now in
    let p = err_from_is_err_and c.from_residual.result c.from_residual.ensures.1 in
    rw (p.1, p.2, no_store_is s c.capacity.ensures c.in_err-n.was) (rebuild_2 s (no_store s c.capacity.ensures c.in_err-n.was))

pub raise-requires : goal.raise-requires
raise-requires c = some_store c.args.store.now c.capacity.ensures c.in_ok-n.was

pub returns : goal.returns
returns c = rebuild_done (some_store c.args.store.now c.capacity.ensures c.in_ok-n.was) c.raise.ensures
