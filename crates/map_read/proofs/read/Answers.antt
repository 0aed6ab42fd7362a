-- `read` meets its contract.
use Rattle.std.proofs.lemmas.Result.{err_from_is_err_and}
use Rattle.store.proofs.Ends.{some_store}
use Rattle.store.proofs.Exits.{no_store_out}
use Rattle.map_read.proofs.Answers.{read_2, read_no, read_done}
use Rattle.map_read.proofs.read.Goals as goal

pub returns-in_err-n : goal.returns-in_err-n
returns-in_err-n c = read_2 c.args.map.now c.args.store.now (no_store_out c.args.store.now c.capacity.ensures c.in_err-n.was c.from_residual.ensures.1)

pub returns-in_err-entries : goal.returns-in_err-entries
returns-in_err-entries c =
    let p = err_from_is_err_and c.from_residual-in_err-entries.result c.from_residual-in_err-entries.ensures.1 in
    rw (p.1, p.2) (read_no (some_store c.args.store.now c.capacity.ensures c.in_ok-n.was) c.in_err-entries.ensures)

pub replace-requires : goal.replace-requires
replace-requires c = some_store c.args.store.now c.capacity.ensures c.in_ok-n.was

pub returns : goal.returns
returns c =
    read_done (some_store c.args.store.now c.capacity.ensures c.in_ok-n.was) c.in_ok-entries.ensures c.replace.ensures.done c.replace.ensures.store
