-- `judge` meets its contract.
use Rattle.std.proofs.lemmas.Result.{err_from_is_err_and}
use Rattle.map_read.proofs.Right.{wrong_9, wrong_5, entries_there, wrong_entries, taken}
use Rattle.map_read.proofs.judge.Goals as goal

pub returns-in_err-head : goal.returns-in_err-head
returns-in_err-head c =
    let p = err_from_is_err_and c.from_residual.result c.from_residual.ensures.1 in
    rw (p.1, p.2) (wrong_9 c.args.map.now c.args.n c.in_err-head.ensures)

pub returns-then-head-n : goal.returns-then-head-n
returns-then-head-n c = wrong_5 c.args.n c.in_ok-head.ensures c.if-head-n.true

pub judge_entries-requires : goal.judge_entries-requires
judge_entries-requires c = entries_there c.args.n c.in_ok-head.ensures c.if-head-n.false

pub returns-in_err-judge_entries : goal.returns-in_err-judge_entries
returns-in_err-judge_entries c =
    let p = err_from_is_err_and c.from_residual-in_err-judge_entries.result c.from_residual-in_err-judge_entries.ensures.1 in
    rw (p.1, p.2) (wrong_entries c.args.n c.in_ok-head.ensures c.if-head-n.false c.judge_entries.ensures c.in_err-judge_entries.was)

pub returns : goal.returns
returns c = taken c.args.n c.in_ok-head.ensures c.if-head-n.false c.judge_entries.ensures c.in_ok-judge_entries.was
