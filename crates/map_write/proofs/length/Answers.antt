-- `length` meets its contract.
use Rattle.std.proofs.lemmas.Result.{err_from_is_err_and}
use Rattle.map_write.proofs.Answers.{length_2, length_done}
use Rattle.map_write.proofs.length.Goals as goal

pub returns-in_err-told : goal.returns-in_err-told
returns-in_err-told c =
    let p = err_from_is_err_and c.from_residual.result c.from_residual.ensures.1 in
    rw (p.1, p.2) (length_2 c.in_err-told.ensures)

pub returns : goal.returns
returns c = length_done c.in_ok-told.ensures c.map_length.ensures
