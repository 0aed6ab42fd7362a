-- `write` meets its contract.
use Rattle.std.proofs.lemmas.Result.{err_from_is_err_and}
use Rattle.map_write.proofs.Answers.{write_2, write_8, write_fits, write_done}
use Rattle.map_write.proofs.write.Goals as goal

pub returns-in_err-told : goal.returns-in_err-told
returns-in_err-told c =
    let p = err_from_is_err_and c.from_residual.result c.from_residual.ensures.1 in
    rw (p.1, p.2) (write_2 c.in_err-told.ensures c.args.buf.now)

pub put-requires : goal.put-requires
put-requires c = write_fits c.in_ok-told.ensures c.args.buf.now c.map_fits.ensures c.if-map_fits.true

pub returns-then-map_fits : goal.returns-then-map_fits
returns-then-map_fits c = write_done c.in_ok-told.ensures c.args.buf.now c.map_fits.ensures c.if-map_fits.true c.put.ensures.length c.put.ensures.bytes

pub returns-else-map_fits : goal.returns-else-map_fits
returns-else-map_fits c = write_8 c.in_ok-told.ensures c.args.buf.now c.map_fits.ensures c.if-map_fits.false
