-- What `text_in::number` read, to the last byte.
use Rattle.std.proofs.Common.{◌∙◌, arith, rules}
use Rattle.listing_line.proofs.Parsing.{read_none, read_fits, read_some}
use Rattle.listing_line.proofs.read_id.Goals as goal

pub returns-in_err-n : goal.returns-in_err-n
returns-in_err-n c = c.from_residual.ensures ∙ read_none c.args.bytes.now (omega arith) c.in_err-n.ensures

pub overflow_cast-n : goal.overflow_cast-n
overflow_cast-n c = let fits = read_fits c.args.bytes.now (omega arith) c.in_ok-n.ensures in search rules

pub returns : goal.returns
returns c = c.then_some.ensures ∙ read_some c.args.bytes.now (omega arith) c.in_ok-n.ensures
