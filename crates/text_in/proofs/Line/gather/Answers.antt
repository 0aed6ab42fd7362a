use Rattle.std.proofs.Common.{arith}
use Rattle.text_in.proofs.Lines.{gather_past, gather_rest, gather_front}
use Rattle.text_in.proofs.Line.gather.Goals as goal

pub returns-in_err-rest-clause-taken : goal.returns-in_err-rest-clause-taken
returns-in_err-rest-clause-taken c =
    rw c.from_residual.ensures (gather_past _ _ _ (omega (arith, c.in_err-rest.ensures.lookup.0)))

pub returns-in_default-clause-taken : goal.returns-in_default-clause-taken
returns-in_default-clause-taken c =
    let rest = c.in_ok-rest.ensures.lookup.0 in
    rw c.keep.ensures.kept (gather_rest _ _ _ _ rest.0 rest.2 c.in_default.ensures)

pub returns-clause-taken : goal.returns-clause-taken
returns-clause-taken c =
    let rest = c.in_ok-rest.ensures.lookup.0 in
    rw c.keep-2.ensures.kept (gather_front _ _ _ _ rest.0 rest.2 c.in-Some.ensures)
