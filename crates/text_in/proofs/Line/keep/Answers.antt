use Rattle.text_in.proofs.Lines.{keeps}
use Rattle.text_in.proofs.Line.keep.Goals as goal

pub returns-clause-kept : goal.returns-clause-kept
returns-clause-kept c =
    rw c.copy_from_slice.ensures.after (keeps _ _ c.min-at.ensures c.min-n.ensures)
