-- `Cursor::check` meets its contract: prefixes that are not refused are fine.
use Rattle.store.proofs.Judged.{nothing}
use Rattle.walk.proofs.Answers.{fine_judged}
use Rattle.walk.proofs.Cursor.check.Goals as goal

pub invariant_of-result : goal.invariant_of-result
invariant_of-result c = record { fine = fine_judged c.args.n c.args.self (nothing _ c.check.ensures c.in_ok-check.was) }
