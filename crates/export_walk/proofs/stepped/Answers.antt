-- `stepped` meets its contract.
use Rattle.walk.proofs.Answers.{the_step}
use Rattle.export_walk.proofs.stepped.Goals as goal

pub returns-clause-cursor_after : goal.returns-clause-cursor_after
returns-clause-cursor_after c = rw (← c.cursor_in.ensures, ← the_step _ c.next-s.ensures) c.told_step.ensures.words_after
