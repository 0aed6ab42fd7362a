-- `BitIter::next` meets its contract: the step is the definition's.
use mathlib.Core.Path.{refl, ap}
use Rattle.walk.specs.Calls.{next_in}
use Rattle.walk.specs.declared.Step.{Step}
use Rattle.walk.proofs.Answers.{the_step}
use Rattle.walk_reader.specs.Readers.{told}
use Rattle.walk_reader.proofs.BitIter.next.Goals as goal

pub returns : goal.returns
returns c =
    let i = c.args.self.now in
    let e = the_step (next_in i.store.now i.cursor c.args.budget) c.next-s.ensures in
    (refl, ap (λ (x : Step). x.cursor) e, ap told e)
