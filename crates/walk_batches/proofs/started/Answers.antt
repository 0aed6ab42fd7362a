-- `started` meets its contract.
use Rattle.std.proofs.Common.{ap, ◌∙◌}
use Rattle.walk.specs.Calls.{start_in}
use Rattle.walk.specs.declared.Cursor.{Cursor}
use Rattle.walk.specs.declared.Step.{Step}
use Rattle.walk.proofs.Answers.{the_step}
use Rattle.walk_batches.proofs.started.Goals as goal

pub returns : goal.returns
returns c =
    let s = c.args.store.now in
    ap (λ (x : Step). x.cursor) (the_step (start_in s c.above.result) c.start.ensures) ∙ ap (λ (k : Cursor). (start_in s k).cursor) c.above.ensures
