-- `fen_fill` meets its contract.
use mathlib.Core.Path.{ap, ◌∙◌}
use Rattle.walk_fill.specs.declared.Batch.{Batch}
use Rattle.walk_fill.proofs.Fills.{the_batch}
use Rattle.export_step.specs.Answers.{stop_of, left_of}
use Rattle.export_walk.proofs.fen_fill.Goals as goal

pub returns-clause-cursor_after : goal.returns-clause-cursor_after
returns-clause-cursor_after c =
    rw (← c.cursor_in.ensures) (c.told_batch.ensures.words_after
    ∙ ap (λ (x : Batch). left_of (stop_of x.stop x.count) c.args.cursor.now x.cursor x.reads) (the_batch _ _ c.fill-b.ensures))
