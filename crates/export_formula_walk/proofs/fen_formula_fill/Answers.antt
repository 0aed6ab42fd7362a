-- `export_formula_walk::fen_formula_fill` meets its contract.
use mathlib.Core.Path.{ap, ◌∙◌}
use lib.ListN.{length}
use Rattle.walk.specs.declared.Cursor.{Cursor}
use Rattle.walk_fill.specs.Fill.{batch}
use Rattle.walk_fill.specs.declared.Batch.{Batch}
use Rattle.walk_fill.proofs.Fills.{the_batch}
use Rattle.formula_codes.specs.Tree.{four}
use Rattle.formula_fill.specs.Calls.{formula_fill_in}
use Rattle.export_step.specs.Answers.{stop_of, left_of}
use Rattle.export_formula_walk.proofs.fen_formula_fill.Goals as goal

pub returns-clause-cursor_after : goal.returns-clause-cursor_after
returns-clause-cursor_after c =
    let a = c.args in
    let ss = four a.s0.now a.s1.now a.s2.now a.s3.now in
    let o = a.out.now in
    c.told_batch.ensures.words_after
    ∙ ap (λ (x : Batch). left_of (stop_of x.stop x.count) a.cursor.now x.cursor x.reads)
    (the_batch (formula_fill_in ss a.codes.now c.cursor_in.result a.budget (length o)) o c.fill-b.ensures
    ∙ ap (λ (x : Cursor). batch (formula_fill_in ss a.codes.now x a.budget (length o))) c.cursor_in.ensures)
