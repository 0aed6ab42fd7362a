-- `fill` meets its contract: a pair over the layers of its stores, any other codes by the machine.
use Rattle.std.proofs.Common.{rules}
use Rattle.formula_fill.proofs.Answers.{fill_refused, fill_cursor, fill_runs, fill_joins}
use Rattle.formula_fill.proofs.fill.Goals as goal

pub returns-in-Err : goal.returns-in-Err
returns-in-Err c =
    let a = c.args in
    fill_refused a.f.now a.c a.budget a.out.now _ c.in-Err.ensures c.made.ensures

pub returns-then-is_pair : goal.returns-then-is_pair
returns-then-is_pair c =
    let a = c.args in
    fill_joins a.f.now a.c a.budget a.out.now (search rules) c.in-Ok.ensures c.if-is_pair.ensures c.fill.ensures

pub returns-in-Ok-check : goal.returns-in-Ok-check
returns-in-Ok-check c =
    let a = c.args in
    fill_runs a.f.now a.c a.budget a.out.now (search rules) c.in-Ok.ensures c.in-Ok-check.ensures c.of.ensures c.fill_over.ensures

pub returns-in-Err-check : goal.returns-in-Err-check
returns-in-Err-check c =
    let a = c.args in
    fill_cursor a.f.now a.c a.budget a.out.now _ c.in-Ok.ensures c.in-Err-check.ensures c.made-in-Err-check.ensures
