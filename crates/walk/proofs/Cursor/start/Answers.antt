-- `Cursor::start` meets its contract.
use mathlib.Core.Path.{ap, ◌∙◌}
use Rattle.store.proofs.Ends.{some_store, no_store, no_store_is}
use Rattle.store.specs.declared.Refusal.{Refusal}
use Rattle.walk.specs.declared.Cursor.{Cursor}
use Rattle.walk.specs.declared.Next.TheVariants.{Paused, Refused}
use Rattle.walk.proofs.Answers.{answered, start_2, start_runs}
use Rattle.walk.proofs.Cursor.start.Goals as goal

pub returns-in-Ok : goal.returns-in-Ok
returns-in-Ok c =
    let a = c.args in
    answered (c.step.ensures ∙ ap (λ (x : Cursor). record { cursor = x; reads = 1; answer = Paused }) c.above.ensures
    ∙ start_runs (some_store a.store.now c.capacity.ensures c.in-Ok.is) a.self c.top_word.result c.top_word.ensures)

pub returns-in-Err : goal.returns-in-Err
returns-in-Err c =
    let a = c.args in
    answered (c.step-in-Err.ensures ∙ ap (λ (x : Refusal). record { cursor = a.self; reads = 0; answer = Refused x }) (no_store_is a.store.now c.capacity.ensures c.in-Err.is)
    ∙ start_2 a.store.now a.self (no_store a.store.now c.capacity.ensures c.in-Err.is))
