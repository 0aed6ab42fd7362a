-- `Cursor::next` meets its contract: past the refusals the slice is a store and the prefixes fit.
use Rattle.std.proofs.Common.{ap, ◌∙◌}
use Rattle.store.specs.declared.Refusal.{Refusal}
use Rattle.walk.specs.declared.Next.TheVariants.{Refused}
use Rattle.walk.proofs.Answers.{answered, next-refused, next_lent}
use Rattle.walk.proofs.Cursor.next.Goals as goal

pub returns-in-Ok : goal.returns-in-Ok
returns-in-Ok c =
    let a = c.args in
    answered (c.next.ensures ∙ next_lent a.store a.self c.in-Ok.ensures c.of.ensures a.budget)

pub returns-in-Err : goal.returns-in-Err
returns-in-Err c =
    let a = c.args in
    let h = c.in-Err.ensures in
    answered (c.step.ensures ∙ ap (λ (x : Refusal). record { cursor = a.self; reads = 0; answer = Refused x }) h.1 ∙ next-refused a.store.now a.self a.budget h.0)
