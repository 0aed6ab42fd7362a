-- `fill` meets its contract: past the refusals the slice is a store and the prefixes fit.
use Rattle.std.proofs.Common.{length, ap, ◌∙◌}
use Rattle.store.specs.declared.Refusal.{Refusal}
use Rattle.walk_fill.specs.declared.Stop.TheVariants.{Refused}
use Rattle.walk_fill.proofs.Fills.{fill_refused, fill_lent, fill_answered}
use Rattle.walk_fill.proofs.fill.Goals as goal

pub returns-in-Ok : goal.returns-in-Ok
returns-in-Ok c =
    let a = c.args in
    fill_answered a.out.now (fill_lent a.store a.c c.in-Ok.ensures c.of.ensures a.budget (length a.out.now)) c.fill_over.ensures

pub returns-in-Err : goal.returns-in-Err
returns-in-Err c =
    let a = c.args in
    let h = c.in-Err.ensures in
    fill_refused a.store.now a.c a.budget a.out.now h.0
    (c.made.ensures ∙ ap (λ (x : Refusal). record { cursor = a.c; reads = 0; count = 0; stop = Refused x }) h.1)
