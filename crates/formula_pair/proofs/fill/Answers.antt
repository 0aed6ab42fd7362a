-- `fill` meets its contract.
use Rattle.std.proofs.Common.{ap, ◌∙◌}
use Rattle.store.specs.declared.Refusal.{Refusal}
use Rattle.walk_fill.specs.declared.Stop.TheVariants.{Refused}
use Rattle.formula_pair.specs.Pair.{pair_words}
use Rattle.formula_pair.proofs.Pairs.{over_refused, pair_runs}
use Rattle.formula_pair.proofs.fill.Goals as goal

pub returns-in-Ok : goal.returns-in-Ok
returns-in-Ok c =
    let a = c.args in
    pair_runs a.c a.n a.budget a.out.now _ c.in-Ok.ensures c.of.ensures c.of-in-Ok.ensures c.fill_over.ensures

pub returns-in-Err : goal.returns-in-Err
returns-in-Err c =
    let a = c.args in
    let h = c.in-Err.ensures in
    over_refused a.c a.n a.budget a.out.now (pair_words a.code a.a.now a.b.now) h.0
    (c.made.ensures ∙ ap (λ (x : Refusal). record { cursor = a.c; reads = 0; count = 0; stop = Refused x }) h.1)
