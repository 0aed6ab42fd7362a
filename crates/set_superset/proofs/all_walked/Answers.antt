-- `all_walked` meets its contract: `turn` says what the batch is.
use mathlib.Core.Path.{sym, ◌∙◌}
use native.Mathlib.Omega.{arith}
use Rattle.walk_batches.proofs.Batches.{turn, less_to_go}
use Rattle.set_superset.proofs.Batches.{holding_start, one_lacks, all_there, holding-on}
use Rattle.set_superset.proofs.all_walked.Goals as goal

pub loop-ids-init : goal.loop-ids-init
loop-ids-init c = holding_start c.args.store.now c.args.other.now c.requires.1 (λ i. (c.type_inv.other i).fits) c.started-c.result (omega arith) c.started-c.ensures

pub returns-then-not-all_held : goal.returns-then-not-all_held
returns-then-not-all_held c =
    let u = turn c.args.other.now c.requires.1 (λ i. (c.type_inv.other i).fits) c.loop-ids.invariant.at c.fill-b.ensures in
    one_lacks c.loop-ids.invariant u (sym c.all_held.ensures ∙ c.if-not-all_held.true)

pub returns-then-not-goes_on : goal.returns-then-not-goes_on
returns-then-not-goes_on c =
    let u = turn c.args.other.now c.requires.1 (λ i. (c.type_inv.other i).fits) c.loop-ids.invariant.at c.fill-b.ensures in
    all_there c.loop-ids.invariant u (sym c.all_held.ensures ∙ c.if-not-all_held.false) (sym c.goes_on.ensures ∙ c.if-not-goes_on.true)

pub loop-ids-smaller : goal.loop-ids-smaller
loop-ids-smaller c =
    let u = turn c.args.other.now c.requires.1 (λ i. (c.type_inv.other i).fits) c.loop-ids.invariant.at c.fill-b.ensures in
    less_to_go u (omega arith) (sym c.goes_on.ensures ∙ c.if-not-goes_on.false)

pub loop-ids-preserved : goal.loop-ids-preserved
loop-ids-preserved c =
    let u = turn c.args.other.now c.requires.1 (λ i. (c.type_inv.other i).fits) c.loop-ids.invariant.at c.fill-b.ensures in
    holding-on c.loop-ids.invariant u (sym c.all_held.ensures ∙ c.if-not-all_held.false)
