-- `Pair::down` meets its contract.
use Rattle.std.proofs.Common.{refl, arith}
use Rattle.store.specs.Layout.{top_most}
use Rattle.walk.proofs.Cursors.{rests_at_hand, low_one_of_three, low_two_of_three, low_three_of_three, rests_at_the_end}
use Rattle.formula_pair.proofs.Turns.{steps_one}
use Rattle.formula_pair.proofs.Pair.down.Goals as goal

pub returns-then-masks-ne0 : goal.returns-then-masks-ne0
returns-then-masks-ne0 c = rests_at_hand top_most c.args.c c.if-masks-ne0.true

pub returns-then-masks-ne0-2 : goal.returns-then-masks-ne0-2
returns-then-masks-ne0-2 c = steps_one (low_one_of_three c.args.c c.if-masks-ne0.false c.if-masks-ne0-2.true).0 (omega arith) (λ i. refl) c.read.ensures

pub returns-then-masks-ne0-3 : goal.returns-then-masks-ne0-3
returns-then-masks-ne0-3 c =
    steps_one (low_two_of_three c.args.c c.if-masks-ne0.false c.if-masks-ne0-2.false c.if-masks-ne0-3.true).0 (omega arith) (λ i. refl) c.read-then-masks-ne0-3.ensures

pub returns-then-masks-ne0-4 : goal.returns-then-masks-ne0-4
returns-then-masks-ne0-4 c =
    steps_one (low_three_of_three c.args.c c.if-masks-ne0.false c.if-masks-ne0-2.false c.if-masks-ne0-3.false c.if-masks-ne0-4.true).0 (omega arith) (λ i. refl)
    c.read-then-masks-ne0-4.ensures

pub returns-else-masks-ne0-4 : goal.returns-else-masks-ne0-4
returns-else-masks-ne0-4 c = rests_at_the_end c.args.c c.if-masks-ne0.false c.if-masks-ne0-2.false c.if-masks-ne0-3.false c.if-masks-ne0-4.false
