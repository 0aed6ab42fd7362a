-- `Layers::down` meets its contract.
use Rattle.store.specs.Layout.{top_most}
use mathlib.Core.Path.{refl}
use native.Mathlib.Omega.{arith}
use Rattle.walk.proofs.Cursors.{reading_zero, low_one_of_three, low_two_of_three, low_three_of_three, top_wanted, lowers_at}
use Rattle.walk.proofs.over.Layers.down.Goals as goal

pub returns-then-c-ne0 : goal.returns-then-c-ne0
returns-then-c-ne0 c =
    let s = c.args.c in
    lowers_at (low_one_of_three s (reading_zero top_most s c.requires) c.if-c-ne0.true).0 (λ i. refl) c.read.ensures

pub returns-then-c-ne0-2 : goal.returns-then-c-ne0-2
returns-then-c-ne0-2 c =
    let s = c.args.c in
    lowers_at (low_two_of_three s (reading_zero top_most s c.requires) c.if-c-ne0.false c.if-c-ne0-2.true).0 (λ i. refl) c.read-then-c-ne0-2.ensures

pub read-requires-else-c-ne0-2 : goal.read-requires-else-c-ne0-2
read-requires-else-c-ne0-2 c =
    let s = c.args.c in
    let h = top_wanted s (reading_zero top_most s c.requires) c.if-c-ne0.false c.if-c-ne0-2.false c.requires in
    (omega arith, omega (arith, h))

pub returns-else-c-ne0-2 : goal.returns-else-c-ne0-2
returns-else-c-ne0-2 c =
    let s = c.args.c in
    let z = reading_zero top_most s c.requires in
    let h = top_wanted s z c.if-c-ne0.false c.if-c-ne0-2.false c.requires in
    lowers_at (low_three_of_three s z c.if-c-ne0.false c.if-c-ne0-2.false h).0 (λ i. refl) c.read-else-c-ne0-2.ensures
