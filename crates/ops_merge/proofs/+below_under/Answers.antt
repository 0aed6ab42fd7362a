-- `below` and `under` meet their contracts: each turn does one named word and all under it, one layer down.
use Rattle.std.proofs.Common.{arith, refl}
use Rattle.util.proofs.Places.{ones_next, ones_end}
use Rattle.ops_group.proofs.Loops.{taken_off}
use Rattle.ops_merge.proofs.Steps.{level_start, level_end, places_few, ask_child, level_turn}
use Rattle.ops_merge.proofs.+below_under.Goals as goal

pub below-loop-t-init : goal.below-loop-t-init
below-loop-t-init t c = rw c.into_iter-t-iterator.ensures.into_iter_gives (level_start _ _ _ _ _ _ _ _ (omega arith))

pub below-overflow_add-j : goal.below-overflow_add-j
below-overflow_add-j t c =
    let low = ones_next c.loop-t.t-iterator.0 c.next.new.self.0 c.loop-t.invariant.few c.in-Some.ensures.steps in
    omega (arith, c.requires.at.small, places_few c.args.n c.args.k, low.0.inside)

pub below-under-z-requires : goal.below-under-z-requires
below-under-z-requires t c =
    let low = ones_next c.loop-t.t-iterator.0 c.next.new.self.0 c.loop-t.invariant.few c.in-Some.ensures.steps in
    (omega (arith, c.decreases), (c.requires.above, ask_child c.requires.at c.loop-t.invariant (λ e. omega (arith, c.requires.above)) low.0.inside refl))

pub below-loop-t-preserved : goal.below-loop-t-preserved
below-loop-t-preserved t c =
    let h = c.loop-t.invariant in
    let low = ones_next c.loop-t.t-iterator.0 c.next.new.self.0 h.few c.in-Some.ensures.steps in
    level_turn c.requires.at h c.start-start.ensures c.end-end.ensures (λ e. omega (arith, c.requires.above)) low.0.inside low.0.on refl
    c.get-w.ensures c.moving-m.ensures c.under-z.ensures c.put.ensures c.with_bit-over.ensures
    (taken_off h.few low.0.inside low.0.on low.1)

pub below-returns : goal.below-returns
below-returns t c = level_end (ones_end _ c.loop-t.invariant.few c.in-None.ensures.steps.0.0) c.loop-t.invariant
