use Rattle.util.proofs.Places.{ones_next, ones_end}
use Rattle.ops_group.proofs.Loops.{naming_turn, naming_words, naming_over, taken_off}
use Rattle.ops_group.proofs.one_by_one.Goals as goal

pub loop-t-preserved : goal.loop-t-preserved
loop-t-preserved c =
    let h = c.loop-t.invariant in
    -- the lowest word that is still named
    let low = ones_next c.loop-t.t-iterator.0 c.next.new.self.0 h.few c.in-Some.ensures.steps in
    naming_turn h low.0.inside low.0.on c.leaf-z.ensures.part_after c.leaf-z.ensures.value c.with_bit-over.ensures
    (taken_off h.few low.0.inside low.0.on low.1)

pub returns-clause-part_after : goal.returns-clause-part_after
returns-clause-part_after c = naming_words c.loop-t.invariant (ones_end _ c.loop-t.invariant.few c.in-None.ensures.steps.0.0)

pub returns-clause-value : goal.returns-clause-value
returns-clause-value c = naming_over c.loop-t.invariant (ones_end _ c.loop-t.invariant.few c.in-None.ensures.steps.0.0)
