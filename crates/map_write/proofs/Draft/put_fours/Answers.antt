use Rattle.map_write.proofs.Entries.{entered_none, four_room, four_more, entered_four}
use Rattle.map_write.proofs.Draft.put_fours.Goals.{then-four-ne0, else-four-ne0}
use Rattle.map_write.proofs.Draft.put_fours.Goals as goal

pub loop-k-init : goal.loop-k-init
loop-k-init c = entered_none

pub put_all-requires : goal.put_all-requires
put_all-requires c = four_room c.args.fours.now c.told-fours c.loop-k.k c.loop-k.invariant c.loop-k-test.true c.requires

pub loop-k-preserved : goal.loop-k-preserved
loop-k-preserved c =
    four_more c.args.fours.now c.told-fours c.loop-k.k c.loop-k.invariant c.loop-k-test.true
    (elim c.if-four-ne0.branch [ then-four-ne0 w ↦ rw w.self-is w.put_all.ensures | else-four-ne0 w ↦ rw w.self-is (entered_four _ (c.told-fours c.loop-k.k c.loop-k-test.true) w.if-four-ne0.false) ])
