use Rattle.map_write.proofs.Entries.{entered_none, step_room, step_more}
use Rattle.map_write.proofs.Draft.put_all.Goals as goal

pub loop-i-init : goal.loop-i-init
loop-i-init c = entered_none

pub put-requires : goal.put-requires
put-requires c = step_room c.args.words.now c.loop-i.i c.loop-i.invariant c.loop-i-test.true c.requires

pub loop-i-preserved : goal.loop-i-preserved
loop-i-preserved c = step_more c.args.words.now c.loop-i.i c.loop-i.invariant c.loop-i-test.true c.put.ensures
