-- `Layers::sink` meets its contract.
use Rattle.std.proofs.Common.{sym, ◌∙◌}
use Rattle.walk.proofs.Turns.{sink_again, sink_rests, sink_spent}
use Rattle.walk.proofs.over.LayersWords.sink.Goals as goal

pub loop-c-preserved : goal.loop-c-preserved
loop-c-preserved c = sink_again c.loop-c.invariant (sym c.wants.ensures ∙ c.loop-c-test.true) c.if-reads-budget.true c.down-c.ensures

pub returns-else-reads-budget : goal.returns-else-reads-budget
returns-else-reads-budget c = sink_spent c.loop-c.invariant c.if-reads-budget.false

pub returns-after-loop-c : goal.returns-after-loop-c
returns-after-loop-c c = sink_rests c.loop-c.invariant (sym c.wants.ensures ∙ c.loop-c-test.false)
