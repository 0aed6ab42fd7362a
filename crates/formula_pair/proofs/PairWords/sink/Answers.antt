-- `Pair::sink` meets its contract.
use Rattle.walk.proofs.Turns.{sink_again, sink_rests, sink_none, sink_spent}
use Rattle.formula_pair.proofs.PairWords.sink.Goals as goal

pub returns-then-from-ne0 : goal.returns-then-from-ne0
returns-then-from-ne0 c = sink_none _ _ _ _ _ c.if-from-ne0.true

pub loop-reads-preserved : goal.loop-reads-preserved
loop-reads-preserved c = let s = c.in-Some.ensures in sink_again c.loop-reads.invariant s.0 c.loop-reads-test.true s.1

pub returns-after-loop-reads : goal.returns-after-loop-reads
returns-after-loop-reads c = sink_spent c.loop-reads.invariant c.loop-reads-test.false

pub returns-in_default : goal.returns-in_default
returns-in_default c = sink_rests c.loop-reads.invariant c.in_default.ensures
