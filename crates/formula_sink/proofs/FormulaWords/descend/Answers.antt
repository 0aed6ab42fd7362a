use Rattle.store.specs.Layout.{top_most}
use Rattle.walk.proofs.Cursors.{wants_at}
use Rattle.walk.proofs.Turns.{sink_again, sink_rests, sink_spent}
use Rattle.formula_sink.proofs.FormulaWords.descend.Goals as goal

pub loop-reads-preserved : goal.loop-reads-preserved
loop-reads-preserved c =
    let s = c.in-Some.ensures in
    sink_again c.loop-reads.invariant (wants_at top_most c.loop-reads.c s.low s.small) c.loop-reads-test.true c.read-c.ensures

pub returns-after-loop-reads : goal.returns-after-loop-reads
returns-after-loop-reads c = sink_spent c.loop-reads.invariant c.loop-reads-test.false

pub returns-in_default : goal.returns-in_default
returns-in_default c = sink_rests c.loop-reads.invariant c.in_default.ensures
