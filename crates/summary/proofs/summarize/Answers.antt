use native.Mathlib.Numerals.{add-one}
use Rattle.summary.proofs.Layers.{written_start, written_turn, written_end}
use Rattle.summary.proofs.summarize.Goals as goal

pub loop-i-init : goal.loop-i-init
loop-i-init c = written_start c.requires

pub loop-i-preserved : goal.loop-i-preserved
loop-i-preserved c =
    rw add-one (written_turn c.requires c.loop-i.invariant c.loop-i-test.true c.gather-w.result c.gather-w.ensures)

pub returns : goal.returns
returns c = written_end c.requires c.loop-i.invariant c.loop-i-test.false
