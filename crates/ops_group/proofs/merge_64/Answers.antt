use native.Mathlib.Omega.{arith}
use Rattle.ops_group.proofs.Loops.{merging_end}
use Rattle.ops_group.proofs.merge_64.Goals as goal

pub returns : goal.returns
returns c =
    merging_end c.requires.0 (omega (arith, c.loop-t-test.false)) c.loop-t.invariant
