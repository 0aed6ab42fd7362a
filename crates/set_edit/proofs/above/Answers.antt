use mathlib.Core.Path.{ap}
use native.Mathlib.Numerals.{add-one}
use native.Mathlib.Omega.{arith}
use Rattle.set_edit.proofs.Steps.{asked, kept_none, placed, climb-more, climb_ends, reached}
use Rattle.set_edit.proofs.above.Goals as goal

pub edit-w-requires : goal.edit-w-requires
edit-w-requires g c = let p = c.requires in placed _ (c.loop-k.invariant p.0 p.1).begun (omega arith)

pub returns-then-w-ne0 : goal.returns-then-w-ne0
returns-then-w-ne0 g c =
    λ s x. rw add-one (climb_ends (c.loop-k.invariant s x) (omega arith) c.edit-w.ensures (ap asked c.if-not-this.true) c.if-w-ne0.true)

pub loop-k-preserved : goal.loop-k-preserved
loop-k-preserved g c = λ s x. rw add-one (climb-more (c.loop-k.invariant s x) (omega arith) c.edit-w.ensures (kept_none c.else-not-this.either))

pub returns : goal.returns
returns g c = λ s x. reached (c.loop-k.invariant s x) (omega arith) (omega arith)
