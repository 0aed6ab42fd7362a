use Prim.Native.Nat.{◌<◌}
use native.Mathlib.Numerals.{add-one}
use native.Mathlib.Omega.{arith}
use Rattle.store.specs.Layout.{top}
use Rattle.summary.proofs.Layers.{raised_start, two_layers, raised_turn, raised_end}
use Rattle.summary.proofs.raise.Goals as goal

pub loop-k-init : goal.loop-k-init
loop-k-init c = (c.top-t.ensures, raised_start c.requires)

pub summarize-requires : goal.summarize-requires
summarize-requires c =
    two_layers c.requires c.loop-k.invariant.1 c.two-p.ensures

pub loop-k-preserved : goal.loop-k-preserved
loop-k-preserved c =
    -- there is a layer over layer `k`
    let above : c.loop-k.k < top c.args.n =
    omega (arith, c.loop-k-test.true, c.loop-k.invariant.0) in (
      c.loop-k.invariant.0,
      rw add-one
          (raised_turn c.requires c.loop-k.invariant.1 c.two-p.ensures above c.summarize.new.part
          c.summarize.ensures),
    )

pub returns : goal.returns
returns c =
    raised_end c.requires c.loop-k.invariant.1 (omega (arith, c.loop-k-test.false, c.loop-k.invariant.0))
