use mathlib.Core.Path.{sym, ◌∙◌}
use Prim.Native.Nat.{◌<◌}
use native.Mathlib.Numerals.{add-one}
use native.Mathlib.Omega.{arith}
use Rattle.store.specs.Layout.{top}
use Rattle.summary.proofs.Last.{sound_end, sound_fault}
use Rattle.summary.proofs.Layers.{raised_start, two_layers, right_turn, wrong_turn, raised_end}
use Rattle.summary.proofs.sound.Goals as goal

pub loop-k-init : goal.loop-k-init
loop-k-init c = (c.top-t.ensures, raised_start c.requires)

pub is_summary-requires : goal.is_summary-requires
is_summary-requires c =
    two_layers c.requires c.loop-k.invariant.1 c.two-p.ensures

pub returns-then-not-is_summary : goal.returns-then-not-is_summary
returns-then-not-is_summary c =
    -- there is a layer over layer `k`
    let above : c.loop-k.k < top c.args.n =
    omega (arith, c.loop-k-test.true, c.loop-k.invariant.0) in
    sound_fault c.requires
    (wrong_turn c.requires c.loop-k.invariant.1 c.two-p.ensures above (sym c.is_summary.ensures ∙ c.if-not-is_summary.true))

pub loop-k-preserved : goal.loop-k-preserved
loop-k-preserved c =
    -- there is a layer over layer `k`
    let above : c.loop-k.k < top c.args.n =
    omega (arith, c.loop-k-test.true, c.loop-k.invariant.0) in (
      c.loop-k.invariant.0,
      rw add-one
          (right_turn c.requires c.loop-k.invariant.1 c.two-p.ensures above
          (sym c.is_summary.ensures ∙ c.if-not-is_summary.false)),
    )

pub returns : goal.returns
returns c =
    sound_end c.requires (raised_end c.requires c.loop-k.invariant.1 (omega (arith, c.loop-k-test.false, c.loop-k.invariant.0)))
