-- `place` meets its contract.
use Rattle.store.specs.Layout.{top_most}
use Prim.Native.Nat.{◌%◌, suc}
use native.Mathlib.Omega.{arith}
use Rattle.walk_masks.proofs.Masks.{prefix_below, prefix_top}
use Rattle.walk_masks.proofs.place.Goals as goal

pub returns-then-j-eq-TOP : goal.returns-then-j-eq-TOP
returns-then-j-eq-TOP c =
    let a = c.args in
    let e = c.behind.ensures in
    (omega (arith, e.0, prefix_top top_most a.prefix (a.k % suc top_most) (omega (arith, c.if-j-eq-TOP.true))), e.1)

pub returns : goal.returns
returns c =
    let a = c.args in
    let e = c.behind-2.ensures in
    (omega (arith, e.0, prefix_below top_most a.prefix (a.k % suc top_most) (omega (arith, c.if-j-eq-TOP.false))), e.1)
