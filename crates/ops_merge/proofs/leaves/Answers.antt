-- `leaves` meets its contract: the group is lent as a part of both stores.
use mathlib.Core.List.{List}
use mathlib.Core.Path.{◌≡◌, subst}
use Prim.Native.Nat.{ℕ, ◌+◌, ◌-◌, ◌*◌, ◌^◌, ◌<◌}
use native.Mathlib.Omega.{arith}
use borrow.Rule.Slice.PartMut.{mid_of}
use lib.ListN.{length}
use Rattle.ops_word.specs.Named.{code}
use Rattle.ops_group.specs.Group.{merge_named, mark_named}
use Rattle.ops_merge.proofs.Leaf.{level_leaves, level_short}
use Rattle.ops_merge.proofs.Steps.{spot_here, both_long}
use Rattle.ops_merge.proofs.leaves.Goals as goal

pub returns-then-end-store : goal.returns-then-end-store
returns-then-end-store c =
    let a = c.args.a in
    let from : ℕ = c.start.result + a.j * 64 in
    let few : a.m < 2 ^ 64 = omega arith in
    level_leaves {a = from} {e = from + 64} c.requires.first (spot_here c.requires c.start.ensures (omega (arith, c.if-end-store.true)) (omega (arith, c.if-end-store.true)))
    (code c.args.op) c.args.other.now a.w a.m few (both_long c.requires) c.group.ensures.part_after c.group.ensures.value

pub returns : goal.returns
returns c =
    let a = c.args.a in
    let few : a.m < 2 ^ 64 = omega arith in
    let last : ℕ = c.min-last.result in
    let q = both_long c.requires in
    let after : ℕ → List ℕ = λ k. merge_named (code c.args.op) a.m 0 (mid_of last (length c.args.store.now - last) c.args.store.now) (mid_of last (k - last) c.args.other.now) in
    level_short c.requires.first (spot_here c.requires c.start.ensures c.min-last.ensures (omega (arith, c.if-end-store.false, c.min-last.ensures))) (code c.args.op)
    c.args.other.now a.w a.m few q (omega (arith, c.if-end-store.false, c.min-last.ensures))
    (subst (λ (k : ℕ). c.one_by_one.new.part ≡ after k) q c.one_by_one.ensures.part_after)
    (subst (λ (k : ℕ). c.one_by_one.result ≡ mark_named a.m (after k) a.w) q c.one_by_one.ensures.value)
