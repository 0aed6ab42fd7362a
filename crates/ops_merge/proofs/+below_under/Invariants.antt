-- `below` calls `under` for its own layer, and `under` calls `below` for the layer below.
use Prim.Native.Nat.{◌+◌, ◌*◌}
use Rattle.ops_word.specs.Named.{code}
use Rattle.ops_merge.specs.Tree.{Level}
use Rattle.ops_merge.proofs.+below_under.Given as goal

abbrev pub decreases-below : goal.decreases-below
decreases-below l = 2 * l.k + 1

abbrev pub decreases-under : goal.decreases-under
decreases-under l = 2 * l.k

-- what the words that are left will change goes with what was told
abbrev pub invariant-below-loop-t : goal.invariant-below-loop-t
invariant-below-loop-t l = Level l.n (code l.op) l.initial.store l.other l.k l.a.j l.a.w l.a.m l.store l.over l.t-iterator.0
