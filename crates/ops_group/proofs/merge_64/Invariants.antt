-- `merge_64` meets its contract: the first words are merged, the rest are as they were.
use Prim.Native.Nat.{◌-◌}
use Rattle.ops_word.specs.Named.{code}
use Rattle.ops_group.specs.Group.{Merging}
use Rattle.ops_group.proofs.merge_64.Given as goal

abbrev pub invariant-loop-t : goal.invariant-loop-t
invariant-loop-t l = Merging (code l.op) l.initial.part l.other l.part l.t

abbrev pub decreases-loop-t : goal.decreases-loop-t
decreases-loop-t l = 64 - l.t
