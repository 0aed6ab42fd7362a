-- `one_by_one` meets its contract: what is still named gives what must come out.
use Rattle.ops_word.specs.Named.{code}
use Rattle.ops_group.specs.Group.{Naming}
use Rattle.ops_group.proofs.one_by_one.Given as goal

abbrev pub invariant-loop-t : goal.invariant-loop-t
invariant-loop-t l = Naming (code l.op) l.initial.part l.other l.w l.m l.part l.over l.t-iterator.0
