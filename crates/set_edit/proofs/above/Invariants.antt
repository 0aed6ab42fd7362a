-- `above` meets its contract: each turn writes one layer more.
use mathlib.Core.List.{List}
use Rattle.set_edit.specs.Steps.{Climbing}
use Rattle.set_edit.proofs.Steps.{asked}
use Rattle.set_edit.proofs.above.Given as goal

abbrev pub invariant-loop-k : goal.invariant-loop-k
invariant-loop-k g l = (s : List _) → Climbing (asked g.row.ON) s l.n l.id 1 l.initial.store → Climbing (asked g.row.ON) s l.n l.id l.k l.store
