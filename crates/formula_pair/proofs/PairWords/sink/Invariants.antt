-- `Pair::sink` meets its contract: `Sinking` is the invariant.
use Rattle.std.proofs.Common.{◌-◌}
use Rattle.store.specs.Layout.{top_most}
use Rattle.walk.proofs.Turns.{Sinking}
use Rattle.formula_pair.specs.Pair.{joined_words}
use Rattle.formula_pair.proofs.PairWords.sink.Given as goal

abbrev pub invariant-loop-reads : goal.invariant-loop-reads
invariant-loop-reads l = Sinking (joined_words l.self) top_most l.budget l.spent l.initial.c l.c l.reads

abbrev pub decreases-loop-reads : goal.decreases-loop-reads
decreases-loop-reads l = l.budget - l.reads
