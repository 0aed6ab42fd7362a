-- `FormulaWords::descend` meets its contract: `Sinking` is the invariant, as for one store.
use Rattle.std.proofs.Common.{◌-◌}
use Rattle.store.specs.Layout.{top_most}
use Rattle.walk.proofs.Turns.{Sinking}
use Rattle.formula_sink.specs.Steps.{words_of}
use Rattle.formula_sink.proofs.FormulaWords.descend.Given as goal

abbrev pub invariant-loop-reads : goal.invariant-loop-reads
invariant-loop-reads l = Sinking (words_of l.self.formula l.self.n) top_most l.budget l.spent l.initial.c l.c l.reads

abbrev pub decreases-loop-reads : goal.decreases-loop-reads
decreases-loop-reads l = l.budget - l.reads
