-- `fill_over` meets its contract. The invariant: what stands in `out` and what a fill of its other places hands out are what the
-- whole fill hands out.
use Rattle.store.specs.Layout.{top_most}
use Rattle.walk_fill.specs.Steps.{Filling}
use Rattle.walk_fill.proofs.fill_over.Given as goal

abbrev pub invariant-loop-count : goal.invariant-loop-count
invariant-loop-count g l = Filling (g.W.Words.word l.words) top_most l.budget l.initial.c l.initial.out l.c l.spent l.count l.out
