-- `Layers::sink` meets its contract: `Sinking` is the invariant.
use Prim.Native.Nat.{◌-◌}
use Rattle.store.specs.Layout.{top_most}
use Rattle.walk.specs.Layers.{layer_words}
use Rattle.walk.proofs.Turns.{Sinking}
use Rattle.walk.proofs.over.LayersWords.sink.Given as goal

abbrev pub invariant-loop-c : goal.invariant-loop-c
invariant-loop-c l = Sinking (layer_words l.self) top_most l.budget l.spent l.initial.c l.c l.reads

abbrev pub decreases-loop-c : goal.decreases-loop-c
decreases-loop-c l = l.budget - l.reads
