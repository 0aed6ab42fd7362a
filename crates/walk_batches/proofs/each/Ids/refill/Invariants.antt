-- `Ids::refill` meets its contract: all of the batch are handed out, and words that were read are fewer to read.
use Rattle.std.proofs.Common.{◌≡◌}
use Rattle.walk.specs.Layers.{layer_words}
use Rattle.walk_batches.specs.Ids.{ids_left}
use Rattle.walk_batches.proofs.Left.{to_read}
use Rattle.walk_batches.proofs.each.Ids.refill.Given as goal

abbrev pub invariant-loop-b : goal.invariant-loop-b
invariant-loop-b l = (ids_left l.self ≡ ids_left l.initial.self) × (l.self.at ≡ l.self.count)

abbrev pub decreases-loop-b : goal.decreases-loop-b
decreases-loop-b l = to_read (layer_words l.self.layers) l.self.ready.cursor
