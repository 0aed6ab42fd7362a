-- `part` meets its contract: the layer lies inside the store.
use mathlib.Core.Path.{refl}
use Rattle.set_layers.proofs.Answers.{part_is}
use Rattle.set_layers.proofs.part.Goals as goal

pub returns : goal.returns
returns c = part_is c.args.store _ c.requires.0 c.args.k _ _ c.requires.1 c.start-a.ensures c.end-e.ensures refl refl
