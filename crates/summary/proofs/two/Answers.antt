-- `two` meets its contract: the upper layer ends where the lower one starts.
use mathlib.Core.Path.{refl}
use native.Mathlib.Omega.{arith}
use Rattle.store.proofs.TopLayer.{top_high}
use Rattle.summary.proofs.Layers.{paired}
use Rattle.summary.proofs.two.Goals as goal

pub overflow_add-k : goal.overflow_add-k
overflow_add-k c = omega (arith, c.requires.above, top_high c.args.n)

pub overflow_sub-result : goal.overflow_sub-result
overflow_sub-result c = (paired c.requires c.start-a.ensures c.start-m.ensures refl).0

pub returns : goal.returns
returns c =
    (paired c.requires c.start-a.ensures c.start-m.ensures c.end.ensures).1
