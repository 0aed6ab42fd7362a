-- `handed` meets its contract: every store has the three layers.
use Rattle.std.proofs.Common.{refl, arith}
use Rattle.store.proofs.Ends.{some_store, no_store}
use Rattle.store.proofs.TopLayer.{top_low}
use Rattle.set_layers.proofs.Answers.{part_none}
use Rattle.set_layers.proofs.handed.Goals as goal

pub part-requires : goal.part-requires
part-requires c = (some_store c.args.store.now c.capacity.ensures c.in-Ok.is, omega (arith, top_low c.in-Ok.n))

pub returns-in-Err : goal.returns-in-Err
returns-in-Err c = part_none c.args.store _ c.args.k (no_store c.args.store.now c.capacity.ensures c.in-Err.is) refl refl
