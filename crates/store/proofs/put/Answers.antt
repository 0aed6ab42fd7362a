-- `store::put` meets its contract.
use Rattle.std.proofs.Common.{sym}
use lib.Seq.{set_out}
use Rattle.store.proofs.put.Goals as goal

pub returns-else-i-layer : goal.returns-else-i-layer
returns-else-i-layer c = sym (set_out c.args.layer.now c.args.i c.args.w c.if-i-layer.false)
