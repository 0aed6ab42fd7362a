-- `store::top` meets its contract.
use Rattle.std.proofs.Common.{sym}
use Rattle.store.proofs.TopLayer.{top_is}
use Rattle.store.proofs.top.Goals as goal

pub returns : goal.returns
returns c = sym (top_is _)
