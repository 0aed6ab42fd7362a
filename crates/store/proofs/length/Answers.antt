-- `store::length` meets its contract.
use Rattle.std.proofs.Common.{sym}
use Rattle.store.proofs.Ends.{length_is}
use Rattle.store.proofs.length.Goals as goal

pub returns : goal.returns
returns c = sym (length_is _ c.requires.0 c.requires.1)
