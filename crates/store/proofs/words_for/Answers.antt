-- `store::words_for` meets its contract.
use Rattle.std.proofs.Common.{arith}
use Rattle.store.specs.Layout.{words_for}
use Rattle.store.proofs.words_for.Goals as goal

pub returns : goal.returns
unfolding words_for
returns c = omega (arith, c.wrapping_sub_u64.ensures)
