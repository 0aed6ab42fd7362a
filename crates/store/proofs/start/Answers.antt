-- `store::start` meets its contract.
use Rattle.std.proofs.Common.{arith, rules}
use Rattle.store.proofs.Ends.{start_low, start_mid, start_high}
use Rattle.store.proofs.start.Goals as goal

pub returns-in-0 : goal.returns-in-0
returns-in-0 c = start_low _ _ _ c.in-0.is c.words_for.ensures (search rules) c.wrapping_sub_u64.ensures.value

pub returns-in-1 : goal.returns-in-1
returns-in-1 c = start_mid _ _ 0 c.in-1.is c.end.ensures

pub returns-in-2 : goal.returns-in-2
returns-in-2 c = start_mid _ _ 1 c.in-2.is c.end-in-2.ensures

pub returns-in_default : goal.returns-in_default
returns-in_default c = start_high _ _ _ (omega arith) c.end-in_default.ensures
