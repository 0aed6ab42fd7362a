-- `first_free` meets its contract: past the test the slice is a store, and the lowest is below N or there is none.
use Rattle.store.proofs.Ends.{some_store}
use Rattle.set_free.proofs.Lowest.{free_2, free_at_lem, free_12}
use Rattle.set_free.proofs.first_free.Goals as goal

pub returns-in_err-n : goal.returns-in_err-n
returns-in_err-n c = free_2 _ c.capacity.ensures c.in_err-n.was c.from_residual.ensures.1

pub returns-then-id-n : goal.returns-then-id-n
returns-then-id-n c = free_at_lem (some_store _ c.capacity.ensures c.in_ok-n.was) c.lowest_free-id.ensures c.if-id-n.true

pub returns-else-id-n : goal.returns-else-id-n
returns-else-id-n c = free_12 (some_store _ c.capacity.ensures c.in_ok-n.was) c.lowest_free-id.ensures c.if-id-n.false
