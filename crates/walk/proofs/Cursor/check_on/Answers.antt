-- `Cursor::check_on` meets its contract: past the test the slice is a store.
use Rattle.store.proofs.Ends.{some_store}
use Rattle.store.proofs.Exits.{no_store_out}
use Rattle.walk.proofs.Answers.{refusal_none, refusal_some}
use Rattle.walk.proofs.Cursor.check_on.Goals as goal

pub returns-in_err-n : goal.returns-in_err-n
returns-in_err-n c =
    let a = c.args in
    refusal_none a.store.now a.self (no_store_out a.store.now c.capacity.ensures c.in_err-n.was c.from_residual.ensures.1)

pub returns : goal.returns
returns c =
    let a = c.args in
    refusal_some a.store.now a.self _ (some_store a.store.now c.capacity.ensures c.in_ok-n.was) c.check.ensures
