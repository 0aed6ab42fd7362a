-- `lowest_free` meets its contract: past the test the slice is a store, and its layer 0 is lent to the search.
use Rattle.std.proofs.Common.{arith}
use Rattle.store.proofs.Ends.{some_store, no_store}
use Rattle.set_free.proofs.Lowest.{lent_small, lowest_is, lowest_0}
use Rattle.set_free.proofs.lowest_free.Goals as goal

pub search-requires : goal.search-requires
search-requires c =
    let z = some_store _ c.capacity.ensures c.in-Ok.is in
    lent_small z c.start-a.ensures (omega (arith, z.some))

pub overflow_cast-n : goal.overflow_cast-n
overflow_cast-n c = omega (arith, (some_store c.args.store.now c.capacity.ensures c.in-Ok.is).most)

pub returns-in-Ok : goal.returns-in-Ok
returns-in-Ok c = lowest_is (some_store _ c.capacity.ensures c.in-Ok.is) c.start-a.ensures (λ i. (c.type_inv.store i).fits) c.search.ensures c.unwrap_or.ensures

pub returns-in-Err : goal.returns-in-Err
returns-in-Err c = lowest_0 _ (no_store c.args.store.now c.capacity.ensures c.in-Err.is)
