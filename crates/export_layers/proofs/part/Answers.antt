-- `export_layers::part` meets its contract: past the test the slice is a store, and a layer that is handed back is one of its layers.
use native.Mathlib.Omega.{arith}
use Rattle.store.proofs.TopLayer.{top_low}
use Rattle.store.proofs.Ends.{part, some_store, no_store}
use Rattle.export_layers.proofs.Parts.{span_none, span_is}
use Rattle.export_layers.proofs.part.Goals as goal

pub returns-in_default : goal.returns-in_default
returns-in_default c = span_none c.args.store.now c.args.k (no_store c.args.store.now c.capacity.ensures c.in_default.is)

pub overflow_sub-result : goal.overflow_sub-result
overflow_sub-result c =
    let p = part (some_store c.args.store.now c.capacity.ensures c.in-Ok.is) c.args.k (omega (arith, top_low c.in-Ok.n)) in
    omega arith

pub returns : goal.returns
returns c =
    span_is (some_store c.args.store.now c.capacity.ensures c.in-Ok.is) c.args.k _ _ (omega (arith, top_low c.in-Ok.n)) c.start-a.ensures c.end-e.ensures
