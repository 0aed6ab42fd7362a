-- `replace` meets its contract.
use Rattle.std.proofs.Common.{arith}
use Rattle.store.proofs.Ends.{store_small}
use Rattle.map_read.proofs.Layer.{clears, cleared, store_here, start_in_lem, replaced}
use Rattle.map_read.proofs.replace.Goals as goal

pub returns-in_err-clear : goal.returns-in_err-clear
returns-in_err-clear c = absurd (clears c.requires c.clear.ensures c.in_err-clear.was)

pub offset_bounds-store-start : goal.offset_bounds-store-start
offset_bounds-store-start c =
    let e = (cleared c.requires c.clear.ensures).1 in
    let s = store_here c.requires e in
    omega (arith, start_in_lem s c.start-start.ensures, store_small s)

pub slice_bounds-place-count : goal.slice_bounds-place-count
slice_bounds-place-count c = start_in_lem (store_here c.requires (cleared c.requires c.clear.ensures).1) c.start-start.ensures

pub slice_bounds-place-start : goal.slice_bounds-place-start
slice_bounds-place-start c = start_in_lem (store_here c.requires (cleared c.requires c.clear.ensures).1) c.start-start.ensures

pub returns : goal.returns
returns c =
    let e = (cleared c.requires c.clear.ensures).1 in
    let d = replaced (store_here c.requires e) c.start-start.ensures e c.args.entries.now c.place.ensures c.rebuild.ensures in
    record { done = d.0; store = d.1 }
