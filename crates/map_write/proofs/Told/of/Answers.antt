-- `of` meets its contract.
use Rattle.std.proofs.Common.{refl, rules}
use Rattle.store.specs.Word.{Words64}
use Rattle.store.proofs.Ends.{some_store, lent0}
use Rattle.map_write.proofs.Layer.{some_lent, tells}
use Rattle.map_write.proofs.Told.of.Goals as goal

pub overflow_sub-layer : goal.overflow_sub-layer
overflow_sub-layer c =
    let z = some_store c.args.store.now c.capacity.ensures c.in_ok-n.was in
    some_lent z (lent0 z c.start.ensures)

pub returns : goal.returns
returns c =
    let z = some_store c.args.store.now c.capacity.ensures c.in_ok-n.was in
    let small : Words64 c.args.store.now = λ x. search rules in
    tells z (lent0 z c.start.ensures) small refl refl c.kept_word-last.ensures
