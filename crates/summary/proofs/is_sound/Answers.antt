-- `is_sound` meets its contract.
use Rattle.std.proofs.lemmas.Result.{err_from_is_err_and}
use Rattle.store.proofs.Ends.{some_store, no_store, no_store_is}
use Rattle.summary.proofs.Answers.{is_sound_2, is_sound_is}
use Rattle.summary.proofs.is_sound.Goals as goal

pub returns-in_err-n : goal.returns-in_err-n
returns-in_err-n c =
    let s = c.args.store.now in
    let p = err_from_is_err_and c.from_residual.result c.from_residual.ensures.1 in
    rw (p.1, p.2, no_store_is s c.capacity.ensures c.in_err-n.was) (is_sound_2 s (no_store s c.capacity.ensures c.in_err-n.was))

pub sound-requires : goal.sound-requires
sound-requires c = some_store c.args.store.now c.capacity.ensures c.in_ok-n.was

pub returns : goal.returns
returns c = is_sound_is (some_store c.args.store.now c.capacity.ensures c.in_ok-n.was) c.sound.result c.sound.ensures
