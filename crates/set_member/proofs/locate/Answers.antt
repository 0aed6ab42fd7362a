-- `locate` meets its contract: past the first test the slice is a store, and past the second the id has its place.
use mathlib.Core.Path.{sym, ap, ◌∙◌}
use Prim.Native.Nat.{ℕ}
use borrow.Author.Tests.{ltb-true}
use lib.ListN.{get_or}
use Rattle.store.proofs.Ends.{some_store, id-word, start_is}
use Rattle.set_member.proofs.Places.{is_nowhere, is_in, is_past}
use Rattle.set_member.proofs.locate.Goals as goal

pub returns-in_err-n : goal.returns-in_err-n
returns-in_err-n c = is_nowhere c.args.store.now c.args.id c.capacity.ensures c.in_err-n.was c.from_residual.ensures.1

pub returns-then-not-has_room : goal.returns-then-not-has_room
returns-then-not-has_room c =
    is_past _ _ (some_store c.args.store.now c.capacity.ensures c.in_ok-n.was) (sym c.has_room.ensures ∙ c.if-not-has_room.true)

pub returns : goal.returns
returns c =
    let s = c.args.store.now in
    let z = some_store s c.capacity.ensures c.in_ok-n.was in
    let room = sym c.has_room.ensures ∙ c.if-not-has_room.false in
    let start = c.start-start.ensures ∙ start_is z 0 in
    is_in _ _ z room start (ap (λ (x : ℕ). get_or s x 0) c.id_word.ensures ∙ (id-word z (ltb-true _ _ room) start).word_is)
