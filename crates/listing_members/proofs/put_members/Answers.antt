use Rattle.std.proofs.Common.{refl, ap, ◌∙◌}
use Rattle.store.proofs.Ends.{some_store, no_store, no_store_is}
use Rattle.store.proofs.Geometry.{is_store_lem}
use Rattle.text_out.proofs.Puts.{puts_none, puts-append}
use Rattle.listing_members.proofs.Naming.{ids_more, members_line_is, line_refused}
use Rattle.listing_members.specs.Members.{ids_of}
use Rattle.walk_batches.specs.Ids.{ids_left}
use Rattle.walk_batches.proofs.Left.{ids_yielded}
use Rattle.std.proofs.lemmas.List.{map-id}
use Rattle.std.proofs.lemmas.Iterator.Consumers.{YieldsList-end}
use Rattle.listing_members.proofs.put_members.Goals as goal

pub returns-in-Err : goal.returns-in-Err
returns-in-Err c =
    let s = c.args.store.now in
    rw (line_refused s (no_store s c.in-Err.ensures refl) (no_store_is s c.in-Err.ensures refl))
    (puts-append c.put_byte.ensures c.put_refused.ensures)

pub loop-id-init : goal.loop-id-init
unfolding ids_of
loop-id-init c = puts_none _

pub loop-id-preserved : goal.loop-id-preserved
loop-id-preserved c =
    rw (ids_more c.loop-id.yielded c.in-Some.id)
    (puts-append c.loop-id.invariant (puts-append c.put_byte-in-loop-id.ensures (rw c.from.ensures at c.put_number.ensures)))

pub returns : goal.returns
returns c =
    let is = is_store_lem (some_store c.args.store.now c.in_default.ensures refl) in
    let left = ap ids_left c.into_iter-id-iterator.ensures.into_iter_gives ∙ c.ids-id-items.ensures.left in
    let all = ids_yielded c.args.store.now c.into_iter-id-iterator.result is left in
    let ended = YieldsList-end all c.loop-id.yielded _ c.loop-id.yielded_by _ _ c.in-None.is c.next.ensures.steps in
    rw (members_line_is c.args.store.now is, ← ended.0, map-id c.loop-id.yielded)
    (puts-append c.put_byte.ensures (puts-append c.loop-id.invariant c.put_byte-2.ensures))
