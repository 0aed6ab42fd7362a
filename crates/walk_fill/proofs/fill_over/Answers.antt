-- `fill_over` meets its contract.
use Rattle.std.proofs.Common.{ℕ, ◌≡◌, ◌<◌, length, ap, ◌∙◌, arith}
use Rattle.std.proofs.lemmas.Nat.{and_mask}
use lib.ListN.{set}
use Rattle.walk_fill.specs.declared.Stop.TheVariants.{Full}
use Rattle.walk_fill.proofs.Fills.{fill_down, fill_rest, fill_handed, fill_full, as_batch}
use Rattle.walk_fill.proofs.fill_over.Goals as goal

pub returns-then-c-eq0 : goal.returns-then-c-eq0
returns-then-c-eq0 g c =
    let i = c.loop-count.invariant in
    let k = c.sink-d.ensures.sank i.fine i.spent in
    let h : c.loop-count.count < length c.loop-count.out = omega arith in
    as_batch c.rest.ensures (fill_rest (fill_down i h k.going) h c.if-c-eq0.true k.stopped)

pub loop-count-preserved : goal.loop-count-preserved
loop-count-preserved g c =
    let i = c.loop-count.invariant in
    let k = c.sink-d.ensures.sank i.fine i.spent in
    let h : c.loop-count.count < length c.loop-count.out = omega arith in
    fill_handed (fill_down i h k.going) h (omega arith) c.if-c-eq0.false c.place.ensures
    (ap (set c.loop-count.out c.loop-count.count) (and_mask c.place.result 32)) c.hand-c.ensures

pub returns : goal.returns
returns g c =
    let i = c.loop-count.invariant in
    let e : length c.loop-count.out ≡ c.loop-count.count = omega (arith, i.inside, i.long) in
    as_batch (c.made.ensures ∙ ap (λ (k : ℕ). record { cursor = c.loop-count.c; reads = c.loop-count.spent; count = k; stop = Full }) e) (fill_full i (omega arith))
