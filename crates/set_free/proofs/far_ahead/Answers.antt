-- `far_ahead` meets its contract: near, or behind eights.
use Rattle.std.proofs.Common.{◌+◌}
use Rattle.set_free.proofs.Words.{eights_skipped, part_ahead, ahead_near, ahead_far}
use Rattle.set_free.proofs.far_ahead.Goals as goal

pub returns-then-i-near : goal.returns-then-i-near
returns-then-i-near c = ahead_near _ _ c.split_at.ensures.by_index.0 c.ahead-i.ensures c.if-i-near.true

pub returns : goal.returns
returns c =
    let rest = c.split_at.result.1.now in
    let far = eights_skipped rest (λ i. rw (c.split_at.ensures.by_index.2 i 0) (c.type_inv.words (c.min.result + i)).fits) c.as_chunks.ensures.front c.eights_ahead-far.ensures in
    ahead_far _ _ c.split_at.ensures.by_index.0 c.ahead-i.ensures c.if-i-near.false far (part_ahead rest _ c.ahead.ensures)
