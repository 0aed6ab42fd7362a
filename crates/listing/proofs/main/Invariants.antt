-- Each turn takes a byte at least of those that are left, and lines are no more than the bytes taken. At every line the store is a store and sound.
use Rattle.std.proofs.Common.{◌≡◌, ◌+◌, ◌<◌, ◌^◌, length}
use Rattle.listing_replies.specs.Replies.{Good}
use Rattle.listing.proofs.main.Given as goal

abbrev pub invariant-loop-piece : goal.invariant-loop-piece
invariant-loop-piece l = record {
  counted : l.listing.number + l.left + 1 < 2 ^ 64;
  long : 65536 ≡ length l.piece;
  good : Good l.listing.store.now;
}

abbrev pub decreases-loop-piece : goal.decreases-loop-piece
decreases-loop-piece l = l.left
