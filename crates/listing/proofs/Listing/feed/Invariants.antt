-- Each turn takes a byte at least, and ends one line at most.
use Rattle.std.proofs.Common.{◌+◌, ◌-◌, ◌≤◌, length}
use Rattle.listing_replies.specs.Replies.{Good}
use Rattle.listing.proofs.Listing.feed.Given as goal

abbrev pub invariant-loop-next : goal.invariant-loop-next
invariant-loop-next l = record {
  inside : l.from ≤ length l.piece;
  counted : l.self.number ≤ l.initial.self.number + l.from;
  good : Good l.self.store.now;
}

abbrev pub decreases-loop-next : goal.decreases-loop-next
decreases-loop-next l = length l.piece - l.from
