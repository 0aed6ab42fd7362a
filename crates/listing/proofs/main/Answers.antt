use Rattle.std.proofs.Common.{rules}
use Rattle.listing_replies.proofs.Theorems.{good_open}
use Rattle.listing.proofs.main.Goals as goal

pub loop-piece-init : goal.loop-piece-init
loop-piece-init c =
    record { counted = search rules; long = c.large_buffer-piece.ensures; good = good_open _ (search rules) c.open.ensures }
