-- A line leaves the store sound.
use Rattle.listing_replies.proofs.Theorems.{good-after}
use Rattle.listing.proofs.Listing.answer.Goals as goal

pub returns-clause-good : goal.returns-clause-good
returns-clause-good c = rw c.reply.ensures.stored (good-after _ c.parse-command.result c.requires.good)
