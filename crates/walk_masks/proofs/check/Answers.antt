-- `check` meets its contract: three numbers of the array are its prefixes.
use Rattle.std.proofs.Common.{sym, ◌∙◌}
use Rattle.walk_masks.specs.Prefixes.{prefixes_fit}
use Rattle.walk_masks.proofs.Prefixes.{prefixes_taken, prefixes_refused}
use Rattle.walk_masks.proofs.check.Goals as goal

pub returns-then-are_prefixes : goal.returns-then-are_prefixes
unfolding prefixes_fit
returns-then-are_prefixes c = prefixes_taken c.args.n c.args.p c.if-n-eq0.false (sym c.are_prefixes.ensures ∙ c.if-are_prefixes.true)

pub returns-else-are_prefixes : goal.returns-else-are_prefixes
unfolding prefixes_fit
returns-else-are_prefixes c = prefixes_refused c.args.n c.args.p c.if-n-eq0.false (sym c.are_prefixes.ensures ∙ c.if-are_prefixes.false)
