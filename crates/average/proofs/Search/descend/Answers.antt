-- `average::Search::descend` meets its contract: one law over the stride, for each half.
use borrow.Author.Rules.{rules}
use Rattle.average.proofs.Descent.{to_lower, to_upper}
use Rattle.average.proofs.Search.descend.Goals as goal

pub returns-then-self : goal.returns-then-self
returns-then-self c = λ n t g. to_lower n t _ _ _ _ g (search rules)

pub returns-else-self : goal.returns-else-self
returns-else-self c = λ n t g. to_upper n t _ _ _ _ g (search rules)
