-- `can_open` meets its contract.
use Rattle.std.proofs.Common.{sym, ◌∙◌}
use Rattle.set_whole.proofs.Answers.{refuses_0, refuses_1, refuses_2}
use Rattle.set_whole.proofs.can_open.Goals as goal

pub returns-then-not-is_capacity : goal.returns-then-not-is_capacity
returns-then-not-is_capacity c = refuses_1 _ _ (sym c.is_capacity.ensures ∙ c.if-not-is_capacity.true)

-- past the first test the number is a capacity
pub returns-then-len-end : goal.returns-then-len-end
returns-then-len-end c =
    refuses_2 _ _ (sym c.is_capacity.ensures ∙ c.if-not-is_capacity.false) (λ q. c.if-len-end.true (q ∙ sym c.end.ensures))

pub returns-else-len-end : goal.returns-else-len-end
returns-else-len-end c =
    refuses_0 _ _ (sym c.is_capacity.ensures ∙ c.if-not-is_capacity.false) (c.if-len-end.false ∙ c.end.ensures)
