-- `can_take` meets its contract.
use mathlib.Core.Path.{sym, ◌∙◌}
use Rattle.directory.proofs.Answers.{item_out, item_owners, item_none, item_not}
use Rattle.directory.proofs.Directory.can_take.Goals as goal

pub returns-in_err-n : goal.returns-in_err-n
returns-in_err-n c = item_out _ _ c.capacity.ensures c.in_err-n.was c.from_residual.ensures.1

pub returns-then-self-n : goal.returns-then-self-n
returns-then-self-n c = item_owners _ _ c.capacity.ensures c.in_ok-n.was c.if-self-n.true

pub returns-then-not-is_item : goal.returns-then-not-is_item
returns-then-not-is_item c = item_not _ _ c.capacity.ensures c.in_ok-n.was c.if-self-n.false (sym c.if-not-is_item.ensures)

pub returns : goal.returns
returns c = item_none _ _ c.capacity.ensures c.in_ok-n.was c.if-self-n.false (sym c.is_item.ensures ∙ c.if-not-is_item.false)
