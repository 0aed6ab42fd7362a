-- `can_return` meets its contract.
use mathlib.Core.Path.{◌≡◌, sym, ap, ◌∙◌}
use Rattle.std.specs.Prelude.{Err}
use Rattle.store.specs.declared.Refusal.TheVariants.{Owner}
use Rattle.store.proofs.Ends.{passed}
use Rattle.directory.proofs.Answers.{return_out, return_none, return_other, return_beyond}
use Rattle.directory.proofs.Directory.can_return.Goals as goal

pub returns-in_err-can_take : goal.returns-in_err-can_take
returns-in_err-can_take c = return_out _ _ _ c.can_take.ensures c.in_err-can_take.was c.from_residual.ensures.1

pub returns-in_err-owner : goal.returns-in_err-owner
returns-in_err-owner c =
    let none = c.in_err-owner.ensures.ok_part in
    let past = rw none at c.get.ensures.lookup.3 in
    let owner : c.in_err-owner.field-0.0 ≡ Owner = cc (rw none at c.in_err-owner.ensures.value) in
    passed c.from_residual-in_err-owner.ensures.1 ∙ ap Err owner ∙ return_beyond _ _ _ c.can_take.ensures c.in_ok-can_take.was past

pub returns-then-from-item : goal.returns-then-from-item
returns-then-from-item c =
    let byte = rw c.in_ok-owner.ensures.ok_part at c.get.ensures.lookup.3 in
    return_none _ _ _ c.can_take.ensures c.in_ok-can_take.was byte.0 (sym (byte.1 0) ∙ sym c.from.ensures ∙ c.if-from-item.true)

pub returns-else-from-item : goal.returns-else-from-item
returns-else-from-item c =
    let byte = rw c.in_ok-owner.ensures.ok_part at c.get.ensures.lookup.3 in
    return_other _ _ _ c.can_take.ensures c.in_ok-can_take.was byte.0 (λ e. c.if-from-item.false (c.from.ensures ∙ byte.1 0 ∙ e))
