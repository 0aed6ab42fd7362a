-- `add` meets its contract.
use Rattle.set_member.proofs.Places.{inside, refused_at}
use Rattle.set_edit.proofs.Answers.{add_refused, change_is}
use Rattle.set_edit.proofs.add.Goals as goal

pub returns-in_err-place : goal.returns-in_err-place
returns-in_err-place c = add_refused (refused_at _ _ c.locate.ensures c.in_err-place.was) c.from_residual.ensures.1

pub moved-requires : goal.moved-requires
moved-requires c = inside _ _ c.locate.ensures c.in_ok-place.was

pub returns : goal.returns
returns c = change_is _ (inside _ _ c.locate.ensures c.in_ok-place.was) c.moved.ensures
