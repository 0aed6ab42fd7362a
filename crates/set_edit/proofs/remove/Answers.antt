-- `remove` meets its contract.
use Rattle.std.proofs.Common.{arith}
use Rattle.store.specs.declared.Refusal.TheVariants.{Id}
use Rattle.store.proofs.Exits.{tag_is}
use Rattle.set_member.proofs.Places.{inside, refused_at}
use Rattle.set_edit.proofs.Answers.{remove_past, remove_2, change_is}
use Rattle.set_edit.proofs.remove.Goals as goal

pub moved-requires : goal.moved-requires
moved-requires c = inside _ _ c.locate.ensures c.in-Ok.is

pub returns-in-Ok : goal.returns-in-Ok
returns-in-Ok c = change_is _ (inside _ _ c.locate.ensures c.in-Ok.is) c.moved.ensures

pub returns-in-Err-Id : goal.returns-in-Err-Id
returns-in-Err-Id c = remove_past (refused_at _ _ c.locate.ensures c.in-Err-Id.is) c.in-Err-Id.field-0-is

pub returns-in-Err : goal.returns-in-Err
returns-in-Err c = remove_2 (refused_at _ _ c.locate.ensures c.in-Err.is) (λ e. omega (arith, tag_is Id e))
