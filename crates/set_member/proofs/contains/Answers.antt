-- `contains` meets its contract.
use Rattle.std.proofs.Common.{arith}
use Rattle.store.specs.declared.Refusal.TheVariants.{Id}
use Rattle.store.proofs.Exits.{tag_is}
use Rattle.set_member.proofs.Answers.{contains_2, contains_no, contains_is}
use Rattle.set_member.proofs.Places.{inside, refused_at}
use Rattle.set_member.proofs.contains.Goals as goal

pub returns-in-Ok : goal.returns-in-Ok
returns-in-Ok c = contains_is (inside _ _ c.locate.ensures c.in-Ok.is) c.is_set.ensures

pub returns-in-Err-Id : goal.returns-in-Err-Id
returns-in-Err-Id c = contains_no (refused_at _ _ c.locate.ensures c.in-Err-Id.is) c.in-Err-Id.field-0-is

pub returns-in-Err : goal.returns-in-Err
returns-in-Err c = contains_2 (refused_at _ _ c.locate.ensures c.in-Err.is) (λ e. omega (arith, tag_is Id e))
