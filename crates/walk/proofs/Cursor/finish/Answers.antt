-- `Cursor::finish` meets its contract.
use Rattle.std.proofs.lemmas.Nat.{and_mask}
use native.Mathlib.Omega.{arith}
use Rattle.store.specs.Layout.{top_most}
use mathlib.Core.Path.{sym, ap, ◌∙◌, subst}
use Prim.Native.Nat.{ℕ, ◌%◌}
use Rattle.walk.specs.Steps.{Finishes}
use Rattle.walk.proofs.Turns.{finish_member, finish_end, finish_paused}
use Rattle.walk.proofs.Cursor.finish.Goals as goal

pub returns-then-self-ne0 : goal.returns-then-self-ne0
returns-then-self-ne0 c =
    subst (Finishes top_most _ _) (sym c.step.ensures)
    (finish_member top_most _ _ (omega arith) c.if-self-ne0.true c.place.ensures.1 c.hand.ensures
    (and_mask c.place.result 32 ∙ ap (λ (x : ℕ). x % 4294967296) c.place.ensures.0))

pub returns-then-wants : goal.returns-then-wants
returns-then-wants c =
    subst (Finishes top_most _ _) (sym c.step-then-wants.ensures) (finish_paused top_most _ _ (sym c.wants.ensures ∙ c.if-wants.true))

pub returns-else-wants : goal.returns-else-wants
returns-else-wants c =
    subst (Finishes top_most _ _) (sym c.step-else-wants.ensures) (finish_end top_most _ _ (sym c.wants.ensures ∙ c.if-wants.false) c.if-self-ne0.false)
