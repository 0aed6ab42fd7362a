-- A byte stands behind the filled ones, or first in a buffer that was full.
use Rattle.std.proofs.Common.{refl, sym, arith}
use Rattle.text_out.proofs.Puts.{put-room, put_full, put-empty, puts_byte}
use Rattle.text_out.proofs.Out.put_byte.Goals as goal
use Rattle.text_out.proofs.Out.put_byte.Goals.{then-self, else-self}

pub returns-then-self-2 : goal.returns-then-self-2
returns-then-self-2 c =
    elim c.if-self.branch [
      | then-self w ↦ rw w.self-is (puts_byte refl (sym (put_full _ _ _ w.if-self.true (rw w.self-is at c.if-self-2.true))))
      | else-self w ↦ rw w.self-is (puts_byte refl (sym (put-room _ _ _ w.if-self.false)))
    ]

pub returns-else-self-2 : goal.returns-else-self-2
returns-else-self-2 c =
    elim c.if-self.branch [
      | then-self w ↦ rw w.self-is (puts_byte refl (sym (put-empty _ _ _ (rw w.self-is at c.if-self-2.false))))
      | else-self w ↦ absurd (omega (arith, rw w.self-is at c.if-self-2.false))
    ]
