-- `moved` meets its contract: no layer, layer 0, or those that the bit reaches are written.
use Rattle.std.proofs.Common.{sym, ◌∙◌, arith}
use Rattle.set_edit.proofs.Answers.{moved_none, moved_one, moved_all, bit_so, bit_not_so, id-begun, id_inside, others_is, climbing}
use Rattle.set_edit.proofs.Steps.{asked}
use Rattle.set_edit.proofs.moved.Goals as goal

pub returns-then-w-old : goal.returns-then-w-old
returns-then-w-old g c = moved_none _ _ _ _ (bit_so c.requires (asked g.row.ON) c.with_bit-w.ensures c.if-w-old.true)

pub set_id_word-requires : goal.set_id_word-requires
set_id_word-requires g c = id_inside c.requires

pub returns-then-others-ne0 : goal.returns-then-others-ne0
returns-then-others-ne0 g c =
    let b = asked g.row.ON in
    moved_one _ _ _ _ (bit_not_so c.requires b c.with_bit-w.ensures (omega arith) c.if-w-old.false)
    (λ e. c.if-others-ne0.true (others_is c.requires b c.with_bit-w.ensures ∙ e)) (id-begun c.requires b c.with_bit-w.ensures c.set_id_word.ensures)

pub above-requires : goal.above-requires
above-requires g c =
    let b = asked g.row.ON in
    let none = sym (others_is c.requires b c.with_bit-w.ensures) ∙ c.if-others-ne0.false in
    (_, climbing c.requires b c.with_bit-w.ensures c.set_id_word.ensures none)

pub returns : goal.returns
returns g c =
    let b = asked g.row.ON in
    let none = sym (others_is c.requires b c.with_bit-w.ensures) ∙ c.if-others-ne0.false in
    moved_all _ _ _ _ (bit_not_so c.requires b c.with_bit-w.ensures (omega arith) c.if-w-old.false) none
    (c.above.ensures _ (climbing c.requires b c.with_bit-w.ensures c.set_id_word.ensures none))
