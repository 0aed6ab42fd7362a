-- `search` meets its contract: in the word of the first id, or in the next that is not full.
use Rattle.std.proofs.Common.{◌/◌, ◌+◌, ◌∙◌, refl, arith}
use Rattle.set_free.proofs.Words.{few_ahead, own_word, part_ahead, no_word, next_word}
use Rattle.set_free.proofs.search.Goals as goal

pub returns-then-left-ne0 : goal.returns-then-left-ne0
returns-then-left-ne0 c =
    own_word c.args.layer.now c.args.n c.args.first _ refl (omega (arith, (c.type_inv.layer (c.args.first / 64)).fits)) c.if-left-ne0.true c.within.ensures

pub overflow_add-p-2 : goal.overflow_add-p-2
overflow_add-p-2 c = omega (arith, c.far_ahead.ensures, few_ahead)

pub returns-in_err-w : goal.returns-in_err-w
returns-in_err-w c =
    let ws = c.args.layer.now in
    c.from_residual.ensures
    ∙ no_word ws c.args.n c.args.first _ c.far_ahead.result refl (omega (arith, (c.type_inv.layer (c.args.first / 64)).fits)) c.if-left-ne0.false
    (part_ahead ws (c.args.first / 64 + 1) c.far_ahead.ensures) c.requires.room c.in_err-w.ensures.lookup.3

pub returns : goal.returns
returns c =
    let ws = c.args.layer.now in
    let h = c.in_ok-w.ensures.lookup in
    next_word ws c.args.n c.args.first _ c.far_ahead.result refl (omega (arith, (c.type_inv.layer (c.args.first / 64)).fits)) c.if-left-ne0.false
    (part_ahead ws (c.args.first / 64 + 1) c.far_ahead.ensures) _ _ refl h.3.0 (h.3.1 0)
    (omega (arith, h.3.1 0, (c.type_inv.layer (c.args.first / 64 + 1 + c.far_ahead.result)).fits)) c.within-2.ensures
