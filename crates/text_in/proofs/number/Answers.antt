use Rattle.std.proofs.Common.{◌≡◌, ◌∙◌, ◌+◌, ◌*◌, arith, rules}
use Rattle.text_in.proofs.Digits.{digits_none, digits_some, reads_all, reads_more, reads_over}
use Rattle.text_in.proofs.number.Goals as goal

pub returns-in_err-checked_mul : goal.returns-in_err-checked_mul
returns-in_err-checked_mul c =
    let it = digits_some c.args.line.now c.loop-d.end c.in-Some.ensures in
    c.from_residual.ensures ∙ reads_over c.loop-d.invariant it (omega (arith, c.in_err-checked_mul.ensures))

pub returns-in_err-value : goal.returns-in_err-value
returns-in_err-value c =
    let it = digits_some c.args.line.now c.loop-d.end c.in-Some.ensures in
    c.from_residual-in_err-value.ensures
    ∙ reads_over c.loop-d.invariant it (omega (arith, c.in_ok-checked_mul.ensures.1, c.from.ensures, c.in_err-value.ensures))

pub returns-then-value-most : goal.returns-then-value-most
returns-then-value-most c =
    let it = digits_some c.args.line.now c.loop-d.end c.in-Some.ensures in
    reads_over c.loop-d.invariant it (omega (arith, c.in_ok-checked_mul.ensures.1, c.from.ensures, c.in_ok-value.ensures.1))

pub overflow_add-end : goal.overflow_add-end
overflow_add-end c = let it = digits_some c.args.line.now c.loop-d.end c.in-Some.ensures in search rules

pub loop-d-smaller : goal.loop-d-smaller
loop-d-smaller c = let it = digits_some c.args.line.now c.loop-d.end c.in-Some.ensures in omega arith

pub loop-d-preserved : goal.loop-d-preserved
loop-d-preserved c =
    let it = digits_some c.args.line.now c.loop-d.end c.in-Some.ensures in
    let value_is : c.in_ok-value.value ≡ c.loop-d.value * 10 + c.in-Some.d =
    omega (arith, c.in_ok-checked_mul.ensures.1, c.from.ensures, c.in_ok-value.ensures.1) in
    rw value_is (reads_more c.loop-d.invariant it (omega arith))

pub returns : goal.returns
returns c =
    c.then_some.ensures
    ∙ reads_all c.loop-d.invariant (digits_none c.args.line.now c.loop-d.end c.in_default.ensures)
