use Rattle.std.proofs.Common.{sym, ◌∙◌}
use Rattle.text_in.proofs.Digits.{no_byte, some_byte}
use Rattle.text_in.proofs.digit_at.Goals as goal

pub returns-in_err-get : goal.returns-in_err-get
returns-in_err-get c = c.from_residual.ensures ∙ no_byte _ _ (sym c.in_err-get.ensures.lookup.0)

pub returns : goal.returns
returns c =
    let found = c.in_ok-get.ensures.lookup in some_byte _ _ (sym found.0) (sym (c.from.ensures ∙ found.3.1 0)) _ c.to_digit.ensures.value
