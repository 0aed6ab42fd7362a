-- What a caller gets is what the call promises.
use mathlib.Core.Path.{◌≡◌, sym, ap, ◌∙◌}
use Rattle.util.specs.Outcome.{Outcome, Paper, Settled}
use Rattle.export_answer.specs.Abi.{answer_of, bit_of}
use Rattle.export_answer.specs.declared.Answer.{Answer}

-- the numbers of an answer that is known
pub tells_paper : {R : Type 0} (p : Paper R) {r r' : R} {a : Answer} → a ≡ answer_of (p.numbers r') → r ≡ r' → a ≡ answer_of (p.numbers r)
tells_paper p e same = e ∙ ap (λ (x : _). answer_of (p.numbers x)) (sym same)

-- where the call is settled
pub tells : {R X : Type 0} (p : Paper R) {o : Outcome X} {r : R} {x : X} {a : Answer} → Settled p o r x → a ≡ answer_of (p.numbers r)
    → a ≡ answer_of o.numbers
tells p s e = e ∙ ap answer_of s.answer

-- a bit, or none, where the call is settled
pub tells_bit : {R X : Type 0} (p : Paper R) {o : Outcome X} {r r' : R} {x : X} → Settled p o r x → r ≡ r' → bit_of (p.numbers r') ≡ bit_of o.numbers
tells_bit p s same = ap (λ (y : _). bit_of (p.numbers y)) (sym same) ∙ ap bit_of s.answer
