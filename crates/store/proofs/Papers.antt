-- An answer that calls share is read back off its numbers: so different answers have different numbers.
use Rattle.std.proofs.Common.{◌≡◌, ℕ, Bool}
use Rattle.std.specs.Prelude.{Result}
use Rattle.store.specs.Answer.{asked_paper, did_paper, number_paper}
use Rattle.store.specs.declared.Refusal.{Refusal}

pub asked_back : (r : Result Bool Refusal) → asked_paper.answer (asked_paper.numbers r) ≡ r
asked_back = asked_paper.same

pub did_back : (r : Result (Unit {0}) Refusal) → did_paper.answer (did_paper.numbers r) ≡ r
did_back = did_paper.same

pub number_back : (r : Result ℕ Refusal) → number_paper.answer (number_paper.numbers r) ≡ r
number_back = number_paper.same
