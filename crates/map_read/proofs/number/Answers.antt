-- `number` meets its contract.
use Rattle.std.proofs.Common.{◌≡◌, ℕ, ◌+◌, ◌-◌, length, take, drop, ap, ◌∙◌, arith}
use Rattle.std.proofs.lemmas.Result.{MatchResult-at_ok}
use Rattle.map_format.specs.Bytes.{num}
use Rattle.map_format.proofs.Numbers.{number_4}
use Rattle.map_read.proofs.number.Goals as goal

pub returns : goal.returns
returns c =
    let w = MatchResult-at_ok _ _ c.unwrap.result c.unwrap.ensures c.try_into.ensures.1 in
    let e : c.args.o + 4 - c.args.o ≡ 4 = omega arith in
    c.from_le_bytes.ensures ∙ number_4 c.unwrap.result (ap length w.same ∙ w.long)
    ∙ ap num (w.same ∙ ap (λ (k : ℕ). take k (drop c.args.o c.args.bytes.now)) e)
