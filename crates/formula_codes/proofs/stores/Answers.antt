-- `stores` meets its contract.
use Rattle.std.proofs.Common.{ap₂, ◌∙◌}
use Rattle.std.proofs.lemmas.Result.{err_from_is_err_and}
use Rattle.formula_codes.proofs.Answers.{stores_refused}
use Rattle.formula_codes.specs.Steps.{first_refusal}
use Rattle.formula_codes.proofs.stores.Goals as goal

pub returns-in_err-sooner : goal.returns-in_err-sooner
returns-in_err-sooner c =
    let p = err_from_is_err_and c.from_residual-in_err-sooner.result c.from_residual-in_err-sooner.ensures.1 in
    rw (p.1, p.2) (stores_refused c.args.f.now c.in_ok-n.ensures (c.in_err-sooner.ensures ∙ ap₂ first_refusal (c.sooner.ensures ∙ ap₂ first_refusal c.beside.ensures c.beside-2.ensures) c.beside-3.ensures))
