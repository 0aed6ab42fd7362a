-- `all_below` meets its contract.
use Rattle.std.proofs.Common.{rules, ◌≡◌, ◌∙◌, ◌&&◌, fold, true, nat_lt}
use Rattle.set_edit.proofs.Answers.{fold_below}
use Rattle.set_edit.proofs.all_below.Goals as goal

pub returns : goal.returns
returns c =
    let e : c.fold.result ≡ fold (λ all i. all && nat_lt i c.args.n) true c.args.ids.now = search rules in
    e ∙ fold_below c.args.n c.args.ids.now
