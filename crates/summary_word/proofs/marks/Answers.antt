-- `marks` meets its contract.
use Rattle.std.proofs.Common.{◌≡◌, reverse, rules, ◌∙◌}
use Rattle.std.specs.List.{fold}
use Rattle.summary_word.proofs.Gathered.{by_one, gathered}
use Rattle.summary_word.proofs.marks.Goals as goal

pub returns : goal.returns
returns c =
    let e : c.fold.result ≡ fold by_one 0 (reverse c.args.words.now) = search rules in
    e ∙ gathered c.args.words.now c.requires
