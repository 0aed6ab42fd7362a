-- `gather` meets its contract.
use Rattle.std.proofs.Common.{◌≡◌, reverse, rules}
use Rattle.std.specs.List.{fold}
use Rattle.summary_word.proofs.Gathered.{by_eight, gathered_part, gathered_past}
use Rattle.summary_word.proofs.gather.Goals as goal

pub returns-then-part-a : goal.returns-then-part-a
returns-then-part-a c = gathered_past c.args.part.now c.args.a c.if-part-a.true

pub returns : goal.returns
returns c =
    let e : c.fold.result ≡ fold by_eight c.marks.result (reverse c.as_chunks.result.0.now) = search rules in
    gathered_part c.args.part.now c.args.a c.min.result c.min.ensures c.if-part-a.false c.as_chunks.ensures.front c.as_chunks.ensures.back c.marks.ensures e
