-- `assign` meets its contract.
use Rattle.std.proofs.Common.{rules, arith}
use Rattle.store.proofs.Ends.{passed, both_stores}
use Rattle.store.proofs.TopLayer.{top_low}
use Rattle.ops_word.specs.Named.{code}
use Rattle.ops_merge.proofs.Answers.{refused, ask_top, merge_done}
use Rattle.ops_merge.proofs.assign.Goals as goal

pub returns-in_err-n : goal.returns-in_err-n
returns-in_err-n c =
    let a = c.args in
    rw (passed c.from_residual.ensures.1) (refused (code a.op) a.store.now a.other.now c.same_capacity.ensures c.in_err-n.was)

pub below-requires : goal.below-requires
below-requires c =
    let z = both_stores c.args.store.now c.args.other.now c.same_capacity.ensures c.in_ok-n.was in
    record { above = omega (arith, c.top.ensures, top_low c.in_ok-n.n); at = ask_top z.0 z.1 c.top.ensures }

pub returns : goal.returns
returns c =
    let z = both_stores c.args.store.now c.args.other.now c.same_capacity.ensures c.in_ok-n.was in
    merge_done {op = code c.args.op} z.0 z.1 c.top.ensures (λ x. search rules) (λ x. search rules) (λ x. search rules) c.below.ensures
