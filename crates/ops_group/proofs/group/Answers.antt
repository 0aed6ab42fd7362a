-- `group` meets its contract: as a whole, or the words that are named.
use mathlib.Core.Path.{sym, ◌∙◌}
use Rattle.ops_word.specs.Named.{code}
use Rattle.ops_group.proofs.Loops.{dense_long, dense_out, sparse_out}
use Rattle.ops_group.proofs.group.Goals as goal

pub dense_64-requires : goal.dense_64-requires
dense_64-requires c =
    dense_long _ _ _ (sym c.is_dense.ensures ∙ c.if-is_dense.true)

pub returns-then-is_dense : goal.returns-then-is_dense
returns-then-is_dense c =
    let a = c.args in
    let out = dense_out (code a.op) a.part.now a.other.now a.w a.m c.dense_64.new.part _ (sym c.is_dense.ensures ∙ c.if-is_dense.true)
    c.dense_64.ensures.part_after c.dense_64.ensures.value in
    record { part_after = out.0; value = out.1 }

pub returns : goal.returns
returns c =
    let a = c.args in
    let out = sparse_out (code a.op) a.part.now a.other.now a.w a.m c.sparse.new.part _ (sym c.is_dense.ensures ∙ c.if-is_dense.false)
    c.sparse.ensures.part_after c.sparse.ensures.value in
    record { part_after = out.0; value = out.1 }
