-- `dense_64` meets its contract.
use mathlib.Core.Path.{ap, ◌∙◌}
use lib.ListN.{length}
use Rattle.ops_word.specs.Named.{code}
use Rattle.ops_group.specs.Group.{all}
use Rattle.ops_group.proofs.Loops.{flags_whole}
use Rattle.ops_group.proofs.Named.{length_named}
use Rattle.ops_group.proofs.dense_64.Goals as goal

pub returns-clause-value : goal.returns-clause-value
returns-clause-value c =
    let a = c.args in
    flags_whole c.merge_64.new.part (ap length c.merge_64.ensures ∙ length_named (code a.op) all 0 a.part.now a.other.now ∙ c.requires.0) c.gather.ensures
