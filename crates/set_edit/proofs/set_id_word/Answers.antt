-- `set_id_word` meets its contract.
use mathlib.Core.Path.{ap, ◌∙◌}
use Prim.Native.Nat.{ℕ, ◌+◌}
use native.Mathlib.Omega.{arith}
use lib.ListN.{length, set}
use Rattle.store.proofs.Parts.{part_set}
use Rattle.set_edit.proofs.set_id_word.Goals as goal

pub returns : goal.returns
returns c =
    part_set c.args.a (length c.args.store.now) c.offset.result c.args.w c.args.store.now _ (omega (arith, c.offset.ensures)) (omega arith) c.set_word.ensures
    ∙ ap (λ (x : ℕ). set c.args.store.now (c.args.a + x) c.args.w) c.offset.ensures
