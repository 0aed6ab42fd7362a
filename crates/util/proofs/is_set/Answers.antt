-- `util::is_set` meets its contract.
use mathlib.Core.Bool.{not}
use mathlib.Core.Path.{ap, ◌∙◌}
use Prim.Native.Nat.{ℕ, ◌%◌}
use native.Mathlib.Omega.{arith}
use lib.Bits.{bit_and}
use lib.Dec.{eqb}
use Rattle.util.proofs.Bits.{shl_one, tested}
use Rattle.util.proofs.is_set.Goals as goal

pub returns : goal.returns
returns c =
    let b = c.args.b % 64 in
    ap (λ (m : ℕ). not (eqb (bit_and c.args.w m) 0)) (shl_one b (omega arith)) ∙ tested c.args.w b
