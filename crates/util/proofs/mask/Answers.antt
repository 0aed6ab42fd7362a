-- `util::mask` meets its contract: nothing is shifted out.
use mathlib.Core.Path.{ap, ◌∙◌}
use Prim.Native.Nat.{ℕ, ◌^◌}
use native.Mathlib.Omega.{arith}
use Rattle.util.proofs.Bits.{shl_one}
use Rattle.util.proofs.mask.Goals as goal

pub returns : goal.returns
returns c = shl_one c.row.result (omega arith) ∙ ap (λ (b : ℕ). 2 ^ b) c.row.ensures
