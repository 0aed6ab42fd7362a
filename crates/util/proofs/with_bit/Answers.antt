use mathlib.Core.Bool.{Bool, cond}
use mathlib.Core.Path.{◌≡◌, sym, ap, ◌∙◌}
use Prim.Native.Nat.{ℕ, ◌%◌, ◌^◌}
use native.Mathlib.Omega.{arith}
use lib.Bits.{bit_and, bit_or}
use Rattle.util.specs.Word.{flip, change}
use Rattle.util.proofs.Bits.{shl_one}
use Rattle.util.proofs.with_bit.Goals as goal

-- the definition at the way that was taken
at : (on x : Bool) (w b : ℕ) → on ≡ x → cond x (bit_or w (2 ^ b)) (bit_and w (flip (2 ^ b))) ≡ change on w b
unfolding change
at on x w b e = ap (λ (y : Bool). cond y (bit_or w (2 ^ b)) (bit_and w (flip (2 ^ b)))) (sym e)

pub returns-then-on : goal.returns-then-on
returns-then-on c =
    let a = c.before.args in
    ap (bit_or a.w) (shl_one (a.b % 64) (omega arith)) ∙ at a.on _ a.w (a.b % 64) c.if-on.true

pub returns-else-on : goal.returns-else-on
returns-else-on c =
    let d = c.before in
    let a = d.args in
    ap (λ (m : ℕ). bit_and a.w (flip m)) (shl_one (a.b % 64) (omega arith)) ∙ at a.on _ a.w (a.b % 64) c.if-on.false
