-- Layer words that agree below the top leave a cursor the same ids to hand out.
use Rattle.std.proofs.Common.{◌≡◌, ℕ, zero, suc, ◌+◌, ◌*◌, ◌<◌, ◌≤◌, List, ◌++◌, get_or, refl, ap, ap₂, arith}
use mathlib.Core.Path.{fun_ext}
use Rattle.util.specs.Word.{bits}
use Rattle.walk.specs.Walk.{prefix_at}
use Rattle.walk.specs.declared.Cursor.{Cursor}
use Rattle.walk_laws.specs.Rest.{scan, rest}
use Rattle.walk_laws.specs.Under.{gathered, under}

module _ (lw lw' : ℕ → ℕ → ℕ) (t : ℕ) (same : (k i : ℕ) → k < t → lw k i ≡ lw' k i) where
  under_same : (k : ℕ) → k ≤ t → (p : ℕ) → under lw k p ≡ under lw' k p
  unfolding under
  under_same zero h p = refl
  under_same (suc k) h p =
      ap₂ (λ (f : ℕ → List ℕ) (w : ℕ). gathered f (bits w)) (fun_ext (λ b. under_same k (omega arith) (p * 64 + b))) (same k p (omega arith))

  pub rest_same : (c : Cursor) (n : ℕ) → n ≤ suc t → rest lw t c n ≡ rest lw' t c n
  unfolding rest scan
  rest_same c zero h = refl
  rest_same c (suc n) h =
      ap₂ (λ (x y : List ℕ). x ++ y) (rest_same c n (omega arith))
      (ap (λ (f : ℕ → List ℕ). gathered f (bits (get_or c.masks n 0))) (fun_ext (λ b. under_same n (omega arith) (prefix_at t c.prefix n + b))))
