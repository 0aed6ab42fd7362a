-- Where every bit of lw is on in lv, a walk of lw reads no more than one of lv.
use mathlib.Core.Path.{◌≡◌, refl}
use Prim.Native.Nat.{ℕ, zero, suc, ◌+◌, ◌*◌, ◌≤◌, ◌<◌}
use native.Mathlib.Omega.{arith}
use Rattle.util.specs.Word.{bit, keep, places, bits}
use Rattle.walk_laws.specs.Under.{summed, reads_under, all_reads}
use Rattle.walk_laws.specs.Walks.{InsideOf}

-- a sum grows with its places and its summands
sum-le : (f g p q : ℕ → ℕ) → ((i : ℕ) → f i ≤ g i) → (b n : ℕ) → ((i : ℕ) → b ≤ i → i < b + n → p i ≤ q i) → summed f (places p b n) ≤ summed g (places q b n)
unfolding summed places
sum-le f g p q le b zero sub = omega arith
sum-le f g p q le b (suc n) sub = go (p b) (q b) refl refl (sum-le f g p q le (suc b) n (λ i l u. sub i (omega arith) (omega arith)))
  where
    go : (x y : ℕ) → p b ≡ x → q b ≡ y → summed f (places p (suc b) n) ≤ summed g (places q (suc b) n)
        → summed f (keep x b (places p (suc b) n)) ≤ summed g (keep y b (places q (suc b) n))
    go zero zero u v ih = ih
    go zero (suc y) u v ih = omega (arith, ih)
    go (suc x) zero u v ih = absurd (omega (arith, sub b (omega arith) (omega arith), u, v))
    go (suc x) (suc y) u v ih = omega (arith, ih, le b)

module _ (lw lv : ℕ → ℕ → ℕ) (t : ℕ) (sub : InsideOf lw lv t) where
  reads_below : (k p : ℕ) → k ≤ suc t → reads_under lw k p ≤ reads_under lv k p
  unfolding reads_under bits
  reads_below zero p h = omega arith
  reads_below (suc k) p h =
      let i : summed (λ b. reads_under lw k (p * 64 + b)) (places (bit (lw k p)) 0 64) ≤ summed (λ b. reads_under lv k (p * 64 + b)) (places (bit (lv k p)) 0 64) =
      sum-le (λ b. reads_under lw k (p * 64 + b)) (λ b. reads_under lv k (p * 64 + b)) (bit (lw k p)) (bit (lv k p))
      (λ b. reads_below k (p * 64 + b) (omega arith)) 0 64 (λ b l u. sub k p b (omega arith) (omega arith)) in
      omega (arith, i)

  pub reads_le : all_reads lw t ≤ all_reads lv t
  reads_le = reads_below (suc t) 0 (omega arith)
