-- A word without its lowest set bit, as the code makes it.
use mathlib.Core.Path.{◌≡◌, refl, ap, ◌∙◌}
use Prim.Native.Nat.{ℕ, zero, suc, ◌+◌, ◌-◌, ◌*◌, ◌/◌, ◌%◌, ◌^◌, ◌<◌, min}
use native.Mathlib.Nat.{pow-suc}
use native.Mathlib.Omega.{arith}
use lib.Bits.{bit_and, and_step, and_self}
use lib.Count.{count_trailing_zeros, under}

less_in : (n m : ℕ) → m < 2 ^ n → 0 < m → bit_and m (m - 1) ≡ m - 2 ^ count_trailing_zeros n m
unfolding count_trailing_zeros
less_in zero m h p = absurd (omega arith)
less_in (suc n) m h p = go (m % 2) refl (λ q. less_in n (m / 2) (omega (arith, pow-suc 2 n)) q)
  where
    go : (r : ℕ) → m % 2 ≡ r → (0 < m / 2 → bit_and (m / 2) (m / 2 - 1) ≡ m / 2 - 2 ^ count_trailing_zeros n (m / 2))
        → bit_and m (m - 1) ≡ m - 2 ^ under r (count_trailing_zeros n (m / 2))
    go zero e ih =
        let half : (m - 1) / 2 ≡ m / 2 - 1 = omega arith in
        and_step m (m - 1)
        ∙ ap (λ (x : ℕ). bit_and (m / 2) x * 2 + min (m % 2) ((m - 1) % 2)) half
        ∙ omega (arith, ih (omega arith), pow-suc 2 (count_trailing_zeros n (m / 2)))
    go (suc r) e ih =
        let half : (m - 1) / 2 ≡ m / 2 = omega arith in
        and_step m (m - 1)
        ∙ ap (λ (x : ℕ). bit_and (m / 2) x * 2 + min (m % 2) ((m - 1) % 2)) half
        ∙ omega (arith, and_self (m / 2))

pub less_is : (m : ℕ) → m < 2 ^ 64 → 0 < m → bit_and m (m - 1) ≡ m - 2 ^ count_trailing_zeros 64 m
less_is m h p = less_in 64 m h p
