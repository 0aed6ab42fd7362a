-- The bits that exist in a word, one by one.
use mathlib.Core.Path.{◌≡◌, ap}
use Prim.Native.Nat.{ℕ, suc, ◌+◌, ◌-◌, ◌*◌, ◌/◌, ◌%◌, ◌^◌, ◌≤◌, ◌<◌, min}
use native.Mathlib.Decide.{dec_lt}
use native.Mathlib.Omega.{arith}
use lib.Pow.{pow_pos, pow_mono}
use Rattle.util.specs.Word.{bit}
use Rattle.util.proofs.Bits.{ones_on, ones_off}
use Rattle.store.specs.Layout.{room}
use Rattle.formula_codes.specs.Tree.{existing}

module _ (p i : ℕ) where
  abbrev size : ℕ
  size = min 64 (p - i * 64)

  pub cut_lt : existing p i < 2 ^ 64
  unfolding existing
  cut_lt =
      let l : size ≤ 64 = omega arith in
      let h : 2 ^ size ≤ 2 ^ 64 = pow_mono l in
      omega (arith, pow_pos size)

  pub cut_on : (b : ℕ) → b < 64 → i * 64 + b < p → bit (existing p i) b ≡ 1
  unfolding existing
  cut_on b h g = ones_on size b (omega arith)

  pub cut_off : (b : ℕ) → p ≤ i * 64 + b → bit (existing p i) b ≡ 0
  unfolding existing
  cut_off b h = ones_off size b (omega arith)

  cut_none : p ≤ i * 64 → existing p i ≡ 0
  unfolding existing
  cut_none h = let m : size ≡ 0 = omega arith in ap (λ (x : ℕ). 2 ^ x - 1) m

-- the bit over a place that a layer has, or has not
pub cut_in : (p x : ℕ) → x < p → bit (existing p (x / 64)) (x % 64) ≡ 1
cut_in p x h = cut_on p (x / 64) (x % 64) (omega arith) (omega arith)

pub cut_past : (p x : ℕ) → p ≤ x → bit (existing p (x / 64)) (x % 64) ≡ 0
cut_past p x h = cut_off p (x / 64) (x % 64) (omega arith)

-- where the bit over a word of layer k is off, no bit of that word exists
pub cut_under : (N k q : ℕ) → bit (existing (room N (suc k)) (q / 64)) (q % 64) ≡ 0 → existing (room N k) q ≡ 0
unfolding room
cut_under N k q e = go (dec_lt q (room N (suc k)))
  where
    go : Dec (q < room N (suc k)) → existing (room N k) q ≡ 0
    go (yes h) = absurd (omega (arith, e, cut_in (room N (suc k)) q h))
    go (no h) = cut_none (room N k) q (omega (arith, h))
