-- Counting the set bits of all fields of a word at once: three ways to add neighbouring fields, and one law that each of them turns
-- the counts of fields of k bits into those of fields of k + k.
use mathlib.Core.Path.{◌≡◌, refl, sym, ap, ap₂, ◌∙◌, subst}
use Prim.Native.Nat.{ℕ, zero, suc, ◌+◌, ◌-◌, ◌*◌, ◌/◌, ◌%◌, ◌^◌, ◌≤◌, ◌<◌}
use native.Mathlib.Nat.{mod-lt, mod-eq_of_lt, mul_assoc, add-mul, suc-mul, add_comm, le_of_suc-le-suc, not-suc-le-zero, zero-mul, div-one, lt_of_le_of_lt, sub-add_cancel}
use native.Mathlib.Numerals.{add-one}
use native.Mathlib.Omega.{arith}
use lib.Arith.{digits_div, digits_mod, digits_lt, lt-one}
use lib.Bits.{bit_and, and_block, and_mask, and_zero_r, and_le_l}
use lib.Count.{ones, ones_cat, ones-le}
use lib.Pow.{pow_pos, pow-add, pow_mono, shr-shr, mod-pow-add, mod-mod-pow, split}
use Rattle.average.specs.Search.{tally, bits_above}

-- ---- the count of one field

bit-count : (x : ℕ) → x < 2 → ones x ≡ x
unfolding ones
bit-count zero h = refl
bit-count (suc zero) h = refl
bit-count (suc (suc x)) h = absurd (omega arith)

less_pow : (k : ℕ) → k < 2 ^ k
less_pow zero = omega arith
less_pow (suc k) = omega (arith, less_pow k)

pub field_le : (k x : ℕ) → ones (x % 2 ^ k) ≤ k
field_le k x = ones-le k (x % 2 ^ k) (mod-lt x (pow_pos k))

pub field_lt : (k x : ℕ) → ones (x % 2 ^ k) < 2 ^ k
field_lt k x = lt_of_le_of_lt (field_le k x) (less_pow k)

-- two neighbouring fields
two_fields : (k x : ℕ) → ones (x / 2 ^ k % 2 ^ k) + ones (x % 2 ^ k) ≡ ones (x % 2 ^ (k + k))
two_fields k x =
    sym (ones_cat k (x / 2 ^ k % 2 ^ k) (x % 2 ^ k) (mod-lt x (pow_pos k))) ∙ ap ones (sym (mod-pow-add x k k))

-- the set bits at or above a place: those k higher, and those of the field between
pub above_split : (n p k : ℕ) → bits_above n p ≡ bits_above n (p + k) + ones (n / 2 ^ p % 2 ^ k)
above_split n p k =
    ap ones (sym (split (n / 2 ^ p) k))
    ∙ ones_cat k (n / 2 ^ p / 2 ^ k) (n / 2 ^ p % 2 ^ k) (mod-lt (n / 2 ^ p) (pow_pos k))
    ∙ ap (λ (x : ℕ). ones x + ones (n / 2 ^ p % 2 ^ k)) (shr-shr n p k)

pub above_step : (n p : ℕ) → bits_above n p ≡ bits_above n (suc p) + n / 2 ^ p % 2
above_step n p =
    above_split n p 1
    ∙ ap₂ (λ (x y : ℕ). bits_above n x + y) (add-one p) (bit-count (n / 2 ^ p % 2) (mod-lt (n / 2 ^ p) (pow_pos 1)))

-- ---- the counts of all fields

-- a bit is its own count
pub tally-bits : (m n : ℕ) → n < 2 ^ m → tally 1 m n ≡ n
unfolding tally
tally-bits zero n h = sym (lt-one h)
tally-bits (suc m) n h =
    ap₂ (λ (x y : ℕ). x * 2 + y) (tally-bits m (n / 2) (omega arith)) (bit-count (n % 2) (mod-lt n (pow_pos 1))) ∙ omega arith

-- one field that holds all of n
pub tally_whole : (k n : ℕ) → n < 2 ^ k → tally k 1 n ≡ ones n
unfolding tally
tally_whole k n h = omega (arith, zero-mul (2 ^ k), ap ones (mod-eq_of_lt h))

-- the lowest field is a count
tally_low : (k m n : ℕ) → tally k m n % 2 ^ k ≤ k
unfolding tally
tally_low k zero n = omega (arith, mod-eq_of_lt (pow_pos k))
tally_low k (suc m) n = omega (arith, field_le k n, digits_mod (tally k m (n / 2 ^ k)) (field_lt k n))

-- field i, taken out by a shift and a mask of q bits
shift_suc : (x i k : ℕ) → x / 2 ^ (suc i * k) ≡ x / 2 ^ k / 2 ^ (i * k)
shift_suc x i k = ap (λ (e : ℕ). x / 2 ^ e) (suc-mul i k ∙ add_comm (i * k) k) ∙ sym (shr-shr x k (i * k))

shift_none : (x k : ℕ) → x / 2 ^ (zero * k) ≡ x
shift_none x k = ap (λ (e : ℕ). x / 2 ^ e) (zero-mul k) ∙ div-one x

field_is : (k m i n : ℕ) → i < m → tally k m n / 2 ^ (i * k) % 2 ^ k ≡ ones (n / 2 ^ (i * k) % 2 ^ k)
unfolding tally
field_is k zero i n h = absurd (not-suc-le-zero h)
field_is k (suc m) zero n h =
    ap (λ (x : ℕ). x % 2 ^ k) (shift_none (tally k (suc m) n) k)
    ∙ digits_mod (tally k m (n / 2 ^ k)) (field_lt k n)
    ∙ ap (λ (x : ℕ). ones (x % 2 ^ k)) (sym (shift_none n k))
field_is k (suc m) (suc i) n h =
    ap (λ (x : ℕ). x % 2 ^ k)
    (shift_suc (tally k (suc m) n) i k ∙ ap (λ (x : ℕ). x / 2 ^ (i * k)) (digits_div (tally k m (n / 2 ^ k)) (field_lt k n)))
    ∙ field_is k m i (n / 2 ^ k) (le_of_suc-le-suc h)
    ∙ ap (λ (x : ℕ). ones (x % 2 ^ k)) (sym (shift_suc n i k))

pub field_masked : (k m i n q : ℕ) → i < m → q ≤ k → k < 2 ^ q
    → bit_and (tally k m n / 2 ^ (i * k)) (2 ^ q - 1) ≡ ones (n / 2 ^ (i * k) % 2 ^ k)
field_masked k m i n q h l w =
    let y : ℕ = tally k m n / 2 ^ (i * k) in
    let e : y % 2 ^ k ≡ ones (n / 2 ^ (i * k) % 2 ^ k) = field_is k m i n h in
    let small : y % 2 ^ k < 2 ^ q = omega (arith, field_le k (n / 2 ^ (i * k))) in
    and_mask y q ∙ sym (mod-mod-pow y (k - q) q) ∙ ap (λ (z : ℕ). y % 2 ^ z % 2 ^ q) (sub-add_cancel l) ∙ mod-eq_of_lt small ∙ e

-- ---- adding neighbouring fields

-- twice m, by which two fields are taken at a time
unfoldable pub twice : ℕ → ℕ
twice zero = zero
twice (suc m) = suc (suc (twice m))

-- two fields u and v of k bits, u the upper one, below y
abbrev pub joined_tallies : ℕ → ℕ → ℕ → ℕ → ℕ
joined_tallies k y u v = (y * 2 ^ k + u) * 2 ^ k + v

-- the mask of the lower of each two fields, m times
unfoldable pub lower : ℕ → ℕ → ℕ
lower k zero = 0
lower k (suc m) = lower k m * 2 ^ (k + k) + (2 ^ k - 1)

-- what adds two fields at the bottom and goes on above them turns counts of fields into those of fields twice as wide
module _ (k : ℕ) (F : ℕ → ℕ → ℕ) (none : F zero 0 ≡ 0)
    (two : (m y u v : ℕ) → u ≤ k → v ≤ k → y % 2 ^ k ≤ k → F (suc m) (joined_tallies k y u v) ≡ F m y * 2 ^ (k + k) + (u + v)) where
  pub widened : (m n : ℕ) → F m (tally k (twice m) n) ≡ tally (k + k) m n
  unfolding tally twice
  widened zero n = none
  widened (suc m) n =
      two m (tally k (twice m) (n / 2 ^ k / 2 ^ k)) (ones (n / 2 ^ k % 2 ^ k)) (ones (n % 2 ^ k))
      (field_le k (n / 2 ^ k)) (field_le k n) (tally_low k (twice m) (n / 2 ^ k / 2 ^ k))
      ∙ ap₂ (λ (x y : ℕ). x * 2 ^ (k + k) + y) (widened m (n / 2 ^ k / 2 ^ k) ∙ ap (tally (k + k) m) (shr-shr n k k)) (two_fields k n)

-- the mask keeps the lower field and goes on above the upper one
masked : (k y u v e : ℕ) → u < 2 ^ k → v < 2 ^ k → bit_and (joined_tallies k y u v) (e * 2 ^ (k + k) + (2 ^ k - 1)) ≡ bit_and y e * 2 ^ (k + k) + v
masked k y u v e hu hv =
    let p : 2 ^ (k + k) ≡ 2 ^ k * 2 ^ k = pow-add 2 k k in
    let both : u * 2 ^ k + v < 2 ^ (k + k) = subst (λ (x : ℕ). u * 2 ^ k + v < x) (sym p) (digits_lt hu hv) in
    let all : 2 ^ k - 1 < 2 ^ (k + k) = omega (arith, pow_pos k, pow_mono {i = k} {j = k + k} (omega arith)) in
    let here : joined_tallies k y u v ≡ y * 2 ^ (k + k) + (u * 2 ^ k + v) =
    ap (λ (x : ℕ). x + v) (add-mul (y * 2 ^ k) u (2 ^ k)) ∙ omega (arith, mul_assoc y (2 ^ k) (2 ^ k), ap (λ (x : ℕ). y * x) p) in
    ap (λ (x : ℕ). bit_and x (e * 2 ^ (k + k) + (2 ^ k - 1))) here
    ∙ and_block (k + k) y e (u * 2 ^ k + v) (2 ^ k - 1) both all
    ∙ ap (λ (x : ℕ). bit_and y e * 2 ^ (k + k) + x) (and_mask (u * 2 ^ k + v) k ∙ digits_mod u hv)

-- the number above the lower field, as two fields again
shifted : (k y u v : ℕ) → v < 2 ^ k → joined_tallies k y u v / 2 ^ k ≡ joined_tallies k (y / 2 ^ k) (y % 2 ^ k) u
shifted k y u v hv = digits_div (y * 2 ^ k + u) hv ∙ ap (λ (x : ℕ). x * 2 ^ k + u) (sym (split y k))

-- two fields made of one
joins : (k x y : ℕ) → (x + y) * 2 ^ (k + k) ≡ x * 2 ^ (k + k) + y * 2 ^ (k + k)
joins k x y = add-mul x y (2 ^ (k + k))

-- by masks: (y & mask) + ((y >> k) & mask)
abbrev pub by_masks : ℕ → ℕ → ℕ → ℕ
by_masks k m y = bit_and y (lower k m) + bit_and (y / 2 ^ k) (lower k m)

-- by one mask: (y + (y >> k)) & mask, where a field has room for the sum of two
abbrev pub by_one_mask : ℕ → ℕ → ℕ → ℕ
by_one_mask k m y = bit_and (y + y / 2 ^ k) (lower k m)

-- by a difference: y - ((y >> k) & mask), for fields of one bit
abbrev pub by_minus : ℕ → ℕ → ℕ
by_minus m y = y - bit_and (y / 2 ^ 1) (lower 1 m)

module _ (k : ℕ) where
  fits : (u : ℕ) → u ≤ k → u < 2 ^ k
  fits u h = lt_of_le_of_lt h (less_pow k)

  -- the mask on the number shifted
  masked_shifted : (m y u v : ℕ) → u ≤ k → v ≤ k
      → bit_and (joined_tallies k y u v / 2 ^ k) (lower k (suc m)) ≡ bit_and (y / 2 ^ k) (lower k m) * 2 ^ (k + k) + u
  unfolding lower
  masked_shifted m y u v hu hv =
      ap (λ (x : ℕ). bit_and x (lower k m * 2 ^ (k + k) + (2 ^ k - 1))) (shifted k y u v (fits v hv))
      ∙ masked k (y / 2 ^ k) (y % 2 ^ k) u (lower k m) (mod-lt y (pow_pos k)) (fits u hu)

  pub masks_widen : (m n : ℕ) → by_masks k m (tally k (twice m) n) ≡ tally (k + k) m n
  unfolding lower
  masks_widen = widened k (by_masks k) none two
    where
      none : by_masks k zero 0 ≡ 0
      none = omega (arith, and_zero_r (0 / 2 ^ k))

      two : (m y u v : ℕ) → u ≤ k → v ≤ k → y % 2 ^ k ≤ k → by_masks k (suc m) (joined_tallies k y u v) ≡ by_masks k m y * 2 ^ (k + k) + (u + v)
      two m y u v hu hv hy =
          omega (
            arith,
            masked k y u v (lower k m) (fits u hu) (fits v hv),
            masked_shifted m y u v hu hv,
            joins k (bit_and y (lower k m)) (bit_and (y / 2 ^ k) (lower k m)),
          )

  pub mask_widens : k + k < 2 ^ k → (m n : ℕ) → by_one_mask k m (tally k (twice m) n) ≡ tally (k + k) m n
  unfolding lower
  mask_widens wide = widened k (by_one_mask k) none two
    where
      none : by_one_mask k zero 0 ≡ 0
      none = and_zero_r (0 + 0 / 2 ^ k)

      -- the sum's fields: no two of them leave theirs
      sum : (y u v : ℕ) → v < 2 ^ k → joined_tallies k y u v + joined_tallies k y u v / 2 ^ k ≡ joined_tallies k (y + y / 2 ^ k) (y % 2 ^ k + u) (u + v)
      sum y u v hv =
          ap (λ (x : ℕ). joined_tallies k y u v + x) (digits_div (y * 2 ^ k + u) hv)
          ∙ omega (
            arith,
            split y k,
            add-mul (y * 2 ^ k) u (2 ^ k),
            add-mul y (y / 2 ^ k) (2 ^ k),
            add-mul (y * 2 ^ k + y / 2 ^ k * 2 ^ k) (y % 2 ^ k + u) (2 ^ k),
            add-mul (y * 2 ^ k) (y / 2 ^ k * 2 ^ k) (2 ^ k),
            add-mul (y % 2 ^ k) u (2 ^ k),
            add-mul (y / 2 ^ k * 2 ^ k) (y % 2 ^ k) (2 ^ k),
            ap (λ (x : ℕ). x * 2 ^ k) (split y k),
          )

      two : (m y u v : ℕ) → u ≤ k → v ≤ k → y % 2 ^ k ≤ k → by_one_mask k (suc m) (joined_tallies k y u v) ≡ by_one_mask k m y * 2 ^ (k + k) + (u + v)
      two m y u v hu hv hy =
          ap (λ (x : ℕ). bit_and x (lower k m * 2 ^ (k + k) + (2 ^ k - 1))) (sum y u v (fits v hv))
          ∙ masked k (y + y / 2 ^ k) (y % 2 ^ k + u) (u + v) (lower k m) (omega arith) (omega arith)

pub minus_widens : (m n : ℕ) → by_minus m (tally 1 (twice m) n) ≡ tally 2 m n
unfolding lower
minus_widens = widened 1 by_minus none two
  where
    none : by_minus zero 0 ≡ 0
    none = omega arith

    two : (m y u v : ℕ) → u ≤ 1 → v ≤ 1 → y % 2 ^ 1 ≤ 1 → by_minus (suc m) (joined_tallies 1 y u v) ≡ by_minus m y * 2 ^ (1 + 1) + (u + v)
    two m y u v hu hv hy =
        omega (arith, masked_shifted 1 m y u v hu hv, and_le_l (y / 2 ^ 1) (lower 1 m))
