-- The bits of a word under every operation that the code makes on words.
use mathlib.Core.Bool.{Bool, true, false, cond, not}
use mathlib.Core.Logic.{◌≢◌}
use mathlib.Core.Path.{◌≡◌, refl, sym, ap, ◌∙◌, subst}
use Prim.Native.Nat.{ℕ, zero, suc, ◌+◌, ◌-◌, ◌*◌, ◌/◌, ◌%◌, ◌^◌, ◌≤◌, ◌<◌, min, max}
use native.Mathlib.Decide.{dec_lt, ℕ_discrete}
use native.Mathlib.Nat.{mod-lt, mul-add-mod_self_right, mod-eq_of_lt, zero-div, one-mul, pow-suc, div-div-eq-div-mul, mul_comm, div-one, zero-lt-suc, div-eq_of_lt, mul-div_cancel, add-zero, div-lt_iff_lt-mul}
use native.Mathlib.Omega.{arith}
use borrow.Author.Tests.{eq-eqb, ne_eqb}
use lib.Arith.{bin_ind}
use lib.Bits.{bit_and, bit_or, bit_xor, differ, and_step, or_step, xor_step, and_shr, or_shr, xor_shr, or_disjoint, or_lt, and_le_l}
use lib.Dec.{eqb}
use lib.Pow.{pow_pos, pow-lt, pow_mono, shl_exact, shl-shr, split}
use Rattle.util.specs.Word.{bit, flip, change}

-- `1 << b`
pub shl_one : (b : ℕ) → b < 64 → 1 * 2 ^ b % 2 ^ 64 ≡ 2 ^ b
shl_one b h = shl_exact {a = 1} 1 b 64 (omega arith) (omega arith) ∙ one-mul (2 ^ b)

pub bit_lt : (w b : ℕ) → bit w b < 2
unfolding bit
bit_lt w b = mod-lt (w / 2 ^ b) (zero-lt-suc 1)

-- a bit that is not 0 is 1, and one that is not 1 is 0
pub bit-on : (w b : ℕ) → bit w b ≢ 0 → bit w b ≡ 1
bit-on w b n = omega (arith, bit_lt w b)

pub bit_off : (w b : ℕ) → bit w b ≢ 1 → bit w b ≡ 0
bit_off w b n = omega (arith, bit_lt w b)

-- bit 0 is the last digit, and bit b + 1 is bit b of the half
pub bit_zero : (w : ℕ) → bit w 0 ≡ w % 2
unfolding bit
bit_zero w = ap (λ (x : ℕ). x % 2) (div-one w)

pub bit_suc : (w b : ℕ) → bit w (suc b) ≡ bit (w / 2) b
unfolding bit
bit_suc w b =
    ap (λ (x : ℕ). x % 2)
    (ap (λ (x : ℕ). w / x) (pow-suc 2 b ∙ mul_comm (2 ^ b) 2) ∙ sym (div-div-eq-div-mul w 2 (2 ^ b)))

-- no bit of 0, and none at or past the width
pub bit_of_zero : (b : ℕ) → bit 0 b ≡ 0
unfolding bit
bit_of_zero b = ap (λ (x : ℕ). x % 2) (zero-div (2 ^ b))

pub bit_high : (n w b : ℕ) → w < 2 ^ n → n ≤ b → bit w b ≡ 0
unfolding bit
bit_high n w b h g = ap (λ (x : ℕ). x % 2) (div-eq_of_lt (omega (arith, pow_mono g)))

-- ---- or, and, xor: any operation that works digit by digit works bit by bit
module _ (op f : ℕ → ℕ → ℕ)
    (step : (x y : ℕ) → op x y ≡ op (x / 2) (y / 2) * 2 + f (x % 2) (y % 2))
    (shift : (x y b : ℕ) → op x y / 2 ^ b ≡ op (x / 2 ^ b) (y / 2 ^ b))
    (digit : (x y : ℕ) → x < 2 → y < 2 → f x y < 2) where
  bitwise : (x y b : ℕ) → bit (op x y) b ≡ f (bit x b) (bit y b)
  unfolding bit
  bitwise x y b =
      ap (λ (z : ℕ). z % 2) (shift x y b ∙ step (x / 2 ^ b) (y / 2 ^ b))
      ∙ mul-add-mod_self_right (op (x / 2 ^ b / 2) (y / 2 ^ b / 2)) 2 (f (bit x b) (bit y b))
      ∙ mod-eq_of_lt (digit (bit x b) (bit y b) (bit_lt x b) (bit_lt y b))

differ_lt : (x y : ℕ) → x < 2 → y < 2 → differ x y < 2
differ_lt zero y h g = g
differ_lt (suc x) zero h g = h
differ_lt (suc x) (suc y) h g = differ_lt x y (omega arith) (omega arith)

pub bit-bit_or : (x y b : ℕ) → bit (bit_or x y) b ≡ max (bit x b) (bit y b)
bit-bit_or = bitwise bit_or max or_step or_shr (λ x y h g. omega arith)

pub bit-bit_and : (x y b : ℕ) → bit (bit_and x y) b ≡ min (bit x b) (bit y b)
bit-bit_and = bitwise bit_and min and_step and_shr (λ x y h g. omega arith)

pub bit-bit_xor : (x y b : ℕ) → bit (bit_xor x y) b ≡ differ (bit x b) (bit y b)
bit-bit_xor = bitwise bit_xor differ xor_step xor_shr differ_lt

-- the complement of n bits
pub bit-flip_in : (n w b : ℕ) → w < 2 ^ n → b < n → bit ((2 ^ n - 1) - w) b ≡ 1 - bit w b
bit-flip_in zero w b h g = absurd (omega arith)
bit-flip_in (suc n) w zero h g = bit_zero ((2 ^ suc n - 1) - w) ∙ omega (arith, bit_zero w)
bit-flip_in (suc n) w (suc b) h g =
    bit_suc ((2 ^ suc n - 1) - w) b
    ∙ ap (λ (x : ℕ). bit x b) (omega arith)
    ∙ bit-flip_in n (w / 2) b (omega arith) (omega arith)
    ∙ ap (λ (x : ℕ). 1 - x) (sym (bit_suc w b))

pub bit-flip : (w b : ℕ) → w < 2 ^ 64 → b < 64 → bit (flip w) b ≡ 1 - bit w b
bit-flip = bit-flip_in 64

-- the number whose lowest n bits are set
pub ones_on : (n b : ℕ) → b < n → bit (2 ^ n - 1) b ≡ 1
ones_on n b h =
    let z : 2 ^ n - 1 ≡ (2 ^ n - 1) - 0 = omega arith in
    ap (λ (x : ℕ). bit x b) z ∙ bit-flip_in n 0 b (pow_pos n) h ∙ ap (λ (x : ℕ). 1 - x) (bit_of_zero b)

pub ones_off : (n b : ℕ) → n ≤ b → bit (2 ^ n - 1) b ≡ 0
ones_off n b h = bit_high n (2 ^ n - 1) b (omega (arith, pow_pos n)) h

-- ---- one bit
pub bit_pow_same : (b : ℕ) → bit (2 ^ b) b ≡ 1
unfolding bit
bit_pow_same b = ap (λ (x : ℕ). x % 2) (ap (λ (x : ℕ). x / 2 ^ b) (sym (one-mul (2 ^ b))) ∙ shl-shr 1 b)

pub bit_pow_other : (b j : ℕ) → j ≢ b → bit (2 ^ b) j ≡ 0
bit_pow_other zero zero h = absurd (h refl)
bit_pow_other zero (suc j) h = bit_suc 1 j ∙ bit_of_zero j
bit_pow_other (suc b) zero h = bit_zero (2 ^ suc b) ∙ omega arith
bit_pow_other (suc b) (suc j) h =
    bit_suc (2 ^ suc b) j
    ∙ ap (λ (x : ℕ). bit x j) (ap (λ (x : ℕ). x / 2) (pow-suc 2 b) ∙ mul-div_cancel (2 ^ b) (zero-lt-suc 1))
    ∙ bit_pow_other b j (λ e. h (ap suc e))

-- ---- numbers with the same bits are equal
pub bit_ext : (x y : ℕ) → ((b : ℕ) → bit x b ≡ bit y b) → x ≡ y
bit_ext x =
    bin_ind (λ (n : ℕ). (y : ℕ) → ((b : ℕ) → bit n b ≡ bit y b) → n ≡ y)
    (λ y h. zeros y (λ b. sym (h b) ∙ bit_of_zero b))
    (λ n ih y h.
    let e : n / 2 ≡ y / 2 = ih (y / 2) (λ b. sym (bit_suc n b) ∙ h (suc b) ∙ bit_suc y b) in
    let o : n % 2 ≡ y % 2 = sym (bit_zero n) ∙ h 0 ∙ bit_zero y in
    omega arith) x
  where
    zeros : (y : ℕ) → ((b : ℕ) → bit y b ≡ 0) → 0 ≡ y
    zeros =
        bin_ind (λ (n : ℕ). ((b : ℕ) → bit n b ≡ 0) → 0 ≡ n) (λ h. refl)
        (λ n ih h.
        let e : 0 ≡ n / 2 = ih (λ b. sym (bit_suc n b) ∙ h (suc b)) in
        let o : n % 2 ≡ 0 = sym (bit_zero n) ∙ h 0 in
        omega arith)

pub word_ext : (x y : ℕ) → x < 2 ^ 64 → y < 2 ^ 64 → ((b : ℕ) → b < 64 → bit x b ≡ bit y b) → x ≡ y
word_ext x y hx hy same = bit_ext x y (λ b. go b (dec_lt b 64))
  where
    go : (b : ℕ) → Dec (b < 64) → bit x b ≡ bit y b
    go b (yes h) = same b h
    go b (no h) = bit_high 64 x b hx (omega arith) ∙ sym (bit_high 64 y b hy (omega arith))

-- ---- the test `w & (1 << b)`
and_pow : (w b : ℕ) → bit_and w (2 ^ b) ≡ bit w b * 2 ^ b
and_pow w b = bit_ext (bit_and w (2 ^ b)) (bit w b * 2 ^ b) (λ j. bit-bit_and w (2 ^ b) j ∙ at (bit w b) refl j (ℕ_discrete j b))
  where
    at : (v : ℕ) → bit w b ≡ v → (j : ℕ) → Dec (j ≡ b) → min (bit w j) (bit (2 ^ b) j) ≡ bit (v * 2 ^ b) j
    at zero e j (yes p) =
        let z : bit w j ≡ 0 = ap (bit w) p ∙ e in
        let y : bit (0 * 2 ^ b) j ≡ 0 = ap (λ (x : ℕ). bit x j) (omega arith) ∙ bit_of_zero j in
        omega arith
    at zero e j (no n) =
        let z : bit (2 ^ b) j ≡ 0 = bit_pow_other b j n in
        let y : bit (0 * 2 ^ b) j ≡ 0 = ap (λ (x : ℕ). bit x j) (omega arith) ∙ bit_of_zero j in
        omega arith
    at (suc zero) e j (yes p) =
        let z : bit w j ≡ 1 = ap (bit w) p ∙ e in
        let y : bit (1 * 2 ^ b) j ≡ bit (2 ^ b) j = ap (λ (x : ℕ). bit x j) (omega arith) in
        omega (arith, bit_lt (2 ^ b) j)
    at (suc zero) e j (no n) =
        let z : bit (2 ^ b) j ≡ 0 = bit_pow_other b j n in
        let y : bit (1 * 2 ^ b) j ≡ bit (2 ^ b) j = ap (λ (x : ℕ). bit x j) (omega arith) in
        omega arith
    at (suc (suc v)) e j d = absurd (omega (arith, bit_lt w b))

pub test_on : (w b : ℕ) → bit_and w (2 ^ b) ≢ 0 → bit w b ≡ 1
test_on w b n = bit-on w b (λ e. n (and_pow w b ∙ omega (arith, ap (λ (x : ℕ). x * 2 ^ b) e)))

pub test_off : (w b : ℕ) → bit_and w (2 ^ b) ≡ 0 → bit w b ≡ 0
test_off w b h = bit_off w b (λ e. omega (arith, pow_pos b, sym (and_pow w b) ∙ h, ap (λ (x : ℕ). x * 2 ^ b) e))

-- ---- `w | 1 << b` sets bit b and no other
pub or_pow_same : (w b : ℕ) → bit (bit_or w (2 ^ b)) b ≡ 1
or_pow_same w b = bit-bit_or w (2 ^ b) b ∙ omega (arith, bit_lt w b, bit_pow_same b)

pub or_pow_other : (w b j : ℕ) → j ≢ b → bit (bit_or w (2 ^ b)) j ≡ bit w j
or_pow_other w b j h = bit-bit_or w (2 ^ b) j ∙ omega (arith, bit_pow_other b j h)

pub or_pow_some : (w b : ℕ) → bit_or w (2 ^ b) ≢ 0
or_pow_some w b e = omega (arith, bit_of_zero b, sym (ap (λ (x : ℕ). bit x b) e) ∙ or_pow_same w b)

-- ---- `w & !(1 << b)` clears bit b and no other
pub clear_same : (w b : ℕ) → b < 64 → bit (bit_and w (flip (2 ^ b))) b ≡ 0
clear_same w b h = bit-bit_and w (flip (2 ^ b)) b ∙ omega (arith, bit-flip (2 ^ b) b (pow-lt h) h, bit_pow_same b)

pub clear_other : (w b j : ℕ) → b < 64 → j < 64 → j ≢ b → bit (bit_and w (flip (2 ^ b))) j ≡ bit w j
clear_other w b j h g n =
    bit-bit_and w (flip (2 ^ b)) j
    ∙ omega (arith, bit-flip (2 ^ b) j (pow-lt h) g, bit_pow_other b j n, bit_lt w j)

-- a set bit is cleared by taking it away
module _ (w b : ℕ) (h : w < 2 ^ 64) (g : b < 64) (on : bit w b ≡ 1) where
  put_back : bit_or (bit_and w (flip (2 ^ b))) (2 ^ b) ≡ w
  put_back =
      word_ext (bit_or (bit_and w (flip (2 ^ b))) (2 ^ b)) w
      (or_lt 64 (bit_and w (flip (2 ^ b))) (2 ^ b) (omega (arith, and_le_l w (flip (2 ^ b)))) (pow-lt g)) h
      (λ j l. at j l (ℕ_discrete j b))
    where
      at : (j : ℕ) → j < 64 → Dec (j ≡ b) → bit (bit_or (bit_and w (flip (2 ^ b))) (2 ^ b)) j ≡ bit w j
      at j l (yes p) =
          ap (bit (bit_or (bit_and w (flip (2 ^ b))) (2 ^ b))) p
          ∙ or_pow_same (bit_and w (flip (2 ^ b))) b ∙ sym on ∙ ap (bit w) (sym p)
      at j l (no n) = or_pow_other (bit_and w (flip (2 ^ b))) b j n ∙ clear_other w b j g l n

  pub clear_minus : bit_and w (flip (2 ^ b)) ≡ w - 2 ^ b
  clear_minus =
      let c : ℕ = bit_and w (flip (2 ^ b)) in
      let apart : bit_and c (2 ^ b) ≡ 0 = and_pow c b ∙ omega (arith, ap (λ (x : ℕ). x * 2 ^ b) (clear_same w b g)) in
      omega (arith, sym (or_disjoint c (2 ^ b) apart) ∙ put_back)

  pub minus_same : bit (w - 2 ^ b) b ≡ 0
  minus_same = ap (λ (x : ℕ). bit x b) (sym clear_minus) ∙ clear_same w b g

  pub minus_other : (j : ℕ) → j < 64 → j ≢ b → bit (w - 2 ^ b) j ≡ bit w j
  minus_other j l n = ap (λ (x : ℕ). bit x j) (sym clear_minus) ∙ clear_other w b j g l n

-- ---- one bit set or cleared
module _ (on : Bool) (w b : ℕ) (h : b < 64) where
  pub change-same : bit (change on w b) b ≡ cond on 1 0
  unfolding change
  change-same = go on
    where
      go : (x : Bool) → bit (cond x (bit_or w (2 ^ b)) (bit_and w (flip (2 ^ b)))) b ≡ cond x 1 0
      go true = or_pow_same w b
      go false = clear_same w b h

  pub change_other : (j : ℕ) → j < 64 → j ≢ b → bit (change on w b) j ≡ bit w j
  unfolding change
  change_other j l n = go on
    where
      go : (x : Bool) → bit (cond x (bit_or w (2 ^ b)) (bit_and w (flip (2 ^ b)))) j ≡ bit w j
      go true = or_pow_other w b j n
      go false = clear_other w b j h l n

  pub change_lt : w < 2 ^ 64 → change on w b < 2 ^ 64
  unfolding change
  change_lt l = go on
    where
      go : (x : Bool) → cond x (bit_or w (2 ^ b)) (bit_and w (flip (2 ^ b))) < 2 ^ 64
      go true = or_lt 64 w (2 ^ b) l (pow-lt h)
      go false = omega (arith, and_le_l w (flip (2 ^ b)))

  -- the word stays as it is exactly where the bit is so already
  pub change_kept : w < 2 ^ 64 → bit w b ≡ cond on 1 0 → change on w b ≡ w
  change_kept l e = word_ext (change on w b) w (change_lt l) l (λ j g. at j g (ℕ_discrete j b))
    where
      at : (j : ℕ) → j < 64 → Dec (j ≡ b) → bit (change on w b) j ≡ bit w j
      at j g (yes q) = ap (bit (change on w b)) q ∙ change-same ∙ sym e ∙ sym (ap (bit w) q)
      at j g (no n) = change_other j g n

  pub kept_change : change on w b ≡ w → bit w b ≡ cond on 1 0
  kept_change e = sym (ap (λ (x : ℕ). bit x b) e) ∙ change-same

-- a word with a bit set in it is not 0
pub set_some : (w b : ℕ) → change true w b ≢ 0
unfolding change
set_some w b = or_pow_some w b

-- the code's test of a bit is the definition's
pub tested : (w b : ℕ) → not (eqb (bit_and w (2 ^ b)) 0) ≡ eqb (bit w b) 1
tested w b = go (ℕ_discrete (bit_and w (2 ^ b)) 0)
  where
    go : Dec (bit_and w (2 ^ b) ≡ 0) → not (eqb (bit_and w (2 ^ b)) 0) ≡ eqb (bit w b) 1
    go (yes e) = ap not (eq-eqb (bit_and w (2 ^ b)) 0 e) ∙ sym (ne_eqb (bit w b) 1 (λ x. omega (arith, test_off w b e)))
    go (no n) = ap not (ne_eqb (bit_and w (2 ^ b)) 0 n) ∙ sym (eq-eqb (bit w b) 1 (test_on w b n))

-- a word whose bits from n on are clear is below 2 ^ n
clear_below : (m n w : ℕ) → w < 2 ^ (n + m) → ((b : ℕ) → n ≤ b → b < n + m → bit w b ≡ 0) → w < 2 ^ n
unfolding bit
clear_below zero n w h c = subst (λ (x : ℕ). w < 2 ^ x) (add-zero n) h
clear_below (suc m) n w h c =
    let e : n + suc m ≡ suc (n + m) = omega arith in
    let l : w < 2 ^ (n + m) * 2 = subst (λ (x : ℕ). w < x) (ap (λ (x : ℕ). 2 ^ x) e ∙ pow-suc 2 (n + m)) h in
    let z : w / 2 ^ (n + m) % 2 ≡ 0 = c (n + m) (omega arith) (omega arith) in
    let t : w / 2 ^ (n + m) < 2 = (div-lt_iff_lt-mul (pow_pos (n + m))).1 (omega arith) in
    clear_below m n w (omega (arith, split w (n + m), mod-lt w (pow_pos (n + m)), ap (λ (x : ℕ). x * 2 ^ (n + m)) (small (w / 2 ^ (n + m)) t z)))
    (λ b i u. c b i (omega arith))
  where
    small : (x : ℕ) → x < 2 → x % 2 ≡ 0 → x ≡ 0
    small x l e = omega arith

pub bits_below : (n w : ℕ) → n ≤ 64 → w < 2 ^ 64 → ((b : ℕ) → n ≤ b → b < 64 → bit w b ≡ 0) → w < 2 ^ n
bits_below n w h l c =
    let e : 64 ≡ n + (64 - n) = omega arith in
    clear_below (64 - n) n w (subst (λ (x : ℕ). w < 2 ^ x) e l) (λ b i u. c b i (omega arith))
