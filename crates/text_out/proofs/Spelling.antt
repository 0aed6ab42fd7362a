-- The decimal spelling of a number: the fewest digits that hold it.
use mathlib.Core.List.{List, [], ◌∷◌, ◌++◌}
use mathlib.Core.Path.{◌≡◌, sym, ap, ◌∙◌}
use Prim.Native.Nat.{ℕ, zero, suc, ◌+◌, ◌-◌, ◌*◌, ◌/◌, ◌%◌, ◌^◌, ◌≤◌, ◌<◌}
use native.Mathlib.Decide.{dec_lt}
use native.Mathlib.Nat.{pow-suc, pow-le-pow_right, mod-eq_of_lt}
use native.Mathlib.Omega.{arith}
use borrow.Author.Tests.{lt-ltb, le-ltb}
use lib.Dec.{lit<}
use Rattle.io.specs.Digits.{last_digits, hex_digit_ascii, IsDigitCount}
use Rattle.text_out.specs.Out.{spelled}

module _ (n : ℕ) where
  one_digit : n < 10 → last_digits 10 1 n ≡ (48 + n) ∷ []
  one_digit h = simp (mod-eq_of_lt h, lt-ltb _ _ h)

  pub spelled-one : (d : ℕ) → n < 10 → spelled (suc d) n ≡ (48 + n) ∷ []
  unfolding spelled
  spelled-one d h = simp (lt-ltb _ _ h)

  pub spelled-more : (d : ℕ) → 10 ≤ n → spelled (suc d) n ≡ spelled d (n / 10) ++ ((48 + n % 10) ∷ [])
  unfolding spelled
  spelled-more d h = simp (le-ltb _ _ h)

  glyph_is : hex_digit_ascii (n % 10) ≡ 48 + n % 10
  glyph_is = let h : n % 10 < 10 = omega arith in simp (lt-ltb _ _ h)

-- a power's next one, and that a power above the first is at least ten
pub next_power : (k : ℕ) → 10 ^ suc k ≡ 10 ^ k * 10
next_power k = pow-suc 10 k

ten : (k : ℕ) → 0 < k → 10 ≤ 10 ^ k
ten k h = pow-le-pow_right (lit< tt) h

drop-one : (k : ℕ) → 10 ^ (suc k - 1) ≡ 10 ^ k
drop-one k = ap (λ (x : ℕ). 10 ^ x) (omega arith)

-- below ten it is one digit, and from ten on one digit more than the tenth
small : (d n k : ℕ) → n < 10 → IsDigitCount 10 1 n (suc k) → last_digits 10 (suc k) n ≡ spelled (suc d) n
small d n zero h few = one_digit n h ∙ sym (spelled-one n d h)
small d n (suc k) h few = absurd (omega (arith, few.2 (omega arith), drop-one (suc k), ten (suc k) (omega arith)))

fewer : (n k : ℕ) → 10 ≤ n → IsDigitCount 10 1 n (suc k) → IsDigitCount 10 1 (n / 10) k
fewer n zero h few = absurd (omega (arith, few.1))
fewer n (suc k) h few = (
  omega arith,
  omega (arith, few.1, next_power (suc k)),
  λ l. omega (arith, few.2 (omega arith), drop-one (suc k), drop-one k, next_power k),
)

-- what `io::decimal` spells is the spelling
pub spells : (d n k : ℕ) → n < 10 ^ suc d → IsDigitCount 10 1 n k → last_digits 10 k n ≡ spelled (suc d) n
spells d n zero fits few = absurd (omega (arith, few.0))
spells zero n (suc k) fits few = small zero n k (omega arith) few
spells (suc d) n (suc k) fits few = go (spells d (n / 10) k (omega (arith, next_power (suc d)))) (dec_lt n 10)
  where
    go : (IsDigitCount 10 1 (n / 10) k → last_digits 10 k (n / 10) ≡ spelled (suc d) (n / 10)) → Dec (n < 10)
        → last_digits 10 (suc k) n ≡ spelled (suc (suc d)) n
    go rest (yes l) = small (suc d) n k l few
    go rest (no l) =
        let h : 10 ≤ n = omega arith in
        ap (λ (x : List ℕ). x ++ (hex_digit_ascii (n % 10) ∷ [])) (rest (fewer n k h few))
        ∙ ap (λ (x : ℕ). spelled (suc d) (n / 10) ++ (x ∷ [])) (glyph_is n)
        ∙ sym (spelled-more n (suc d) h)
