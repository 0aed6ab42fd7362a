-- One word of a summary: the flags of 64 words, or of those that are left, gathered from the last down.
use Rattle.std.proofs.Common.{◌≡◌, Bool, true, false, not, cond, eqb, ℕ, zero, suc, ◌+◌, ◌-◌, ◌*◌, ◌/◌, ◌%◌, ◌^◌, ◌<◌, ◌≤◌, min, List, [], ◌∷◌, ◌++◌, length, take, drop, reverse, bit_or, refl, sym, ap, ap₂, subst, ◌∙◌, arith, length-drop, take_all, drop-drop, take-append-drop, pow-suc}
use Rattle.std.proofs.lemmas.List.{reverse-append}
use Rattle.std.proofs.lemmas.List.Sums.{fold-append}
use Rattle.std.proofs.lemmas.Nat.{or_shifted, pow-add}
use native.Mathlib.Decide.{dec_le}
use native.Mathlib.Nat.{mul-lt-mul_of_pos_right, mul_comm}
use Rattle.std.specs.List.{fold}
use Rattle.std.specs.Simd.{first_chunks}
use lib.ListN.{drop_of_length-le}
use lib.Pow.{pow_mono, pow_pos}
use lib.Seq.{length-take-le}
use mir.Val.{bool_byte}
use Rattle.store.specs.Build.{flag, flags}
use Rattle.store.proofs.Build.{flags_lt}

-- a comparison with 0 as a number
pub flag_byte : (w : ℕ) → bool_byte (not (eqb w 0)) ≡ flag w
flag_byte w = go (eqb w 0)
  where
    go : (b : Bool) → bool_byte (not b) ≡ cond b 0 1
    go true = refl
    go false = refl

-- the flags of a list behind another
flags-append : (xs ys : List ℕ) → flags (xs ++ ys) ≡ flags xs + 2 ^ length xs * flags ys
unfolding flags
flags-append [] ys = omega arith
flags-append (x ∷ xs) ys = omega (arith, flags-append xs ys, twice (flags ys) (2 ^ length xs) (2 ^ suc (length xs)) (pow-suc 2 (length xs)))
  where
    twice : (a p q : ℕ) → q ≡ p * 2 → q * a ≡ 2 * (p * a)
    twice zero p q e = omega arith
    twice (suc a) p q e = let ih = twice a p q e in omega arith

-- n flags in front of those gathered, as the code puts them
abbrev pub before : ℕ → ℕ → ℕ → ℕ
before n x f = bit_or ((x * 2 ^ n) % 2 ^ 64) f

before_is : (n : ℕ) (xs ys : List ℕ) → length xs ≡ n → n + length ys ≤ 64 → before n (flags ys) (flags xs) ≡ flags (xs ++ ys)
before_is n xs ys e h =
    let low : flags xs < 2 ^ n = subst (λ (k : ℕ). flags xs < 2 ^ k) e (flags_lt xs) in
    let wide : length ys + n ≤ 64 = omega arith in
    let room : flags ys * 2 ^ n < 2 ^ 64 =
    omega (arith, mul-lt-mul_of_pos_right {k = 2 ^ n} (flags_lt ys) (pow_pos n), pow-add 2 (length ys) n, pow_mono wide) in
    let whole : flags ys * 2 ^ n % 2 ^ 64 ≡ flags ys * 2 ^ n = omega (arith, room) in
    ap (λ (x : ℕ). bit_or x (flags xs)) whole
    ∙ or_shifted (flags ys) n (flags xs) low
    ∙ omega (arith, flags-append xs ys, mul_comm (flags ys) (2 ^ n), ap (λ (k : ℕ). 2 ^ k * flags ys) e)

-- one word a turn
abbrev pub by_one : ℕ → ℕ → ℕ
by_one x w = before 1 x (flag w)

pub gathered : (ws : List ℕ) → length ws ≤ 64 → fold by_one 0 (reverse ws) ≡ flags ws
unfolding flags
gathered [] h = refl
gathered (w ∷ ws) h =
    ap (fold by_one 0) (reverse-append (w ∷ []) ws)
    ∙ fold-append by_one 0 (reverse ws) (w ∷ [])
    ∙ ap (λ (x : ℕ). by_one x w) (gathered ws (omega arith))
    ∙ ap (before 1 (flags ws)) one
    ∙ before_is 1 (w ∷ []) ws refl (omega arith)
  where
    one : flag w ≡ flags (w ∷ [])
    one = omega arith

-- eight a turn
abbrev pub by_eight : ℕ → List ℕ → ℕ
by_eight x ws = before 8 x (flags ws)

pub gathered_by_eight : (k : ℕ) (ws : List ℕ) → 8 * k ≤ length ws → length ws ≤ 64
    → fold by_eight (flags (drop (k * 8) ws)) (reverse (first_chunks 8 k ws)) ≡ flags ws
gathered_by_eight zero ws h g = refl
gathered_by_eight (suc k) ws h g =
    let ih = gathered_by_eight k (drop 8 ws) (omega (arith, length-drop 8 ws)) (omega (arith, length-drop 8 ws)) in
    let e : suc k * 8 ≡ 8 + k * 8 = omega arith in
    let rest : flags (drop (suc k * 8) ws) ≡ flags (drop (k * 8) (drop 8 ws)) = ap flags (ap (λ (j : ℕ). drop j ws) e ∙ sym (drop-drop (k * 8) 8 ws)) in
    ap₂ (fold by_eight) rest (reverse-append (take 8 ws ∷ []) (first_chunks 8 k (drop 8 ws)))
    ∙ fold-append by_eight (flags (drop (k * 8) (drop 8 ws))) (reverse (first_chunks 8 k (drop 8 ws))) (take 8 ws ∷ [])
    ∙ ap (λ (x : ℕ). by_eight x (take 8 ws)) ih
    ∙ before_is 8 (take 8 ws) (drop 8 ws) (length-take-le 8 ws (omega arith)) (omega (arith, length-drop 8 ws))
    ∙ ap flags (take-append-drop 8 ws)

-- the words from a to e, which are 64 or those that are left
pub gathered_part : (p : List ℕ) (a e : ℕ) {m r : ℕ} {es : List (List ℕ)} {rest : List ℕ} → e ≡ min (length p) (a + 64) → a < length p
    → es ≡ first_chunks 8 (length (take (e - a) (drop a p)) / 8) (take (e - a) (drop a p))
    → rest ≡ drop (length (take (e - a) (drop a p)) / 8 * 8) (take (e - a) (drop a p))
    → m ≡ flags rest → r ≡ fold by_eight m (reverse es) → r ≡ flags (take 64 (drop a p))
gathered_part p a e {m} {r} {es} {rest} ends some es-is rest-is m-is r-is =
    let ws : List ℕ = take (e - a) (drop a p) in
    let long : length ws ≡ e - a = length-take-le (e - a) (drop a p) (omega (arith, length-drop a p)) in
    r-is
    ∙ ap₂ (λ (x : ℕ) (l : List (List ℕ)). fold by_eight x (reverse l)) (m-is ∙ ap flags rest-is) es-is
    ∙ gathered_by_eight (length ws / 8) ws (omega arith) (omega (arith, long))
    ∙ ap flags (all (dec_le (a + 64) (length p)))
  where
    all : Dec (a + 64 ≤ length p) → take (e - a) (drop a p) ≡ take 64 (drop a p)
    all (yes h) = let z : e - a ≡ 64 = omega arith in ap (λ (n : ℕ). take n (drop a p)) z
    all (no h) = take_all (e - a) (drop a p) (omega (arith, length-drop a p)) ∙ sym (take_all 64 (drop a p) (omega (arith, length-drop a p)))

-- none is left
pub gathered_past : (p : List ℕ) (a : ℕ) → length p ≤ a → 0 ≡ flags (take 64 (drop a p))
unfolding flags
gathered_past p a h = sym (ap (λ (l : List ℕ). flags (take 64 l)) (drop_of_length-le p h))
