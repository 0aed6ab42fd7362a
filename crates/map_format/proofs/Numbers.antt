-- Little-endian numbers: to bytes and back, as std has them, at a place, and written over a list.
use Rattle.std.proofs.Common.{◌≡◌, ℕ, zero, suc, ◌+◌, ◌*◌, ◌/◌, ◌%◌, ◌^◌, ◌≤◌, ◌<◌, List, [], ◌∷◌, ◌++◌, length, get_or, set, take, drop, sym, refl, ap, ap₂, ◌∙◌, arith, w32, w64, pow-add, length-drop, length-take-le, drop_of_length-le, drop_at, take_at, get_or-take, get_or-drop}
use Rattle.std.proofs.Math.ListN.{get_or-eq_default}
use Rattle.std.proofs.Math.Seq.{sets}
use Rattle.std.specs.Int.{to_le_bytes, from_le_bytes}
use native.Mathlib.Decide.{dec_lt}
use native.Mathlib.Nat.{div-div-eq-div-mul}
use Rattle.map_format.specs.Bytes.{le, num, num_at, Bytes}

pub length-le : (n x : ℕ) → length (le n x) ≡ n
unfolding le
length-le zero x = refl
length-le (suc n) x = ap suc (length-le n (x / 256))

-- ---- to bytes and back

pow_byte : (m : ℕ) → 2 ^ (8 * suc m) ≡ 2 ^ (8 * m) * 256
pow_byte m = let e : 8 * suc m ≡ 8 * m + 8 = omega arith in ap (λ (k : ℕ). 2 ^ k) e ∙ pow-add 2 (8 * m) 8

num-le : (n x : ℕ) → x < 2 ^ (8 * n) → num (le n x) ≡ x
unfolding le num
num-le zero x h = omega arith
num-le (suc n) x h =
    let ih = num-le n (x / 256) (omega (arith, pow_byte n)) in
    omega arith

le-num : (s : List ℕ) → ((i : ℕ) → get_or s i 0 < 256) → le (length s) (num s) ≡ s
unfolding le num
le-num [] h = refl
le-num (b ∷ s) h =
    let k : b < 256 = h 0 in
    let d : (b + 256 * num s) / 256 ≡ num s = omega arith in
    let m : (b + 256 * num s) % 256 ≡ b = omega arith in
    ap₂ ◌∷◌ m (ap (le (length s)) d ∙ le-num s (λ i. h (suc i)))

-- ---- as std has them

pub bytes_4 : (x : ℕ) → to_le_bytes w32 x ≡ le 4 x
unfolding le
bytes_4 x = sym (simp div-div-eq-div-mul)

pub bytes_8 : (x : ℕ) → to_le_bytes w64 x ≡ le 8 x
unfolding le
bytes_8 x = sym (simp div-div-eq-div-mul)

num_from : (bs : List ℕ) (k : ℕ) → num (drop k bs) ≡ get_or bs k 0 + 256 * num (drop (suc k) bs)
unfolding num
num_from [] zero = omega arith
num_from [] (suc k) = omega arith
num_from (b ∷ bs) zero = refl
num_from (b ∷ bs) (suc k) = num_from bs k

module _ (bs : List ℕ) where
  pub number_4 : length bs ≡ 4 → from_le_bytes w32 bs ≡ num bs
  unfolding num
  number_4 l = omega (arith, num_from bs 0, num_from bs 1, num_from bs 2, num_from bs 3, ap num (drop_of_length-le bs {i = 4} (omega arith)))

  pub number_8 : length bs ≡ 8 → from_le_bytes w64 bs ≡ num bs
  unfolding num
  number_8 l =
      omega (
        arith,
        num_from bs 0,
        num_from bs 1,
        num_from bs 2,
        num_from bs 3,
        num_from bs 4,
        num_from bs 5,
        num_from bs 6,
        num_from bs 7,
        ap num (drop_of_length-le bs {i = 8} (omega arith)),
      )

-- ---- at a place

-- a number written after p is read there
pub num_at_lem : (p r : List ℕ) (o n x : ℕ) → length p ≡ o → x < 2 ^ (8 * n) → num_at o n (p ++ (le n x ++ r)) ≡ x
num_at_lem p r o n x e h =
    ap (λ (l : List ℕ). num (take n l)) (drop_at p (le n x ++ r) o e) ∙ ap num (take_at (le n x) r n (length-le n x)) ∙ num-le n x h

-- the bytes of a number that is read at a place are those that stand there
pub bytes_at : (t : List ℕ) (o n : ℕ) → Bytes t → o + n ≤ length t → le n (num_at o n t) ≡ take n (drop o t)
bytes_at t o n h g = ap (λ (k : ℕ). le k (num_at o n t)) (sym long) ∙ le-num (take n (drop o t)) small
  where
    long : length (take n (drop o t)) ≡ n
    long = length-take-le n (drop o t) (omega (arith, length-drop o t))

    small : (i : ℕ) → get_or (take n (drop o t)) i 0 < 256
    small i = go (dec_lt i n)
      where
        go : Dec (i < n) → get_or (take n (drop o t)) i 0 < 256
        go (yes q) = rw (get_or-take n (drop o t) i 0 q, get_or-drop o t i 0) (h (o + i))
        go (no q) = rw (get_or-eq_default (take n (drop o t)) 0 {n = i} (omega (arith, long))) (omega arith)

-- ---- written over a list, in two parts

pub sets_append : (l : List ℕ) (i : ℕ) (xs ys : List ℕ) → sets l i (xs ++ ys) ≡ sets (sets l i xs) (i + length xs) ys
sets_append l i [] ys = ap (λ (k : ℕ). sets l k ys) (omega arith)
sets_append l i (x ∷ xs) ys =
    sets_append (set l i x) (suc i) xs ys ∙ ap (λ (k : ℕ). sets (sets (set l i x) (suc i) xs) k ys) (omega arith)
