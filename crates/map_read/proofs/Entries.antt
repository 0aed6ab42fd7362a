-- A table's entries one by one: what the definitions say of its bytes, and each turn of the loops over them.
use Rattle.std.proofs.Common.{◌≡◌, ◌≢◌, ℕ, zero, suc, ◌+◌, ◌*◌, ◌^◌, ◌≤◌, ◌<◌, Bool, true, false, cond, eqb, ◌&&◌, List, [], ◌∷◌, length, get_or, set, take, drop, refl, sym, ap, ap₂, ◌∙◌, arith, drop-cons, take-take, take_all, drop_of_length-le, eq-eqb, ne_eqb}
use Rattle.std.proofs.lemmas.List.{drop-take}
use Rattle.std.proofs.lemmas.List.Sums.{sum_by-cons, sum_by_more}
use Rattle.std.specs.Simd.{first_chunks}
use lib.Count.{ones, ones-le}
use Rattle.util.specs.Word.{count}
use Rattle.util.proofs.Count.{count_ones}
use Rattle.map_format.specs.Bytes.{num, num_at}
use Rattle.map_read.specs.Judge.{number_in, word_in, behind, entry_ok, good, total, fill_table}
use Rattle.map_read.specs.Steps.{all_good, ones_in_all, filled, entries_of}

-- ---- a table's first entry, and all of them

-- a number that stands in the front
pub num_front : (o n r : ℕ) (t : List ℕ) → n ≤ r → num_at o n (take (o + r) t) ≡ num_at o n t
num_front o n r t h = ap (λ (l : List ℕ). num (take n l)) (drop-take o r t) ∙ ap num (take-take n r (drop o t) h)

number_first : (t : List ℕ) → number_in (take 12 t) ≡ number_in t
number_first t = num_front 0 4 12 t (omega arith)

word_first : (t : List ℕ) → word_in (take 12 t) ≡ word_in t
word_first t = num_front 4 8 8 t (omega arith)

pub good_all : (N lo n : ℕ) (t : List ℕ) → good N lo n t ≡ all_good N lo (first_chunks 12 n t)
unfolding good all_good
good_all N lo zero t = refl
good_all N lo (suc n) t =
    ap (λ (b : Bool). entry_ok N lo (number_in t) (word_in t) && b) (good_all N (suc (number_in t)) n (behind t))
    ∙ ap₂ (λ (q w : ℕ). entry_ok N lo q w && all_good N (suc q) (first_chunks 12 n (behind t))) (sym (number_first t)) (sym (word_first t))

pub total_all : (n : ℕ) (t : List ℕ) → total n t ≡ ones_in_all (first_chunks 12 n t)
unfolding total
total_all zero t = refl
total_all (suc n) t =
    ap₂ (λ (x y : ℕ). count x + y) (sym (word_first t)) (total_all n (behind t))
    ∙ sym (sum_by-cons (λ e. count (word_in e)) (take 12 t) (first_chunks 12 n (behind t)))

pub fill_all : (ws : List ℕ) (n : ℕ) (t : List ℕ) → fill_table ws n t ≡ filled ws (first_chunks 12 n t)
unfolding fill_table
fill_all ws zero t = refl
fill_all ws (suc n) t =
    fill_all (set ws (number_in t) (word_in t)) n (behind t)
    ∙ ap₂ (λ (q w : ℕ). filled (set ws q w) (first_chunks 12 n (behind t))) (sym (number_first t)) (sym (word_first t))

pub length_chunks : (n k : ℕ) (t : List ℕ) → length (first_chunks n k t) ≡ k
length_chunks n zero t = refl
length_chunks n (suc k) t = ap suc (length_chunks n k (drop n t))

pub take_chunks : (n k j : ℕ) (t : List ℕ) → j ≤ k → take j (first_chunks n k t) ≡ first_chunks n j t
take_chunks n k zero t h = refl
take_chunks n zero (suc j) t h = absurd (omega arith)
take_chunks n (suc k) (suc j) t h = ap (λ (l : List (List ℕ)). take n t ∷ l) (take_chunks n k j (drop n t) (omega arith))

-- ---- the entries looked at

-- the first i of es are good and have s set bits; the numbers below lo are used up
pub record Judged (N : ℕ) (es : List (List ℕ)) (i lo s : ℕ) : Type 0 where
  pub rest : all_good N lo (drop i es) ≡ all_good N 0 es
  pub sum : s ≡ ones_in_all (take i es)
  pub small : s ≤ 64 * i

pub judged_start : {N : ℕ} {es : List (List ℕ)} → Judged N es 0 0 0
judged_start = record { rest = refl; sum = refl; small = omega arith }

module _ {N : ℕ} {es : List (List ℕ)} {i lo s : ℕ} (h : Judged N es i lo s) where
  module _ (l : i < length es) {q w : ℕ} (number : q ≡ number_in (get_or es i [])) (word : w ≡ word_in (get_or es i [])) where
    good_turn : all_good N lo (drop i es) ≡ (entry_ok N lo q w && all_good N (suc q) (drop (suc i) es))
    unfolding all_good
    good_turn =
        ap (all_good N lo) (drop-cons es i [] l)
        ∙ ap₂ (λ (x y : ℕ). entry_ok N lo x y && all_good N (suc x) (drop (suc i) es)) (sym number) (sym word)

    -- past a good entry
    pub judged_turn : w < 2 ^ 64 → entry_ok N lo q w ≡ true → Judged N es (i + 1) (q + 1) (s + ones w)
    judged_turn lw ok =
        let a : q + 1 ≡ suc q = omega arith in
        let b : i + 1 ≡ suc i = omega arith in
        record {
          rest =
              ap₂ (λ (x y : ℕ). all_good N x (drop y es)) a b
              ∙ sym (ap (λ (x : Bool). x && all_good N (suc q) (drop (suc i) es)) ok) ∙ sym good_turn ∙ h.rest;
          sum = omega (arith, h.sum, count_ones w lw, ap count word, sum_by_more (λ e. count (word_in e)) es i [] l);
          small = omega (arith, h.small, ones-le 64 w lw);
        }

    -- a bad entry
    pub judged_bad : entry_ok N lo q w ≡ false → all_good N 0 es ≡ false
    judged_bad bad = sym h.rest ∙ good_turn ∙ ap (λ (x : Bool). x && all_good N (suc q) (drop (suc i) es)) bad

  module _ (l : length es ≤ i) where
    pub judged_good : all_good N 0 es ≡ true
    unfolding all_good
    judged_good = sym h.rest ∙ ap (all_good N lo) (drop_of_length-le es {i = i} l)

    pub judged_sum : s ≡ ones_in_all es
    judged_sum = h.sum ∙ ap ones_in_all (take_all i es l)

-- ---- what is wrong with them

module _ (N m : ℕ) (es : List (List ℕ)) where
  pub entries_10 : all_good N 0 es ≡ false → entries_of N m es ≡ 10
  unfolding entries_of
  entries_10 g = rw g

  pub entries_11 : all_good N 0 es ≡ true → ones_in_all es ≢ m → entries_of N m es ≡ 11
  unfolding entries_of
  entries_11 g c = rw (g, ne_eqb (ones_in_all es) m c)

  pub entries_0 : all_good N 0 es ≡ true → ones_in_all es ≡ m → entries_of N m es ≡ 0
  unfolding entries_of
  entries_0 g c = rw (g, eq-eqb (ones_in_all es) m c)

  -- it is the number of a refusal
  pub entries_small : entries_of N m es ≤ 15
  unfolding entries_of
  entries_small = go (all_good N 0 es) (eqb (ones_in_all es) m)
    where
      go : (g c : Bool) → cond g (cond c 0 11) 10 ≤ 15
      go true true = omega arith
      go true false = omega arith
      go false c = omega arith
