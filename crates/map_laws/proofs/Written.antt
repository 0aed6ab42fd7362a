-- The map of words with no bit at or past N is accepted, and its table gives those words.
use Rattle.std.proofs.Common.{Bool, true, ◌&&◌, List, [], ◌∷◌, ◌++◌, append_assoc, ◌≢◌, ◌≡◌, refl, sym, ap, ap₂, ◌∙◌, subst, ℕ, zero, suc, ◌+◌, ◌*◌, ◌^◌, ◌≤◌, ◌<◌, arith, le-leb, eq-eqb, ne_eqb, length, get_or, set, drop, replicate, length-append, pow_mono, drop_at}
use native.Mathlib.Decide.{ℕ_discrete}
use lib.Count.{ones_in}
use lib.Seq.{set_at}
use Rattle.util.specs.Word.{count}
use Rattle.store.specs.Build.{room0}
use Rattle.store.specs.Layout.{max_cap, is_cap, words, room, layer_len}
use Rattle.store.proofs.Build.{flag_zero, flag_one}
use Rattle.map_format.specs.Bytes.{le, num_at}
use Rattle.map_format.proofs.Numbers.{length-le, num_at_lem}
use Rattle.map_write.specs.Map.{count_all, used, entries, head_of, map_of}
use Rattle.map_write.proofs.Bytes.{length-head, length-map, used_le, count-le}
use Rattle.map_read.specs.Judge.{cap_in, count_in, used_in, offset_in, table_in, number_in, word_in, behind, entry_ok, good, total, fill_table, map_words}
use Rattle.map_read.proofs.Right.{is_entry, MapTaken}

-- ---- a table whose first entry is that of word q, which is not zero

module _ (q w : ℕ) (ws r : List ℕ) (n : w ≢ 0) (hq : q < 2 ^ 32) (hw : w < 2 ^ 64) where
  front_is : entries q (w ∷ ws) ++ r ≡ le 4 q ++ (le 8 w ++ (entries (suc q) ws ++ r))
  unfolding entries
  front_is = rw (ne_eqb w 0 n) (append_assoc (le 4 q ++ le 8 w) (entries (suc q) ws) r ∙ append_assoc (le 4 q) (le 8 w) (entries (suc q) ws ++ r))

  front_number : number_in (entries q (w ∷ ws) ++ r) ≡ q
  front_number = ap (num_at 0 4) front_is ∙ num_at_lem [] (le 8 w ++ (entries (suc q) ws ++ r)) 0 4 q refl hq

  front_word : word_in (entries q (w ∷ ws) ++ r) ≡ w
  front_word = ap (num_at 4 8) front_is ∙ num_at_lem (le 4 q) (entries (suc q) ws ++ r) 4 8 w (length-le 4 q) hw

  front_rest : behind (entries q (w ∷ ws) ++ r) ≡ entries (suc q) ws ++ r
  front_rest =
      ap (drop 12) (front_is ∙ sym (append_assoc (le 4 q) (le 8 w) (entries (suc q) ws ++ r)))
      ∙ drop_at (le 4 q ++ le 8 w) (entries (suc q) ws ++ r) 12 (omega (arith, length-append (le 4 q) (le 8 w), length-le 4 q, length-le 8 w))

-- a zero word has no entry
skip_is : (q : ℕ) (ws r : List ℕ) (w : ℕ) → w ≡ 0 → entries q (w ∷ ws) ++ r ≡ entries (suc q) ws ++ r
unfolding entries
skip_is q ws r w e = rw (eq-eqb w 0 e)

used_skip : (w : ℕ) (ws : List ℕ) → w ≡ 0 → used (w ∷ ws) ≡ used ws
unfolding used
used_skip w ws e = omega (arith, flag_zero w e)

used-more : (w : ℕ) (ws : List ℕ) → w ≢ 0 → used (w ∷ ws) ≡ suc (used ws)
unfolding used
used-more w ws n = omega (arith, flag_one w n)

ones_zero : (d : ℕ) → ones_in d 0 ≡ 0
unfolding ones_in
ones_zero zero = refl
ones_zero (suc d) = omega (arith, ones_zero d)

pub count_zero : count 0 ≡ 0
unfolding count
count_zero = ones_zero 64

-- ---- the table of the words from number q on: it is good, has their bits, and puts them at their places

-- the words from number q on have no bit at or past N
abbrev pub LowNumbers : ℕ → ℕ → List ℕ → Type 0
LowNumbers N q ws = (i : ℕ) → get_or ws i 0 < 2 ^ room0 N (q + i)

low_tail : (N q w : ℕ) (ws : List ℕ) → LowNumbers N q (w ∷ ws) → LowNumbers N (suc q) ws
low_tail N q w ws h i = let e : q + suc i ≡ suc q + i = omega arith in subst (λ (k : ℕ). get_or ws i 0 < 2 ^ room0 N k) e (h (suc i))

low_head : (N q w : ℕ) (ws : List ℕ) → LowNumbers N q (w ∷ ws) → w < 2 ^ room0 N q
low_head N q w ws h = let e : q + 0 ≡ q = omega arith in subst (λ (k : ℕ). w < 2 ^ room0 N k) e (h 0)

word_fits : (N q w : ℕ) → w < 2 ^ room0 N q → w < 2 ^ 64
word_fits N q w h = let l : room0 N q ≤ 64 = omega arith in omega (arith, pow_mono l)

module _ (N : ℕ) (most : N ≤ max_cap) (r : List ℕ) where
  number_fits : (q : ℕ) (ws : List ℕ) → q + suc (length ws) ≡ layer_len N 0 → q < 2 ^ 32
  unfolding room
  number_fits q ws b = omega (arith, most)

  good-entries : (ws : List ℕ) (q lo : ℕ) → lo ≤ q → q + length ws ≡ layer_len N 0 → LowNumbers N q ws → good N lo (used ws) (entries q ws ++ r) ≡ true
  unfolding good used entries
  good-entries [] q lo a b h = refl
  good-entries (w ∷ ws) q lo a b h = go (λ lo' l. good-entries ws (suc q) lo' l (omega arith) (low_tail N q w ws h)) (ℕ_discrete w 0)
    where
      low : w < 2 ^ room0 N q
      low = low_head N q w ws h

      go : ((lo' : ℕ) → lo' ≤ suc q → good N lo' (used ws) (entries (suc q) ws ++ r) ≡ true) → Dec (w ≡ 0)
          → good N lo (used (w ∷ ws)) (entries q (w ∷ ws) ++ r) ≡ true
      go rest (yes e) = ap₂ (good N lo) (used_skip w ws e) (skip_is q ws r w e) ∙ rest lo (omega arith)
      go rest (no n) =
          let hq = number_fits q ws b in
          let hw = word_fits N q w low in
          ap (λ (k : ℕ). good N lo k (entries q (w ∷ ws) ++ r)) (used-more w ws n)
          ∙ ap₂ (λ (x y : ℕ). entry_ok N lo x y && good N (suc x) (used ws) (behind (entries q (w ∷ ws) ++ r)))
          (front_number q w ws r n hq hw) (front_word q w ws r n hq hw)
          ∙ ap₂ (λ (x : Bool) (l : List ℕ). x && good N (suc q) (used ws) l)
          (is_entry (record { rising = a; below = omega arith; some = omega arith; fits = low })) (front_rest q w ws r n hq hw)
          ∙ rest (suc q) (omega arith)

  total-entries : (ws : List ℕ) (q : ℕ) → q + length ws ≡ layer_len N 0 → LowNumbers N q ws → total (used ws) (entries q ws ++ r) ≡ count_all ws
  unfolding total used entries count_all
  total-entries [] q b h = refl
  total-entries (w ∷ ws) q b h = go (total-entries ws (suc q) (omega arith) (low_tail N q w ws h)) (ℕ_discrete w 0)
    where
      go : total (used ws) (entries (suc q) ws ++ r) ≡ count_all ws → Dec (w ≡ 0)
          → total (used (w ∷ ws)) (entries q (w ∷ ws) ++ r) ≡ count w + count_all ws
      go rest (yes e) = ap₂ total (used_skip w ws e) (skip_is q ws r w e) ∙ rest ∙ omega (arith, ap count e, count_zero)
      go rest (no n) =
          let hq = number_fits q ws b in
          let hw = word_fits N q w (low_head N q w ws h) in
          ap (λ (k : ℕ). total k (entries q (w ∷ ws) ++ r)) (used-more w ws n)
          ∙ ap₂ (λ (x : ℕ) (l : List ℕ). count x + total (used ws) l) (front_word q w ws r n hq hw) (front_rest q w ws r n hq hw)
          ∙ ap (λ (x : ℕ). count w + x) rest

  fill_entries : (ws p : List ℕ) (q : ℕ) → length p ≡ q → q + length ws ≡ layer_len N 0 → LowNumbers N q ws
      → fill_table (p ++ replicate (length ws) 0) (used ws) (entries q ws ++ r) ≡ p ++ ws
  unfolding fill_table used entries
  fill_entries [] p q l b h = refl
  fill_entries (w ∷ ws) p q l b h = go (λ x. fill_entries ws (p ++ (x ∷ [])) (suc q) (long x) (omega arith) (low_tail N q w ws h)) (ℕ_discrete w 0)
    where
      snoc : (x : ℕ) (ys : List ℕ) → p ++ (x ∷ ys) ≡ p ++ (x ∷ []) ++ ys
      snoc x ys = sym (append_assoc p (x ∷ []) ys)

      long : (x : ℕ) → length (p ++ (x ∷ [])) ≡ suc q
      long x = length-append p (x ∷ []) ∙ omega arith

      go : ((x : ℕ) → fill_table (p ++ (x ∷ []) ++ replicate (length ws) 0) (used ws) (entries (suc q) ws ++ r) ≡ p ++ (x ∷ []) ++ ws) → Dec (w ≡ 0)
          → fill_table (p ++ (0 ∷ replicate (length ws) 0)) (used (w ∷ ws)) (entries q (w ∷ ws) ++ r) ≡ p ++ (w ∷ ws)
      go rest (yes e) =
          ap₂ (fill_table (p ++ (0 ∷ replicate (length ws) 0))) (used_skip w ws e) (skip_is q ws r w e)
          ∙ ap (λ (x : List ℕ). fill_table x (used ws) (entries (suc q) ws ++ r)) (snoc 0 (replicate (length ws) 0))
          ∙ rest 0
          ∙ sym (snoc 0 ws) ∙ ap (λ (x : ℕ). p ++ (x ∷ ws)) (sym e)
      go rest (no n) =
          let hq = number_fits q ws b in
          let hw = word_fits N q w (low_head N q w ws h) in
          ap (λ (k : ℕ). fill_table (p ++ (0 ∷ replicate (length ws) 0)) k (entries q (w ∷ ws) ++ r)) (used-more w ws n)
          ∙ ap₂ (λ (x y : ℕ). fill_table (set (p ++ (0 ∷ replicate (length ws) 0)) x y) (used ws) (behind (entries q (w ∷ ws) ++ r)))
          (front_number q w ws r n hq hw) (front_word q w ws r n hq hw)
          ∙ ap₂ (λ (x l : List ℕ). fill_table x (used ws) l) (set_at p 0 (replicate (length ws) 0) w q l ∙ snoc w (replicate (length ws) 0))
          (front_rest q w ws r n hq hw)
          ∙ rest w
          ∙ sym (snoc w ws)

-- ---- the whole map, with any bytes behind it

module _ (N : ℕ) (ws : List ℕ) (some : 1 ≤ N) (most : N ≤ max_cap) (long : length ws ≡ layer_len N 0) (low : LowNumbers N 0 ws) (r : List ℕ) where
  few : length ws ≤ words max_cap
  unfolding room
  few = omega (arith, long, most)

  at_0 : cap_in (map_of N ws ++ r) ≡ N
  unfolding map_of
  at_0 =
      ap (num_at 0 4)
      (let e : map_of N ws ++ r ≡ le 4 N ++ (le 4 (count_all ws) ++ (le 4 (used ws) ++ (le 4 16 ++ (entries 0 ws ++ r)))) = simp append_assoc in e)
      ∙ num_at_lem [] (le 4 (count_all ws) ++ (le 4 (used ws) ++ (le 4 16 ++ (entries 0 ws ++ r)))) 0 4 N refl (omega arith)

  at_4 : count_in (map_of N ws ++ r) ≡ count_all ws
  unfolding map_of
  at_4 =
      ap (num_at 4 4)
      (let e : map_of N ws ++ r ≡ le 4 N ++ (le 4 (count_all ws) ++ (le 4 (used ws) ++ (le 4 16 ++ (entries 0 ws ++ r)))) = simp append_assoc in e)
      ∙ num_at_lem (le 4 N) (le 4 (used ws) ++ (le 4 16 ++ (entries 0 ws ++ r))) 4 4 (count_all ws) (length-le 4 N) (omega (arith, count-le ws, few))

  at_8 : used_in (map_of N ws ++ r) ≡ used ws
  unfolding map_of
  at_8 =
      ap (num_at 8 4)
      (let e : map_of N ws ++ r ≡ (le 4 N ++ le 4 (count_all ws)) ++ (le 4 (used ws) ++ (le 4 16 ++ (entries 0 ws ++ r))) = simp append_assoc in e)
      ∙ num_at_lem (le 4 N ++ le 4 (count_all ws)) (le 4 16 ++ (entries 0 ws ++ r)) 8 4 (used ws)
      (omega (arith, length-append (le 4 N) (le 4 (count_all ws)), length-le 4 N, length-le 4 (count_all ws))) (omega (arith, used_le ws, few))

  at_12 : offset_in (map_of N ws ++ r) ≡ 16
  unfolding map_of
  at_12 =
      ap (num_at 12 4)
      (let e : map_of N ws ++ r ≡ (le 4 N ++ (le 4 (count_all ws) ++ le 4 (used ws))) ++ (le 4 16 ++ (entries 0 ws ++ r)) = simp append_assoc in e)
      ∙ num_at_lem (le 4 N ++ (le 4 (count_all ws) ++ le 4 (used ws))) (entries 0 ws ++ r) 12 4 16
      (omega (
        arith,
        length-append (le 4 N) (le 4 (count_all ws) ++ le 4 (used ws)),
        length-append (le 4 (count_all ws)) (le 4 (used ws)),
        length-le 4 N,
        length-le 4 (count_all ws),
        length-le 4 (used ws),
      ))
      (omega arith)

  at_16 : table_in (map_of N ws ++ r) ≡ entries 0 ws ++ r
  unfolding map_of
  at_16 =
      ap (drop 16) (append_assoc (head_of N (count_all ws) (used ws)) (entries 0 ws) r)
      ∙ drop_at (head_of N (count_all ws) (used ws)) (entries 0 ws ++ r) 16 (length-head N (count_all ws) (used ws))

  capacity : is_cap (cap_in (map_of N ws ++ r)) ≡ true
  unfolding is_cap
  capacity = rw (at_0, le-leb 1 N some, le-leb N max_cap most)

  pub map_accepted : MapTaken (map_of N ws ++ r) N
  map_accepted =
      let l : length (map_of N ws ++ r) ≡ 16 + 12 * used ws + length r = length-append (map_of N ws) r ∙ omega (arith, length-map N ws) in
      record {
        head =
            record {
              long = omega arith;
              capacity = capacity;
              offset = at_12;
              few = rw (at_0, at_8, ← long) (used_le ws);
              table = omega (arith, at_8);
            };
        same = at_0;
        all-good = ap₂ (good N 0) at_8 at_16 ∙ good-entries N most r ws 0 0 (omega arith) (omega (arith, long)) low;
        counts = ap₂ total at_8 at_16 ∙ total-entries N most r ws 0 (omega (arith, long)) low ∙ sym at_4;
      }

  pub map-words : map_words N (map_of N ws ++ r) ≡ ws
  unfolding map_words
  map-words =
      ap₂ (λ (k : ℕ) (t : List ℕ). fill_table (replicate (layer_len N 0) 0) k t) at_8 at_16
      ∙ ap (λ (k : ℕ). fill_table (replicate k 0) (used ws) (entries 0 ws ++ r)) (sym long)
      ∙ fill_entries N most r ws [] 0 refl (omega (arith, long)) low
