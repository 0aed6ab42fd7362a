-- The words of an accepted map: no bit at or past N, and their map is the bytes that were read.
use Rattle.std.proofs.Common.{true, List, [], ◌∷◌, ◌++◌, append_assoc, append-nil, ◌≢◌, ◌≡◌, refl, sym, ap, ap₂, ◌∙◌, subst, ℕ, zero, suc, ◌+◌, ◌-◌, ◌*◌, ◌^◌, ◌≤◌, ◌<◌, arith, ne_eqb, length, get_or, set, take, drop, replicate, length-append, length-set, length-drop, pow_pos, take-add, get_or-drop, get_or-set_same, get_or-set_other}
use native.Mathlib.Decide.{dec_lt, ℕ_discrete}
use lib.ListN.{length-replicate, replicate-append-replicate, get_or-replicate, get_or-eq_default}
use lib.Seq.{set_at}
use Rattle.util.specs.Word.{count}
use Rattle.util.proofs.Same.{both}
use Rattle.store.specs.Build.{room0, Kept}
use Rattle.store.specs.Layout.{layer_len}
use Rattle.store.proofs.Build.{flag_one}
use Rattle.map_format.specs.Bytes.{le, Bytes}
use Rattle.map_format.proofs.Numbers.{bytes_at}
use Rattle.map_write.specs.Map.{count_all, used, entry_of, entries, head_of, map_of}
use Rattle.map_write.proofs.Bytes.{entries-append, used-append, count-append}
use Rattle.map_read.specs.Judge.{count_in, used_in, offset_in, table_in, number_in, word_in, behind, entry_ok, good, total, fill_table, map_words}
use Rattle.map_read.proofs.Right.{EntryIs, entry_is, MapTaken}
use Rattle.map_laws.proofs.Written.{count_zero}

-- ---- entries and counts of zeros

entries-zeros : (q n : ℕ) → entries q (replicate n 0) ≡ []
unfolding entries
entries-zeros q zero = refl
entries-zeros q (suc n) = entries-zeros (suc q) n

used-zeros : (n : ℕ) → used (replicate n 0) ≡ 0
unfolding used
used-zeros zero = refl
used-zeros (suc n) = omega (arith, used-zeros n)

count_zeros : (n : ℕ) → count_all (replicate n 0) ≡ 0
unfolding count_all
count_zeros zero = refl
count_zeros (suc n) = omega (arith, count_zeros n, count_zero)

-- a word put into the zeros behind p
put_in : (p : List ℕ) (d r w : ℕ) → set (p ++ replicate (d + suc r) 0) (length p + d) w ≡ (p ++ replicate d 0) ++ (w ∷ []) ++ replicate r 0
put_in p d r w =
    ap (λ (l : List ℕ). set l (length p + d) w)
    (ap (λ (l : List ℕ). p ++ l) (sym (replicate-append-replicate d (suc r) 0)) ∙ sym (append_assoc p (replicate d 0) (0 ∷ replicate r 0)))
    ∙ set_at (p ++ replicate d 0) 0 (replicate r 0) w (length p + d) (length-append p (replicate d 0) ∙ omega (arith, length-replicate {A = ℕ} d 0))
    ∙ sym (append_assoc (p ++ replicate d 0) (w ∷ []) (replicate r 0))

-- ---- what the n entries of t make of words that are p and then zeros

record Made (p : List ℕ) (n : ℕ) (t x : List ℕ) : Type 0 where
  bytes : entries 0 x ≡ entries 0 p ++ take (12 * n) t
  words : used x ≡ used p + n
  ones : count_all x ≡ count_all p + total n t

-- the zeros up to the number of t's first entry, and p with them and the entry's word behind it
abbrev gap : List ℕ → List ℕ → ℕ
gap p t = number_in t - length p

unfoldable upto : List ℕ → List ℕ → List ℕ
upto p t = (p ++ replicate (gap p t) 0) ++ (word_in t ∷ [])

module _ (N n : ℕ) (p t : List ℕ) (r : ℕ) (b : length p + r ≡ layer_len N 0) (l : 12 * suc n ≤ length t) (h : Bytes t)
    (e : EntryIs N (length p) (number_in t) (word_in t)) where
  length-zeros : length (p ++ replicate (gap p t) 0) ≡ number_in t
  length-zeros = length-append p (replicate (gap p t) 0) ∙ omega (arith, length-replicate {A = ℕ} (gap p t) 0, e.rising)

  length_upto : length (upto p t) ≡ suc (number_in t)
  unfolding upto
  length_upto = length-append (p ++ replicate (gap p t) 0) (word_in t ∷ []) ∙ omega (arith, length-zeros)

  set_is : set (p ++ replicate r 0) (number_in t) (word_in t) ≡ (upto p t) ++ replicate (r - suc (gap p t)) 0
  unfolding upto
  set_is =
      let er : r ≡ (gap p t) + suc (r - suc (gap p t)) = omega (arith, e.rising, e.below) in
      let eq : number_in t ≡ length p + (gap p t) = omega (arith, e.rising) in
      ap₂ (λ (x y : ℕ). set (p ++ replicate x 0) y (word_in t)) er eq ∙ put_in p (gap p t) (r - suc (gap p t)) (word_in t)

  entry_bytes : entry_of (number_in t) (word_in t) ≡ take 12 t
  entry_bytes =
      let n : word_in t ≢ 0 = λ z. omega (arith, e.some) in
      rw (ne_eqb (word_in t) 0 n) (ap₂ ◌++◌ (bytes_at t 0 4 h (omega arith)) (bytes_at t 4 8 h (omega arith)) ∙ sym (take-add 4 8 t))

  entries_upto : entries 0 (upto p t) ≡ entries 0 p ++ take 12 t
  unfolding upto entries
  entries_upto =
      entries-append 0 (p ++ replicate (gap p t) 0) (word_in t ∷ [])
      ∙ ap₂ (λ (x : List ℕ) (k : ℕ). x ++ (entry_of k (word_in t) ++ []))
      (entries-append 0 p (replicate (gap p t) 0) ∙ ap (λ (x : List ℕ). entries 0 p ++ x) (entries-zeros (0 + length p) (gap p t)) ∙ append-nil (entries 0 p))
      (omega (arith, length-zeros))
      ∙ ap (λ (x : List ℕ). entries 0 p ++ x) (append-nil (entry_of (number_in t) (word_in t)) ∙ entry_bytes)

  used_upto : used (upto p t) ≡ used p + 1
  unfolding upto used
  used_upto =
      used-append (p ++ replicate (gap p t) 0) (word_in t ∷ [])
      ∙ omega (arith, used-append p (replicate (gap p t) 0), used-zeros (gap p t), flag_one (word_in t) (λ z. omega (arith, e.some)))

  count_upto : count_all (upto p t) ≡ count_all p + count (word_in t)
  unfolding upto count_all
  count_upto = count-append (p ++ replicate (gap p t) 0) (word_in t ∷ []) ∙ omega (arith, count-append p (replicate (gap p t) 0), count_zeros (gap p t))

  step : Made (upto p t) n (behind t) (fill_table ((upto p t) ++ replicate (r - suc (gap p t)) 0) n (behind t)) → Made p (suc n) t (fill_table (p ++ replicate r 0) (suc n) t)
  unfolding fill_table total
  step z =
      let x : fill_table (set (p ++ replicate r 0) (number_in t) (word_in t)) n (behind t) ≡ fill_table ((upto p t) ++ replicate (r - suc (gap p t)) 0) n (behind t) =
      ap (λ (y : List ℕ). fill_table y n (behind t)) set_is in
      let k : 12 + 12 * n ≡ 12 * suc n = omega arith in
      record {
        bytes =
            ap (entries 0) x ∙ z.bytes ∙ ap (λ (y : List ℕ). y ++ take (12 * n) (behind t)) entries_upto
            ∙ append_assoc (entries 0 p) (take 12 t) (take (12 * n) (behind t))
            ∙ ap (λ (y : List ℕ). entries 0 p ++ y) (sym (take-add 12 (12 * n) t) ∙ ap (λ (m : ℕ). take m t) k);
        words = ap used x ∙ omega (arith, z.words, used_upto);
        ones = ap count_all x ∙ omega (arith, z.ones, count_upto);
      }

made : (N n : ℕ) (p t : List ℕ) (r : ℕ) → length p + r ≡ layer_len N 0 → 12 * n ≤ length t → Bytes t
    → good N (length p) n t ≡ true → Made p n t (fill_table (p ++ replicate r 0) n t)
unfolding fill_table total good
made N zero p t r b l h g =
    record {
      bytes =
          entries-append 0 p (replicate r 0) ∙ ap (λ (x : List ℕ). entries 0 p ++ x) (entries-zeros (0 + length p) r)
          ∙ ap (λ (k : ℕ). entries 0 p ++ take k t) (let e : 0 ≡ 12 * 0 = omega arith in e);
      words = used-append p (replicate r 0) ∙ omega (arith, used-zeros r);
      ones = count-append p (replicate r 0) ∙ omega (arith, count_zeros r);
    }
made N (suc n) p t r b l h g =
    let k = both (entry_ok N (length p) (number_in t) (word_in t)) (good N (suc (number_in t)) n (behind t)) g in
    let e : EntryIs N (length p) (number_in t) (word_in t) = entry_is k.0 in
    let lp = length_upto N n p t r b l h e in
    step N n p t r b l h e
    (made N n (upto p t) (behind t) (r - suc (gap p t))
    (omega (arith, e.rising, e.below, lp)) (omega (arith, length-drop 12 t)) (λ i. rw (get_or-drop 12 t i 0) (h (12 + i)))
    (ap (λ (x : ℕ). good N x n (behind t)) lp ∙ k.1))

-- no bit at or past N
low_fill : (N n lo : ℕ) (ws t : List ℕ) → Kept N ws → good N lo n t ≡ true → Kept N (fill_table ws n t)
unfolding fill_table good
low_fill N zero lo ws t h g = h
low_fill N (suc n) lo ws t h g =
    let k = both (entry_ok N lo (number_in t) (word_in t)) (good N (suc (number_in t)) n (behind t)) g in
    low_fill N n (suc (number_in t)) (set ws (number_in t) (word_in t)) (behind t) (low (entry_is k.0)) k.1
  where
    low : EntryIs N lo (number_in t) (word_in t) → Kept N (set ws (number_in t) (word_in t))
    low e i = go (ℕ_discrete i (number_in t)) (dec_lt i (length ws))
      where
        go : Dec (i ≡ number_in t) → Dec (i < length ws) → get_or (set ws (number_in t) (word_in t)) i 0 < 2 ^ room0 N i
        go (no x) y = rw (get_or-set_other ws (number_in t) i (word_in t) 0 x) (h i)
        go (yes x) (yes y) =
            subst (λ (j : ℕ). get_or (set ws (number_in t) (word_in t)) j 0 < 2 ^ room0 N j) (sym x)
            (rw (get_or-set_same ws (number_in t) (word_in t) 0 (rw (← x) y)) e.fits)
        go (yes x) (no y) =
            rw (get_or-eq_default (set ws (number_in t) (word_in t)) 0 {n = i} (omega (arith, length-set ws (number_in t) (word_in t)))) (pow_pos (room0 N i))

-- ---- an accepted map

zeros_low : (N k : ℕ) → Kept N (replicate k 0)
zeros_low N k i = go (dec_lt i k)
  where
    go : Dec (i < k) → get_or (replicate k 0) i 0 < 2 ^ room0 N i
    go (yes h) = rw (get_or-replicate {A = ℕ} k i 0 0 h) (pow_pos (room0 N i))
    go (no h) = rw (get_or-eq_default {A = ℕ} (replicate k 0) 0 {n = i} (omega (arith, length-replicate {A = ℕ} k 0))) (pow_pos (room0 N i))

pub words_low : {m : List ℕ} {N : ℕ} → MapTaken m N → Kept N (map_words N m)
unfolding map_words
words_low {m} {N} a = low_fill N (used_in m) 0 (replicate (layer_len N 0) 0) (table_in m) (zeros_low N (layer_len N 0)) a.all-good

module _ {m : List ℕ} {N : ℕ} (bytes : Bytes m) (a : MapTaken m N) where
  all : Made [] (used_in m) (table_in m) (map_words N m)
  unfolding map_words
  all =
      made N (used_in m) [] (table_in m) (layer_len N 0) (omega arith) (omega (arith, a.head.table, length-drop 16 m))
      (λ i. rw (get_or-drop 16 m i 0) (bytes (16 + i))) a.all-good

  pub words-used : used (map_words N m) ≡ used_in m
  unfolding used
  words-used = omega (arith, all.words)

  head_bytes : head_of N (count_in m) (used_in m) ≡ take 16 m
  head_bytes =
      ap₂ (λ (x y : ℕ). le 4 x ++ le 4 (count_in m) ++ le 4 (used_in m) ++ le 4 y) (sym a.same) (sym a.head.offset)
      ∙ ap₂ (λ (x y : List ℕ). x ++ y ++ le 4 (used_in m) ++ le 4 (offset_in m)) (bytes_at m 0 4 bytes (omega (arith, a.head.long)))
      (bytes_at m 4 4 bytes (omega (arith, a.head.long)))
      ∙ ap₂ (λ (x y : List ℕ). take 4 m ++ take 4 (drop 4 m) ++ x ++ y) (bytes_at m 8 4 bytes (omega (arith, a.head.long)))
      (bytes_at m 12 4 bytes (omega (arith, a.head.long)))
      ∙ sym (take-add 12 4 m ∙ ap (λ (x : List ℕ). x ++ take 4 (drop 12 m)) (take-add 8 4 m ∙ ap (λ (x : List ℕ). x ++ take 4 (drop 8 m)) (take-add 4 4 m)))

  -- the map of the words is the bytes that were read
  pub words-map : map_of N (map_words N m) ≡ take (16 + 12 * used_in m) m
  unfolding map_of count_all entries
  words-map =
      let em : count_all (map_words N m) ≡ count_in m = omega (arith, all.ones, a.counts) in
      ap₂ (λ (x y : List ℕ). x ++ y) (ap₂ (λ (x y : ℕ). head_of N x y) em words-used ∙ head_bytes) all.bytes
      ∙ sym (take-add 16 (12 * used_in m) m)
