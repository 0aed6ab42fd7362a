-- LATER BYTES: "the reader ignores later bytes, the chunk's padding", in its refusals too.
use Rattle.std.proofs.Common.{Bool, ◌&&◌, List, ◌++◌, ◌≡◌, refl, sym, ap, ap₂, ◌∙◌, ℕ, zero, suc, ◌+◌, ◌*◌, ◌≤◌, arith, le-leb, length, set, take, drop, length-append, length-drop, take-append-drop, length-take-le}
use lib.Seq.{take-append-le, drop-append-le}
use Rattle.util.specs.Word.{count}
use Rattle.store.specs.Layout.{cap}
use Rattle.map_format.specs.Bytes.{num, num_at}
use Rattle.map_read.specs.Calls.{map_capacity_of, read_of}
use Rattle.map_read.specs.Judge.{cap_in, count_in, used_in, offset_in, table_in, number_in, word_in, behind, head_ok, entry_ok, good, total, judge_of, fill_table, map_words}

-- a number that stands before them
num_before : (p r : List ℕ) (o n : ℕ) → o + n ≤ length p → num_at o n (p ++ r) ≡ num_at o n p
num_before p r o n h =
    ap (λ (l : List ℕ). num (take n l)) (drop-append-le o p r (omega arith))
    ∙ ap num (take-append-le n (drop o p) r (omega (arith, length-drop o p)))

-- ---- behind the n entries of a table

module _ (r : List ℕ) where
  -- the first entry, and the entries behind it
  module _ (n : ℕ) (t : List ℕ) (h : 12 * suc n ≤ length t) where
    number_first : number_in (t ++ r) ≡ number_in t
    number_first = num_before t r 0 4 (omega arith)

    word_first : word_in (t ++ r) ≡ word_in t
    word_first = num_before t r 4 8 (omega arith)

    behind_first : behind (t ++ r) ≡ behind t ++ r
    behind_first = drop-append-le 12 t r (omega arith)

    rest_long : 12 * n ≤ length (behind t)
    rest_long = omega (arith, length-drop 12 t)

  good_later : (N lo n : ℕ) (t : List ℕ) → 12 * n ≤ length t → good N lo n (t ++ r) ≡ good N lo n t
  unfolding good
  good_later N lo zero t h = refl
  good_later N lo (suc n) t h =
      ap₂ (λ (x y : ℕ). entry_ok N lo x y && good N (suc x) n (behind (t ++ r))) (number_first n t h) (word_first n t h)
      ∙ ap (λ (b : Bool). entry_ok N lo (number_in t) (word_in t) && b)
      (ap (good N (suc (number_in t)) n) (behind_first n t h) ∙ good_later N (suc (number_in t)) n (behind t) (rest_long n t h))

  total_later : (n : ℕ) (t : List ℕ) → 12 * n ≤ length t → total n (t ++ r) ≡ total n t
  unfolding total
  total_later zero t h = refl
  total_later (suc n) t h =
      ap₂ (λ (x y : ℕ). count x + y) (word_first n t h) (ap (total n) (behind_first n t h) ∙ total_later n (behind t) (rest_long n t h))

  fill_later : (ws : List ℕ) (n : ℕ) (t : List ℕ) → 12 * n ≤ length t → fill_table ws n (t ++ r) ≡ fill_table ws n t
  unfolding fill_table
  fill_later ws zero t h = refl
  fill_later ws (suc n) t h =
      ap₂ (λ (x y : ℕ). fill_table (set ws x y) n (behind (t ++ r))) (number_first n t h) (word_first n t h)
      ∙ ap (fill_table (set ws (number_in t) (word_in t)) n) (behind_first n t h)
      ∙ fill_later (set ws (number_in t) (word_in t)) n (behind t) (rest_long n t h)

-- ---- behind a map that has all its entries

module _ (p r : List ℕ) (all : 16 + 12 * used_in p ≤ length p) where
  cap_later : cap_in (p ++ r) ≡ cap_in p
  cap_later = num_before p r 0 4 (omega arith)

  count_later : count_in (p ++ r) ≡ count_in p
  count_later = num_before p r 4 4 (omega arith)

  used_later : used_in (p ++ r) ≡ used_in p
  used_later = num_before p r 8 4 (omega arith)

  offset_later : offset_in (p ++ r) ≡ offset_in p
  offset_later = num_before p r 12 4 (omega arith)

  table_later : table_in (p ++ r) ≡ table_in p ++ r
  table_later = drop-append-le 16 p r (omega arith)

  table_long : 12 * used_in p ≤ length (table_in p)
  table_long = omega (arith, length-drop 16 p)

  longer : length (p ++ r) ≡ length p + length r
  longer = length-append p r

  head_later : head_ok (p ++ r) ≡ head_ok p
  unfolding head_ok
  head_later =
      rw (
        cap_later,
        used_later,
        offset_later,
        le-leb 16 (length (p ++ r)) (omega (arith, longer)),
        le-leb 16 (length p) (omega arith),
        le-leb (16 + 12 * used_in p) (length (p ++ r)) (omega (arith, longer)),
        le-leb (16 + 12 * used_in p) (length p) all,
      )

  judge_later : (N : ℕ) → judge_of (p ++ r) N ≡ judge_of p N
  unfolding judge_of
  judge_later N =
      rw (
        head_later,
        cap_later,
        used_later,
        count_later,
        table_later,
        good_later r N 0 (used_in p) (table_in p) table_long,
        total_later r (used_in p) (table_in p) table_long,
      )

  words_later : (N : ℕ) → map_words N (p ++ r) ≡ map_words N p
  unfolding map_words
  words_later N = rw (used_later, table_later, fill_later r _ (used_in p) (table_in p) table_long)

  read_later : (t : List ℕ) → read_of (p ++ r) t ≡ read_of p t
  unfolding read_of
  read_later t = rw (judge_later (cap t), words_later (cap t))

  capacity_later : map_capacity_of (p ++ r) ≡ map_capacity_of p
  unfolding map_capacity_of
  capacity_later = rw (head_later, cap_later)

-- ---- THE THEOREM: bytes that agree with a map's first 16 + 12 W, W the words that it lists, get its answer

module _ (m m' : List ℕ) (all : 16 + 12 * used_in m ≤ length m) (same : take (16 + 12 * used_in m) m' ≡ take (16 + 12 * used_in m) m) where
  abbrev front : List ℕ
  front = take (16 + 12 * used_in m) m

  long_front : length front ≡ 16 + 12 * used_in m
  long_front = length-take-le (16 + 12 * used_in m) m all

  parts : front ++ drop (16 + 12 * used_in m) m ≡ m
  parts = take-append-drop (16 + 12 * used_in m) m

  parts' : front ++ drop (16 + 12 * used_in m) m' ≡ m'
  parts' = ap (λ (l : List ℕ). l ++ drop (16 + 12 * used_in m) m') (sym same) ∙ take-append-drop (16 + 12 * used_in m) m'

  all_front : 16 + 12 * used_in front ≤ length front
  all_front =
      let e : used_in m ≡ used_in front = ap used_in (sym parts) ∙ num_before front (drop (16 + 12 * used_in m) m) 8 4 (omega (arith, long_front)) in
      omega (arith, long_front)

  pub read_past_end : (t : List ℕ) → read_of m' t ≡ read_of m t
  read_past_end t =
      ap (λ (l : List ℕ). read_of l t) (sym parts') ∙ read_later front (drop (16 + 12 * used_in m) m') all_front t
      ∙ sym (ap (λ (l : List ℕ). read_of l t) (sym parts) ∙ read_later front (drop (16 + 12 * used_in m) m) all_front t)

  pub capacity_past_end : map_capacity_of m' ≡ map_capacity_of m
  capacity_past_end =
      ap map_capacity_of (sym parts') ∙ capacity_later front (drop (16 + 12 * used_in m) m') all_front
      ∙ sym (ap map_capacity_of (sym parts) ∙ capacity_later front (drop (16 + 12 * used_in m) m) all_front)
