-- What is wrong with a chunk map, and the words that a right one tells. Document 01, "Chunk map" and the refusals 9, 5, 10, 11.
use Rattle.std.specs.Prelude.{Bool, true, cond, ◌&&◌, List, ℕ, zero, suc, ◌+◌, ◌*◌, ◌^◌, leb, ltb, eqb, length, set, drop, replicate}
use Rattle.util.specs.Word.{count}
use Rattle.store.specs.Build.{room0}
use Rattle.store.specs.Layout.{is_cap, layer_len}
use Rattle.map_format.specs.Bytes.{num_at}

-- "A header of counts and an offset, 16 bytes: N, member count, word count W, table offset 16, each 32-bit."
abbrev pub cap_in : List ℕ → ℕ
cap_in m = num_at 0 4 m

abbrev pub count_in : List ℕ → ℕ
count_in m = num_at 4 4 m

abbrev pub used_in : List ℕ → ℕ
used_in m = num_at 8 4 m

abbrev pub offset_in : List ℕ → ℕ
offset_in m = num_at 12 4 m

-- "Then W entries of 12 bytes": the table starts behind the header
abbrev pub table_in : List ℕ → List ℕ
table_in m = drop 16 m

-- the first entry of a table: "layer-0 word number (32-bit), word (64-bit)", and the entries behind it
abbrev pub number_in : List ℕ → ℕ
number_in t = num_at 0 4 t

abbrev pub word_in : List ℕ → ℕ
word_in t = num_at 4 8 t

abbrev pub behind : List ℕ → List ℕ
behind t = drop 12 t

-- Refusal 9 is given exactly where this is false: "under 16 bytes, N no capacity, offset not 16, W above L0, or shorter than 16+12W".
unfoldable pub head_ok : List ℕ → Bool
head_ok m =
    leb 16 (length m)
    && (is_cap (cap_in m)
    && (eqb (offset_in m) 16
    && (leb (used_in m) (layer_len (cap_in m) 0)
    && leb (16 + 12 * used_in m) (length m))))

-- An entry of number q, not below lo, and word w in a map of capacity N. Refusal 10: "number not rising or not below L0, word zero, bit at
-- or past N".
unfoldable pub entry_ok : ℕ → ℕ → ℕ → ℕ → Bool
entry_ok N lo q w = leb lo q && (ltb q (layer_len N 0) && (ltb 0 w && ltb w (2 ^ room0 N q)))

-- The n entries of the table t: "numbers rising strictly", so the first is not below lo and the next is above it. Refusal 10 is given
-- exactly where this is false.
unfoldable pub good : ℕ → ℕ → ℕ → List ℕ → Bool
good N lo zero t = true
good N lo (suc n) t = let r = good N (suc (number_in t)) n (behind t) in entry_ok N lo (number_in t) (word_in t) && r

-- the set bits of the words of n entries
unfoldable pub total : ℕ → List ℕ → ℕ
total zero t = 0
total (suc n) t = count (word_in t) + total n (behind t)

-- What is wrong with the map m for a store of capacity N: the first refusal's number, "Map reader 2, 9, 5, 10, 11", or 0. Refusal 5:
-- "capacities differ, between .. map and store"; 11: "member count differs from the set bits".
unfoldable pub judge_of : List ℕ → ℕ → ℕ
judge_of m N =
    cond (head_ok m)
    (cond (eqb (cap_in m) N)
    (cond (good N 0 (used_in m) (table_in m))
    (cond (eqb (total (used_in m) (table_in m)) (count_in m)) 0 11)
    10)
    5)
    9

-- ws with the words of n entries at their numbers
unfoldable pub fill_table : List ℕ → ℕ → List ℕ → List ℕ
fill_table ws zero t = ws
fill_table ws (suc n) t = fill_table (set ws (number_in t) (word_in t)) n (behind t)

-- the layer-0 words that the map m tells of a store of capacity N
unfoldable pub map_words : ℕ → List ℕ → List ℕ
map_words N m = fill_table (replicate (layer_len N 0) 0) (used_in m) (table_in m)
