-- The bytes of a chunk map. Document 01: "Little-endian. A header of counts and an offset, 16 bytes: N, member count, word count W, table
-- offset 16, each 32-bit. Then W entries of 12 bytes: layer-0 word number (32-bit), word (64-bit), numbers rising strictly, words not
-- zero. Length 16+12W".
use Rattle.std.specs.Prelude.{cond, List, [], ◌∷◌, ◌++◌, ℕ, suc, ◌+◌, ◌*◌, ◌^◌, ◌%◌, eqb}
use Rattle.util.specs.Word.{count}
use Rattle.store.specs.Build.{flag, layer0, room0}
use Rattle.map_format.specs.Bytes.{le}

-- the layer-0 words from number q on of a store of capacity N: "takes bits at or past N as absent"
unfoldable pub kept_from : ℕ → ℕ → List ℕ → List ℕ
kept_from N q [] = []
kept_from N q (w ∷ ws) = w % 2 ^ room0 N q ∷ kept_from N (suc q) ws

-- the words that a store s of capacity N has to tell of
abbrev pub told_words : ℕ → List ℕ → List ℕ
told_words N s = kept_from N 0 (layer0 N s)

-- "member count": the set bits of all words
unfoldable pub count_all : List ℕ → ℕ
count_all [] = 0
count_all (w ∷ ws) = count w + count_all ws

-- "word count W": the words that are not zero
unfoldable pub used : List ℕ → ℕ
used [] = 0
used (w ∷ ws) = flag w + used ws

-- "layer-0 word number (32-bit), word (64-bit)"; none for a zero word
abbrev pub entry_of : ℕ → ℕ → List ℕ
entry_of q w = cond (eqb w 0) [] (le 4 q ++ le 8 w)

-- the entries of the words from number q on
unfoldable pub entries : ℕ → List ℕ → List ℕ
entries q [] = []
entries q (w ∷ ws) = entry_of q w ++ entries (suc q) ws

-- "N, member count, word count W, table offset 16, each 32-bit"
abbrev pub head_of : ℕ → ℕ → ℕ → List ℕ
head_of N m u = le 4 N ++ le 4 m ++ le 4 u ++ le 4 16

-- the map of the layer-0 words ws
unfoldable pub map_of : ℕ → List ℕ → List ℕ
map_of N ws = head_of N (count_all ws) (used ws) ++ entries 0 ws

-- "Length 16+12W"
abbrev pub map_len : List ℕ → ℕ
map_len ws = 16 + 12 * used ws
