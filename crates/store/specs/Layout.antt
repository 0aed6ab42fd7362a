-- The layout of a store, over the layer number. Document 01: "A store is one lent slice of 64-bit words." N is its capacity; layer 0
-- holds the ids' bits, and each layer above it has a bit for each word of the layer below.
use Rattle.std.specs.Prelude.{◌≡◌, ℕ, zero, suc, ◌+◌, ◌-◌, ◌/◌, ◌%◌, ◌^◌, ◌≤◌, Bool, cond, ◌&&◌, List, length, ◌==◌, nat_le, slice_index}

-- the words before the layers: "Word 0 holds N"
abbrev pub header : ℕ
header = 1

-- the number of the top layer of the largest stores, and of a store of capacity N: "There are, in total, four layers." (the crate)
abbrev pub top_most : ℕ
top_most = 3

unfoldable pub top : ℕ → ℕ
top N = top_most

-- "Its capacity N is 1 to 16,777,216."
abbrev pub max_cap : ℕ
max_cap = 16777216

unfoldable pub is_cap : ℕ → Bool
is_cap N = nat_le 1 N && nat_le N max_cap

-- the words that n bits need: "N/64 rounded up"
abbrev pub words : ℕ → ℕ
words n = (n + 63) / 64

-- the places of layer k: the ids in layer 0, above it the words of the layer below
unfoldable pub room : ℕ → ℕ → ℕ
room N zero = N
room N (suc k) = words (room N k)

-- the words of layer k: "L0 = N/64 rounded up, L1 = L0/64 rounded up, L2 = L1/64 rounded up", and one of layer 3
abbrev pub layer_len : ℕ → ℕ → ℕ
layer_len N k = room N (suc k)

-- the words of the m layers k, k + 1, ..
unfoldable pub span : ℕ → ℕ → ℕ → ℕ
span N k zero = 0
span N k (suc m) = layer_len N k + span N (suc k) m

-- "word 1 is layer 3, then L2 words of layer 2, L1 of layer 1, L0 of layer 0": a layer ends after the header, the layers above it and
-- itself, and starts where the layer above it ends
unfoldable pub layer_end : ℕ → ℕ → ℕ
layer_end N k = header + span N k (suc (top N) - k)

abbrev pub layer_start : ℕ → ℕ → ℕ
layer_start N k = layer_end N (suc k)

-- "The length is exactly 2+L2+L1+L0"
abbrev pub store_len : ℕ → ℕ
store_len N = layer_end N 0

-- the capacity that a slice names in word 0; an empty slice names 0, which is none
abbrev pub cap : List ℕ → ℕ
cap s = slice_index s 0

-- s is a store. Refusal 2 is given exactly where it is not: "a slice's length is not the one its capacity needs, or word 0 is no
-- capacity, or the slice is empty where a store is needed"
unfoldable pub is_store : List ℕ → Bool
is_store s = is_cap (cap s) && length s == store_len (cap s)

-- the same as facts: s is a store of capacity N
pub record StoreOf (N : ℕ) (s : List ℕ) : Type 0 where
  pub some : 1 ≤ N
  pub most : N ≤ max_cap
  pub names : cap s ≡ N
  pub long : length s ≡ store_len N

-- ---- what the shared functions answer

-- the capacity that differs from N by a multiple of 16,777,216: N itself where it is one
abbrev pub folded : ℕ → ℕ
folded N = (N + 16777215) % 16777216 + 1

-- where layer k ends in a store of capacity N
unfoldable pub end_of : ℕ → ℕ → ℕ
end_of N k = layer_end (folded N) k

-- the words that n bits need; no bits are taken as 2 ^ 64
unfoldable pub words_for : ℕ → ℕ
words_for n = (n + (2 ^ 64 - 1)) % 2 ^ 64 / 64 + 1

-- where layer k starts in a store of `len` words and capacity N: layer 0 stands at its end
unfoldable pub start_from : ℕ → ℕ → ℕ → ℕ
start_from len N zero = (len + (2 ^ 64 - words_for N)) % 2 ^ 64
start_from len N (suc k) = end_of N (suc (suc k))

-- where the layer-0 word of id i stands in a store whose layer 0 starts at `start`
abbrev pub id_word_of : ℕ → ℕ → ℕ
id_word_of start i = (start + i / 64) % 2 ^ 64

-- the word of the top layer: "word 1 is layer 3"
abbrev pub top_word : List ℕ → ℕ
top_word s = slice_index s header

-- the capacity of a store; 0 where the slice is none
unfoldable pub capacity_of : List ℕ → ℕ
capacity_of s = cond (is_store s) (cap s) 0
