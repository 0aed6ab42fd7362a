-- The store that layer-0 words make: every summary bit tells whether its word below is not zero.
use Rattle.std.specs.Prelude.{ℕ, zero, suc, ◌+◌, ◌-◌, ◌*◌, ◌^◌, ◌<◌, min, cond, List, [], ◌∷◌, ◌++◌, length, take, drop, replicate, ◌==◌, slice_index}
use Rattle.store.specs.Layout.{words, top, layer_start, store_len}

-- 1 for a word that is not zero
abbrev pub flag : ℕ → ℕ
flag w = cond (w == 0) 0 1

-- bit i tells of word i
unfoldable pub flags : List ℕ → ℕ
flags [] = 0
flags (w ∷ ws) = flag w + 2 * flags ws

-- n words of flags, each of 64 words
unfoldable pub chunks : ℕ → List ℕ → List ℕ
chunks zero ws = []
chunks (suc n) ws = flags (take 64 ws) ∷ chunks n (drop 64 ws)

-- the layer over the words ws
abbrev pub summary : List ℕ → List ℕ
summary ws = chunks (words (length ws)) ws

-- layer k over the layer-0 words ws: "Layers 1 through 3 are each a summary of the layer immediately below them." (the crate)
unfoldable pub layer_of : ℕ → List ℕ → List ℕ
layer_of zero ws = ws
layer_of (suc k) ws = summary (layer_of k ws)

-- the layers below layer k, from the top down
unfoldable pub stacked : ℕ → List ℕ → List ℕ
stacked zero ws = []
stacked (suc k) ws = layer_of k ws ++ stacked k ws

-- the words before the layers: "Word 0 holds N"
abbrev pub head : ℕ → List ℕ → List ℕ
head N ws = N ∷ []

-- the store of capacity N whose layer 0 is ws
unfoldable pub build : ℕ → List ℕ → List ℕ
build N ws = head N ws ++ stacked (suc (top N)) ws

-- a store's layer 0
abbrev pub layer0 : ℕ → List ℕ → List ℕ
layer0 N s = drop (layer_start N 0) s

-- how many bits of layer-0 word q stand for ids below N
abbrev pub room0 : ℕ → ℕ → ℕ
room0 N q = min 64 (N - 64 * q)

-- no word of layer 0 has a bit at or past N
abbrev pub Kept : ℕ → List ℕ → Type 0
Kept N ws = (q : ℕ) → slice_index ws q < 2 ^ room0 N q

-- the empty store: "Open zeroes all words and writes N."
abbrev pub empty : ℕ → List ℕ
empty N = N ∷ replicate (store_len N - 1) 0
