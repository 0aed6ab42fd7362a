-- Where the words of a layer stand, for every capacity and every index.
use Rattle.std.specs.Prelude.{cond, ℕ, zero, suc, ◌+◌, ◌-◌, ltb}
use Rattle.store.specs.Layout.{end_of}

-- the words of layer k, and the places that it has: ids, or the words of the layer below
unfoldable pub words_in : ℕ → ℕ → ℕ
words_in N k = end_of N k - end_of N (suc k)

unfoldable pub places_in : ℕ → ℕ → ℕ
places_in N zero = N
places_in N (suc k) = words_in N k

-- where word i of layer k stands in a store; past the layer's end, where the store ends
unfoldable pub place_of : ℕ → ℕ → ℕ → ℕ
place_of N k i = cond (ltb i (words_in N k)) (end_of N (suc k) + i) (end_of N 0)
