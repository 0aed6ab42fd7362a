-- The masks and prefixes of a cursor, layer k's at place k. Document 01: "A cursor holds four masks and three prefixes, as `BitIter`."
use Rattle.std.specs.Prelude.{Bool, cond, ◌&&◌, List, ℕ, zero, suc, ◌-◌, ◌^◌, ltb, eqb, get_or, set}
use Rattle.std.specs.Int.Count.{count_trailing_zeros}

-- the first of the n layers from layer k on whose mask is not 0; k + n where there is none
unfoldable pub low_from : List ℕ → ℕ → ℕ → ℕ
low_from ms k zero = k
low_from ms k (suc n) = let r = low_from ms (suc k) n in cond (eqb (get_or ms k 0) 0) r k

-- a layer above layer a and below layer b
abbrev pub between : ℕ → ℕ → ℕ → Bool
between a l b = ltb a l && ltb l b

-- layer k "gives its lowest bit"
abbrev pub lowest_bit : List ℕ → ℕ → ℕ
lowest_bit ms k = count_trailing_zeros 64 (get_or ms k 0)

-- the masks with layer k's without it
abbrev pub bare : List ℕ → ℕ → List ℕ
bare ms k = set ms k (get_or ms k 0 - 2 ^ lowest_bit ms k)

-- layer k's prefix; the top layer has none
unfoldable pub prefix_at : ℕ → List ℕ → ℕ → ℕ
prefix_at t ps k = cond (ltb k t) (get_or ps k 0) 0
