-- "A member in the layer-0 mask costs nothing": it is handed out from a cursor's ten words alone. Every definition here computes.
use Rattle.std.specs.Prelude.{Bool, cond, ◌&&◌, List, [], ◌∷◌, ℕ, ◌+◌, ◌-◌, ◌^◌, ltb, get_or, Option, Some, None}
use Rattle.std.specs.Int.Count.{count_trailing_zeros}
use Rattle.store.specs.Layout.{top_most, is_store}
use Rattle.walk.specs.Calls.{prefixes_fit}

-- a store, a cursor that is not refused, and a bit in layer 0's mask
unfoldable pub ready_of : List ℕ → List ℕ → Bool
ready_of s l = ltb 0 (get_or l 0 0) && (is_store s && prefixes_fit top_most (get_or l 5 0 ∷ get_or l 6 0 ∷ get_or l 7 0 ∷ []) top_most)

-- the member of that bit, and the words once it is handed out with no read
unfoldable pub handed_id : List ℕ → ℕ
handed_id l = get_or l 5 0 + count_trailing_zeros 64 (get_or l 0 0)

unfoldable pub handed_of : List ℕ → List ℕ
handed_of l =
    let m = get_or l 0 0 in
    (m - 2 ^ count_trailing_zeros 64 m) ∷ get_or l 1 0 ∷ get_or l 2 0 ∷ get_or l 3 0 ∷ get_or l 4 0 ∷ get_or l 5 0 ∷ get_or l 6 0 ∷ get_or l 7 0 ∷ get_or l 8 0 ∷ 0 ∷ []

abbrev pub quick_of : List ℕ → List ℕ → Option ℕ
quick_of s l = cond (ready_of s l) (Some (handed_id l)) None

abbrev pub quick_words : List ℕ → List ℕ → List ℕ
quick_words s l = cond (ready_of s l) (handed_of l) l
