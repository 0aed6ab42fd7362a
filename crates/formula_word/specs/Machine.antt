-- The word of a formula as it is computed: the codes one after another, on a stack of eight places. For every list of codes and every
-- number; for a formula over stores of capacity N it is the tree's word.
use Rattle.std.specs.Prelude.{List, [], ◌∷◌, map, ℕ, suc, ◌+◌, ◌%◌, get_or, set, replicate}
use Rattle.store.specs.Layout.{top_most}
use Rattle.formula_codes.specs.Codes.{CodeKind, code_kind}
use Rattle.formula_codes.specs.Codes.CodeKind.{is_store, is_both, is_either, is_one_of, is_inverse, is_every, is_unknown}
use Rattle.formula_codes.specs.Tree.{existing, joined, not_in}
use Rattle.formula_place.specs.Spots.{places_in, place_of}

-- ---- one code

-- the values that wait: the last, and the others in the stack; `place` is where the last will stand
pub record Stack : Type 0 where
  pub words : List ℕ
  pub place : ℕ
  pub last : ℕ

-- what a code makes of the last two, a and b, in layer k, where w is the word of the store that it names
unfoldable pub made_of : CodeKind → ℕ → ℕ → ℕ → ℕ → ℕ → ℕ
made_of is_store w k cut a b = w
made_of is_both w k cut a b = joined 16 k a b
made_of is_either w k cut a b = joined 17 k a b
made_of is_one_of w k cut a b = joined 18 k a b
made_of is_inverse w k cut a b = not_in k cut b
made_of is_every w k cut a b = cut
made_of is_unknown w k cut a b = b

-- how far the place goes on, in a ring of eight: one more value, one less, or as many
unfoldable pub moves : CodeKind → ℕ
moves is_store = 1
moves is_both = 7
moves is_either = 7
moves is_one_of = 7
moves is_inverse = 0
moves is_every = 1
moves is_unknown = 0

-- the last value goes to its place, and the code's is the last
unfoldable pub stepped : ℕ → ℕ → List ℕ → ℕ → Stack → Stack
stepped k cut ws c s =
    let v = set s.words s.place s.last in
    record {
      words = v;
      place = (s.place + moves (code_kind c)) % 8;
      last = made_of (code_kind c) (get_or ws c 0) k cut (get_or v ((s.place + 7) % 8) 0) s.last;
    }

-- ---- all of them

unfoldable pub evaluated : ℕ → ℕ → List ℕ → List ℕ → Stack → ℕ
evaluated k cut ws [] s = s.last
evaluated k cut ws (c ∷ cs) s = evaluated k cut ws cs (stepped k cut ws c s)

abbrev pub begun : Stack
begun = record { words = replicate 8 0; place = 0; last = 0 }

-- the word of layer k that the slices' words at one place make, where the bits that exist are cut
unfoldable pub word_at : List (List ℕ) → List ℕ → ℕ → ℕ → ℕ → ℕ
word_at ss cs k cut at = evaluated k cut (map (λ s. get_or s at 0) ss) cs begun

-- word i of a layer; layers count modulo their number
unfoldable pub machine_word : ℕ → List (List ℕ) → List ℕ → ℕ → ℕ → ℕ
machine_word N ss cs layer i =
    let k = layer % suc top_most in
    word_at ss cs k (existing (places_in N k) i) (place_of N k i)
