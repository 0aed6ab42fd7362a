-- A formula as a tree, and its layer words. Document 01, "Formulas": "Virtual sets become a lent list of 1 to 32 byte codes in postfix
-- order"; the codes enter by `tree_of` of Codes alone.
use Rattle.std.specs.Prelude.{cond, List, [], ◌∷◌, ℕ, zero, suc, ◌-◌, ◌*◌, ◌^◌, min, eqb, get_or}
use Rattle.std.specs.Int.Bits.{bit_and}
use Rattle.util.specs.Word.{flip}
use Rattle.store.specs.Layout.{room}
use Rattle.store.specs.Word.{word}
use Rattle.ops_word.specs.Op.{op_word}

-- "0 to 3 a store, 16 and, 17 or, 18 xor, 19 not, 20 all"
pub data Tree : Type 0 where
  store : ℕ → Tree
  both : Tree → Tree → Tree
  either : Tree → Tree → Tree
  one_of : Tree → Tree → Tree
  inverse : Tree → Tree
  every : Tree

-- the bits of word i of a layer of so many places "where an id or word exists"
unfoldable pub existing : ℕ → ℕ → ℕ
existing places i = 2 ^ min 64 (places - i * 64) - 1

-- "Xor: layer 0 exclusive or, layers 1 to 3 or."
unfoldable pub xor_in : ℕ → ℕ
xor_in zero = 18
xor_in (suc k) = 17

-- "16 and, 17 or, 18 xor": what a code makes of two words of layer k; every other code is taken for xor
unfoldable pub joined : ℕ → ℕ → ℕ → ℕ → ℕ
joined code k x y = op_word (cond (eqb code 16) 16 (cond (eqb code 17) 17 (xor_in k))) x y

-- "Not: layer 0 inverted, layers 1 to 3 all ones. All: all ones. Not and all are cut to bits where an id or word exists."
unfoldable pub not_in : ℕ → ℕ → ℕ → ℕ
not_in zero cut a = bit_and cut (flip a)
not_in (suc k) cut a = cut

-- a formula's word in layer k, where the stores' words there are w and the bits that exist are cut: "and, or as the crate"
unfoldable pub value : (ℕ → ℕ) → ℕ → ℕ → Tree → ℕ
value w k cut (store c) = w c
value w k cut (both a b) = joined 16 k (value w k cut a) (value w k cut b)
value w k cut (either a b) = joined 17 k (value w k cut a) (value w k cut b)
value w k cut (one_of a b) = joined 18 k (value w k cut a) (value w k cut b)
value w k cut (inverse a) = not_in k cut (value w k cut a)
value w k cut every = cut

-- the four slices lent, and one of them by its number
abbrev pub four : List ℕ → List ℕ → List ℕ → List ℕ → List (List ℕ)
four a b c d = a ∷ b ∷ c ∷ d ∷ []

abbrev pub nth : List (List ℕ) → ℕ → List ℕ
nth ss c = get_or ss c []

-- word i of layer k of a formula over stores of capacity N
unfoldable pub tree_word : ℕ → List (List ℕ) → Tree → ℕ → ℕ → ℕ
tree_word N ss e k i = value (λ c. word N (nth ss c) k i) k (existing (room N k) i) e
