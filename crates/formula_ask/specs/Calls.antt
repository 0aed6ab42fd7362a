-- What the calls over a formula answer, for all inputs. Document 01: "The public calls over a formula are `contains`, `is_empty`, the layer
-- word and the walk." Refusals 2, 5, then 4, 6 rising.
use Rattle.std.specs.Prelude.{cond, ◌&&◌, List, ℕ, ◌/◌, ◌%◌, leb, ltb, eqb}
use Rattle.util.specs.Outcome.{Outcome}
use Rattle.util.specs.Word.{bit}
use Rattle.store.specs.Answer.{gives, says, refuses}
use Rattle.store.specs.Layout.{top, cap}
use Rattle.set_layers.specs.Calls.{index_in}
use Rattle.formula_codes.specs.Check.{stores_of, check_of}
use Rattle.formula_codes.specs.Codes.{tree_of, is_formula}
use Rattle.formula_codes.specs.Tree.{nth, tree_word}

-- "Store 0 must be a store and gives N"
abbrev pub cap_of : List (List ℕ) → ℕ
cap_of ss = cap (nth ss 0)

-- the layer words of a formula, by layer number and index
abbrev pub formula_words : List (List ℕ) → List ℕ → ℕ → ℕ → ℕ
formula_words ss cs = tree_word (cap_of ss) ss (tree_of cs)

-- "A layer word is read by layer number and index; the top layer ignores the index, as the crate does". Refusal 4: "layer number above 3".
unfoldable pub layer_word_of : List (List ℕ) → List ℕ → ℕ → ℕ → Outcome (Unit {0})
layer_word_of ss cs k i =
    let N = cap_of ss in
    let no = stores_of ss in
    cond (eqb no 0)
    (cond (leb k (top N)) (cond (is_formula ss cs) (gives (formula_words ss cs k (index_in N k i)) tt) (refuses 6 tt)) (refuses 4 tt))
    (refuses no tt)

-- the id's bit of layer 0, "and `contains` is no at and above N"
unfoldable pub formula_contains_of : List (List ℕ) → List ℕ → ℕ → Outcome (Unit {0})
formula_contains_of ss cs i =
    let no = check_of ss cs in
    cond (eqb no 0) (says (ltb i (cap_of ss) && eqb (bit (formula_words ss cs 0 (i / 64)) (i % 64)) 1) tt) (refuses no tt)

-- "A formula's `is_empty` reads only its layer-3 word, as the crate's."
unfoldable pub formula_is_empty_of : List (List ℕ) → List ℕ → Outcome (Unit {0})
formula_is_empty_of ss cs =
    let no = check_of ss cs in
    cond (eqb no 0) (says (eqb (formula_words ss cs (top (cap_of ss)) 0) 0) tt) (refuses no tt)
