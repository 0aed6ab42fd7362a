-- Reading the layers. Document 01: "A layer word is read by layer number and index; the top layer ignores the index, as the crate does;
-- in the others a word past the layer's end is 0. The layers 0, 1 and 2 are each handed back, to be read, as the caller's own part of
-- the store, no copy; an empty part stands for refusal 2, since no layer of a store is empty."
use Rattle.std.specs.Prelude.{cond, List, [], ◌≡◌, ℕ, ◌+◌, ◌*◌, leb, ltb}
use Rattle.std.specs.Borrow.{Bor}
use Rattle.util.specs.Outcome.{Outcome}
use Rattle.store.specs.Answer.{gives, refuses}
use Rattle.store.specs.Layout.{top, layer_start, cap, is_store}
use Rattle.store.specs.Word.{layer_at, word}

-- the index that is read: any of the top layer is its one word
abbrev pub index_in : ℕ → ℕ → ℕ → ℕ
index_in N k i = cond (ltb k (top N)) i 0

-- Refusals 2, then 4: "layer number above 3".
unfoldable pub word_of : List ℕ → ℕ → ℕ → Outcome (Unit {0})
word_of s k i =
    let N = cap s in
    cond (is_store s)
    (cond (leb k (top N)) (gives (word N s k (index_in N k i)) tt) (refuses 4 tt))
    (refuses 2 tt)

-- layer k of a store, and nothing of another slice
unfoldable pub layer_part : List ℕ → ℕ → List ℕ
layer_part s k = cond (is_store s) (layer_at (cap s) s k) []

-- how many words into a store layer k begins, and 0 of another slice
unfoldable pub part_start : List ℕ → ℕ → ℕ
part_start s k = cond (is_store s) (layer_start (cap s) k) 0

-- "as the caller's own part of the store, no copy": r has the words of layer k of the lent slice s, and lies in the memory of s, so many
-- words of 8 bytes behind its start
pub record OwnPart (s r : Bor (List ℕ)) (k : ℕ) : Type 0 where
  pub words : r.now ≡ layer_part s.now k
  pub place : r.ref_ptr ≡ (s.ref_ptr.0, part_start s.now k * 8 + s.ref_ptr.1)
