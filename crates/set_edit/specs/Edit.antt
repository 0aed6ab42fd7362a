-- One bit set or cleared in the layers over an id, as the crate's `add`, `add_slow` and `remove` do it on the words as found. Both calls
-- go by the number of layers that they write.
use Rattle.std.specs.Prelude.{Bool, true, false, cond, List, ℕ, zero, suc, ◌/◌, ◌%◌, eqb, set}
use Rattle.util.specs.Word.{change}
use Rattle.store.specs.Layout.{top}
use Rattle.store.specs.Word.{word, anc, put}
use Rattle.set_member.specs.Calls.{holds}

-- the store with the bit at place p of layer k set, or cleared
unfoldable pub edit : Bool → ℕ → List ℕ → ℕ → ℕ → List ℕ
edit set N s k p = put N s k (p / 64) (change set (word N s k (p / 64)) (p % 64))

-- the store with the bit over id i set, or cleared, in each of the m lowest layers
unfoldable pub edits : Bool → ℕ → List ℕ → ℕ → ℕ → List ℕ
edits set N s i zero = s
edits set N s i (suc m) = edit set N (edits set N s i m) m (anc i m)

-- The layers that adding i writes: none if it is held; all if its layer-0 word was 0, "when the lowest layer was set from 0" (the crate);
-- else layer 0 alone.
unfoldable pub add_layers : ℕ → List ℕ → ℕ → ℕ
add_layers N s i = cond (holds N s i) 0 (cond (eqb (word N s 0 (i / 64)) 0) (suc (top N)) 1)

-- what is left of the word over i in layer k once its bit is cleared
unfoldable pub word_left : ℕ → List ℕ → ℕ → ℕ → ℕ
word_left N s i k = change false (word N s k (anc i k / 64)) (anc i k % 64)

-- the first of the d layers from k on whose word keeps a bit, counted from 1; the one after them where none does
unfoldable pub climb : ℕ → List ℕ → ℕ → ℕ → ℕ → ℕ
climb N s i k zero = suc k
climb N s i k (suc d) = let r = climb N s i (suc k) d in cond (eqb (word_left N s i k) 0) r (suc k)

-- The layers that removing i writes: none if it is not held; "the layers above only should be cleared if the bit cleared was the last
-- bit in its set" (the crate), so it goes up while words become 0.
unfoldable pub remove_layers : ℕ → List ℕ → ℕ → ℕ
remove_layers N s i = let r = climb N s i 0 (top N) in cond (holds N s i) r 0

-- the layers that setting, or clearing, the bit of i writes where no other bit of its layer-0 word is set
unfoldable pub reach : Bool → ℕ → List ℕ → ℕ → ℕ
reach set N s i = let r = climb N s i 0 (top N) in cond set (suc (top N)) r

-- the layers that adding, or removing, writes
abbrev pub layers_of : Bool → ℕ → List ℕ → ℕ → ℕ
layers_of true = add_layers
layers_of false = remove_layers

-- the store that adding, or removing, id i leaves
unfoldable pub moved_by : Bool → ℕ → List ℕ → ℕ → List ℕ
moved_by set N s i = edits set N s i (layers_of set N s i)
