-- Words, bits, members, soundness.
use Rattle.std.specs.Prelude.{◌≡◌, ℕ, zero, suc, ◌+◌, ◌/◌, ◌%◌, ◌^◌, ◌<◌, ◌≤◌, min, ◌≢◌, ◌↔◌, List, length, take, drop, slice_index, slice_set}
use Rattle.util.specs.Word.{bit, places}
use Rattle.store.specs.Layout.{top, room, layer_len, layer_start, cap, StoreOf}

-- layer k, a part of the store
abbrev pub layer_at : ℕ → List ℕ → ℕ → List ℕ
layer_at N s k = take (layer_len N k) (drop (layer_start N k) s)

-- word i of layer k: "a word past the layer's end is 0"
unfoldable pub word : ℕ → List ℕ → ℕ → ℕ → ℕ
word N s k i = slice_index (layer_at N s k) i

-- the bit at place p of layer k
unfoldable pub on : ℕ → List ℕ → ℕ → ℕ → ℕ
on N s k p = bit (word N s k (p / 64)) (p % 64)

-- The place in layer k that stands over id i. "Id i is bit i mod 64 of layer-0 word i/64; bit (i/64) mod 64 of layer-1 word i/4,096;
-- bit (i/4,096) mod 64 of layer-2 word i/262,144; bit i/262,144 of layer 3."
unfoldable pub anc : ℕ → ℕ → ℕ
anc i zero = i
anc i (suc k) = anc i k / 64

-- the store with w for word i of layer k
unfoldable pub put : ℕ → List ℕ → ℕ → ℕ → ℕ → List ℕ
put N s k i w = slice_set s (layer_start N k + i) w

-- "An id is a member if it is below N and its layer-0 bit is set."
pub record Member (s : List ℕ) (i : ℕ) : Type 0 where
  pub below : i < cap s
  pub held : on (cap s) s 0 i ≡ 1

-- the members, ascending, and how many there are
unfoldable pub members : List ℕ → List ℕ
members s = places (on (cap s) s 0) 0 (cap s)

abbrev pub member_count : List ℕ → ℕ
member_count s = length (members s)

-- the members below id a, counted
abbrev pub count_below : ℕ → List ℕ → ℕ → ℕ
count_below N s a = length (places (on N s 0) 0 (min a N))

-- "A store is sound if no bit is set at a place where no id or word exists, and every summary bit is set exactly if the word it stands
-- for is not zero." The crate says it of each layer: "Layer0 each bit represents one Index of the set. Layer1 each bit represents one
-- `usize` of Layer0, and will be set only if the word below it is not zero. Layer2 has the same arrangement but with Layer1, and
-- Layer3 with Layer2."
pub record SoundLayers (N : ℕ) (s : List ℕ) : Type 0 where
  pub inside : (k p : ℕ) → k ≤ top N → on N s k p ≡ 1 → p < room N k
  pub exact : (k q : ℕ) → k < top N → (on N s (suc k) q ≡ 1) ↔ (word N s k q ≢ 0)

-- the same of the whole store: nothing is asked of the words before the layers but what makes it a store
pub record Sound (N : ℕ) (s : List ℕ) : Type 0 where
  pub layers : SoundLayers N s

-- every number of the list is a 64-bit word, as in every lent slice
abbrev pub Words64 : List ℕ → Type 0
Words64 s = (x : ℕ) → slice_index s x < 2 ^ 64

-- s is a store of capacity N, of words, and sound: what every call on such stores leaves
pub record SoundStore (N : ℕ) (s : List ℕ) : Type 0 where
  pub is : StoreOf N s
  pub words : Words64 s
  pub sound : Sound N s
