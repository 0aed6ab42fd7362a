-- What the private steps ask and leave: s is a store of capacity N, with room for id i.
use Rattle.std.specs.Prelude.{Bool, false, List, ◌≡◌, ℕ, ◌/◌, ◌<◌}
use Rattle.store.specs.Word.{word, anc}
use Rattle.set_member.specs.Place.{Placed}
use Rattle.set_edit.specs.Edit.{edit, edits, layers_of, word_left, moved_by}

-- the bit over i is set, or cleared, in layer k, and r is the word that this leaves
pub record Edited (set : Bool) (s : List ℕ) (N i k : ℕ) (t : List ℕ) (r : ℕ) : Type 0 where
  pub memory : t ≡ edit set N s k (anc i k)
  pub answer : r ≡ word N t k (anc i k / 64)

-- the bit over i is set, or cleared, in the k lowest layers of s
pub record Begun (set : Bool) (s : List ℕ) (N i k : ℕ) (t : List ℕ) : Type 0 where
  pub placed : Placed s N i 0
  pub memory : t ≡ edits set N s i k

-- and where it is cleared none of their words keeps a bit
pub record Climbing (set : Bool) (s : List ℕ) (N i k : ℕ) (t : List ℕ) : Type 0 where
  pub begun : Begun set s N i k t
  pub zeros : set ≡ false → (j : ℕ) → j < k → word_left N s i j ≡ 0

-- m layers were written, and r says so
pub record Ended (set : Bool) (s : List ℕ) (N i m : ℕ) (t : List ℕ) (r : ℕ) : Type 0 where
  pub memory : t ≡ edits set N s i m
  pub layers : r ≡ m

-- i was added, or removed, and r says how many layers were written
pub record Moved (set : Bool) (s : List ℕ) (N i : ℕ) (t : List ℕ) (r : ℕ) : Type 0 where
  pub memory : t ≡ moved_by set N s i
  pub layers : r ≡ layers_of set N s i
