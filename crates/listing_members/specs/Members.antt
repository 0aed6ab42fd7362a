-- The line of all members. Document 01: "`w` prints itself and all members on its line"; "Ids print without leading zeros, fields one blank
-- apart."
use Rattle.std.specs.Prelude.{cond, ◌↔◌, ◌≡◌, ℕ}
use mathlib.Core.List.{List, [], ◌∷◌, ◌++◌, Memᴰ}
use Rattle.util.specs.Word.{Rising}
use Rattle.store.specs.Layout.{is_store}
use Rattle.store.specs.Word.{Member}
use Rattle.walk_batches.specs.Steps.{walked}
use Rattle.text_out.specs.Out.{decimal_of}

-- each id after one blank
unfoldable pub ids_of : List ℕ → List ℕ
ids_of [] = []
ids_of (i ∷ l) = 32 ∷ (decimal_of i ++ ids_of l)

-- `w`, the ids and the line's end
abbrev pub line_of : List ℕ → List ℕ
line_of l = 119 ∷ (ids_of l ++ (10 ∷ []))

-- w refused 2
abbrev pub refused_line : List ℕ
refused_line = 119 ∷ 32 ∷ 114 ∷ 101 ∷ 102 ∷ 117 ∷ 115 ∷ 101 ∷ 100 ∷ 32 ∷ 50 ∷ 10 ∷ []

-- what a walk of a store hands out, sound or not; another slice is refused by its number, as the program's other lines are
unfoldable pub members_line : List ℕ → List ℕ
members_line s = cond (is_store s) (line_of (walked s)) refused_line

-- the ids that the line names are the members, each once, rising
pub record Named (s ids : List ℕ) : Type 0 where
  pub line : members_line s ≡ line_of ids
  pub exact : (i : ℕ) → Memᴰ i ids ↔ Member s i
  pub rising : Rising 0 ids
