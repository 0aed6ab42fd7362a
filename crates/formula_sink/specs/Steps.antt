-- The words of a formula as a walk reads them, and what a step finds.
use Rattle.std.specs.Prelude.{false, ◌≡◌, ℕ, suc, ◌%◌, ◌<◌, get_or, Option, None, Some}
use Rattle.store.specs.Layout.{top_most}
use Rattle.walk.specs.Steps.{is_reading}
use Rattle.walk.specs.Walk.{low_layer, kind, first_bit, place_at}
use Rattle.walk.specs.declared.Cursor.{Cursor}
use Rattle.formula_codes.specs.Formula.{slices}
use Rattle.formula_codes.specs.declared.Formula.{Formula}
use Rattle.formula_place.specs.Spots.{place_of}
use Rattle.formula_word.specs.Machine.{machine_word}
use Rattle.formula_sink.specs.declared.Spot.{Spot}

-- word i of layer k, over stores of capacity N
abbrev pub words_of : Formula → ℕ → ℕ → ℕ → ℕ
words_of f N = machine_word N (slices f) f.codes.now

-- the word below the lowest bit of the lowest layer, and where it stands in stores of capacity n
pub record Spotted (n : ℕ) (c : Cursor) (p : Spot) : Type 0 where
  pub low : low_layer top_most c ≡ suc p.layer
  pub small : p.layer < top_most
  pub some : 0 < get_or c.masks (suc p.layer) 0
  pub placed : (p.index ≡ place_at top_most c (suc p.layer)) × (0 < get_or c.masks (suc p.layer) 0 → first_bit c (suc p.layer) < 64)
  pub stands : p.at ≡ place_of n (p.layer % suc top_most) p.index

-- the same where a word has to be read, and nothing where none has
abbrev pub Wanted : ℕ → Cursor → Option Spot → Type 0
Wanted n c (Some p) = Spotted n c p
Wanted n c None = is_reading (kind top_most c) ≡ false
