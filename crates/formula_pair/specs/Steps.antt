-- What a step of the descent leaves.
use Rattle.std.specs.Prelude.{true, false, ◌≡◌, ℕ, ◌-◌, Option, None, Some}
use Rattle.walk.specs.Steps.{is_reading, Lowers}
use Rattle.walk.specs.Walk.{low_layer, kind}
use Rattle.walk.specs.declared.Cursor.{Cursor}

-- one word was read where one was wanted below top layer t, and else none
abbrev pub Stepped : (ℕ → ℕ → ℕ) → ℕ → Cursor → Option Cursor → Type 0
Stepped lw t c None = is_reading (kind t c) ≡ false
Stepped lw t c (Some d) = (is_reading (kind t c) ≡ true) × Lowers lw t (low_layer t c - 1) c d
