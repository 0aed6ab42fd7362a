-- A step of the descent that reads a word.
use Rattle.std.proofs.Common.{ℕ, ◌≡◌, suc, ◌<◌, Some}
use Rattle.walk.specs.Steps.{Lowers}
use Rattle.walk.specs.Walk.{low_layer}
use Rattle.walk.specs.declared.Cursor.{Cursor}
use Rattle.walk.proofs.Cursors.{wants_at, lowers_at}
use Rattle.formula_pair.specs.Steps.{Stepped}

pub steps_one : {lw lw' : ℕ → ℕ → ℕ} {t j : ℕ} {c d : Cursor} → low_layer t c ≡ suc j → j < t → ((i : ℕ) → lw j i ≡ lw' j i) → Lowers lw t j c d
    → Stepped lw' t c (Some d)
steps_one {t = t} {c = c} low h same l = (wants_at t c low h, lowers_at low same l)
