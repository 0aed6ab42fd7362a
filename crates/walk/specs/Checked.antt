-- What the check of a cursor answers.
use Rattle.std.specs.Prelude.{◌≡◌, ◌≢◌, ℕ, Result, Ok, Err}
use Rattle.store.specs.Answer.{numbered}
use Rattle.store.specs.declared.Refusal.{Refusal}
use Rattle.walk.specs.declared.Cursor.{Cursor}
use Rattle.walk.specs.declared.over.Ready.{Ready}

-- by the number of what stands in the way, 0 being nothing
abbrev pub Checked : ℕ → Cursor → Result Ready Refusal → Type 0
Checked n c (Ok r) = (n ≡ 0) × (r.cursor ≡ c)
Checked n c (Err e) = (n ≢ 0) × (e ≡ numbered n)
