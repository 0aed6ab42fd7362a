-- Where a walk starts, for all inputs.
use Rattle.store.specs.Layout.{top_most}
use Rattle.std.specs.Prelude.{List, ℕ}
use Rattle.walk.specs.Calls.{start_in}
use Rattle.walk.specs.Walk.{start_at}
use Rattle.walk.specs.declared.Cursor.{Cursor}

-- the cursor of a walk that is started, for a caller with none
abbrev pub started_of : List ℕ → Cursor
started_of s = (start_in s (start_at top_most 0)).cursor
