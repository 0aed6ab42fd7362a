-- What a reader's steps tell. Document 01: "A walk of one store is also wanted as a reader that holds the lent store beside its cursor."
use Rattle.std.specs.Prelude.{false, List, [], ◌∷◌, ℕ}
use Rattle.walk.specs.Calls.{next_in}
use Rattle.walk.specs.declared.Cursor.{Cursor}
use Rattle.walk.specs.declared.Step.{Step}
use Rattle.walk_fill.specs.Fill.{stopped, go_on}
use Rattle.walk_fill.specs.declared.Stop.TheVariants.{Full}
use Rattle.walk_laws.specs.Calls.{Run, onward}
use Rattle.walk_batches.specs.Calls.{started_of}
use Rattle.walk_reader.specs.declared.Told.{Told}

-- "Next takes a budget of word reads and hands back the cursor, the reads made and one of: member, paused, end." The reader keeps the
-- cursor, and the rest is told.
abbrev pub told : Step → Told
told a = record { reads = a.reads; answer = a.answer }

-- the steps of a reader of s at budgets, one after another until one tells the end, from the cursor c that it keeps: the ids told, the reads
-- told, summed, and whether the end was
unfoldable pub reader_from : List ℕ → Cursor → List ℕ → Run
reader_from s c [] = record { members = []; total = 0; over = false }
reader_from s c (b ∷ bs) =
    let a = next_in s c b in
    let r = told a in
    let f = go_on r.answer r.reads a.cursor (stopped Full 0) in
    onward f.stop f.ids f.reads (reader_from s a.cursor bs)

-- the same of a reader as `iter` makes it
abbrev pub reader_run : List ℕ → List ℕ → Run
reader_run s bs = reader_from s (started_of s) bs
