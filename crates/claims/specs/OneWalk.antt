-- Demand 3 on one store by its own calls, and by a reader of it.
use Rattle.std.specs.Prelude.{true, List, ◌≡◌, ℕ, ◌+◌}
use Rattle.store.specs.Layout.{top}
use Rattle.store.specs.Word.{word, members}
use Rattle.walk.specs.declared.Cursor.{Cursor}
use Rattle.walk_laws.specs.Calls.{Ask}
use Rattle.walk_laws.specs.Under.{all_reads}
use Rattle.walk_laws.specs.Walks.{walk_on, Walked}
use Rattle.walk_reader.specs.Readers.{reader_run}

-- "However it is cut by read budgets, a walk that ends has handed out exactly the .. members, each once, ascending, and reported the count
-- of words that the definition says it reads." Its calls are start, and then next and fill in any mix.
abbrev pub OneWalked : List ℕ → Cursor → List Ask → Type 0
OneWalked s k q = (walk_on s k q).over ≡ true → Walked s k q

-- A reader's walk that ends has told exactly the members, and one read less than the definition counts: the top word, read when the
-- reader is made, is not told.
abbrev pub ReaderTold : ℕ → List ℕ → List ℕ → Type 0
ReaderTold N s bs =
    (reader_run s bs).over ≡ true
    → ((reader_run s bs).members ≡ members s) × (1 + (reader_run s bs).total ≡ all_reads (word N s) (top N))
