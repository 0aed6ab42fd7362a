-- The stores of demand 3: "stores of one capacity reached from opening by our calls on such stores".
use Rattle.std.specs.Prelude.{List, ◌≡◌, ℕ, ◌≤◌, length}
use Rattle.std.specs.Prelude.{Result}
use Rattle.store.specs.declared.Refusal.{Refusal}
use Rattle.store.specs.Layout.{max_cap, store_len}
use Rattle.store.specs.Word.{SoundStore}
use Rattle.set_edit.specs.Calls.{add_of, remove_of, add_list_of}
use Rattle.set_whole.specs.Calls.{open_of, clear_of}
use Rattle.summary.specs.Calls.{rebuild_of}
use Rattle.ops_merge.specs.Calls.{Assigned}
use Rattle.map_read.specs.Calls.{read_of}

-- One call on a store s of capacity N leaves u: a constructor for each public call that changes a store, with any arguments. A refused call
-- leaves what it was lent; a store that is merged into s is sound, as every reached one is.
pub data OneCall : ℕ → List ℕ → List ℕ → Type 0 where
  adds : {N : ℕ} {s : List ℕ} (i : ℕ) → OneCall N s (add_of s i).lent
  removes : {N : ℕ} {s : List ℕ} (i : ℕ) → OneCall N s (remove_of s i).lent
  lists : {N : ℕ} {s : List ℕ} (ids : List ℕ) → OneCall N s (add_list_of s ids).lent
  clears : {N : ℕ} {s : List ℕ} → OneCall N s (clear_of s).lent
  rebuilds : {N : ℕ} {s : List ℕ} → OneCall N s (rebuild_of s).lent
  merges : {N M : ℕ} {s t u : List ℕ} {r : Result (Unit {0}) Refusal} → SoundStore M t → (op : ℕ) → Assigned op s t r u → OneCall N s u
  reads : {N : ℕ} {s : List ℕ} (m : List ℕ) → OneCall N s (read_of m s).lent

pub data Reached : ℕ → List ℕ → Type 0 where
  opened : {N : ℕ} (s : List ℕ) → 1 ≤ N → N ≤ max_cap → length s ≡ store_len N → Reached N (open_of s N).lent
  after : {N : ℕ} {s u : List ℕ} → Reached N s → OneCall N s u → Reached N u
