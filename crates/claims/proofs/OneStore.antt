-- DEMAND 3 on one store by its own calls, and by a reader: over every store that our calls reached.
use mathlib.Core.Bool.{true}
use mathlib.Core.List.{List}
use mathlib.Core.Path.{◌≡◌, sym, subst}
use Prim.Native.Nat.{ℕ, ◌+◌, ◌≤◌}
use lib.ListN.{length}
use Rattle.store.specs.Layout.{top, cap}
use Rattle.store.specs.Word.{word, member_count}
use Rattle.store.proofs.Geometry.{is_store_lem}
use Rattle.walk.specs.Calls.{start_in}
use Rattle.walk.specs.Walk.{start_at}
use Rattle.walk.specs.declared.Cursor.{Cursor}
use Rattle.walk.specs.declared.Next.TheVariants.{Paused}
use Rattle.walk.proofs.Answers.{started_is}
use Rattle.walk_laws.specs.Calls.{Ask, Some, AllStopped}
use Rattle.walk_laws.specs.Under.{all_reads}
use Rattle.walk_laws.specs.Walks.{Spaced, SpacedAs, FewReads, next_on, fill_on, call_on, walk_on}
use Rattle.walk_laws.proofs.Bounds.{spaced_reads}
use Rattle.walk_laws.proofs.Store.{store_members, store_ends, store_keeps, store_gaps, store_fill_gaps}
use Rattle.walk_reader.specs.Readers.{reader_run}
use Rattle.walk_reader.proofs.Theorems.{reader_total, reader_members}
use Rattle.claims.specs.OneWalk.{OneWalked, ReaderTold}
use Rattle.claims.specs.Reached.{Reached}
use Rattle.claims.proofs.Histories.{reached_fine}

module _ {N : ℕ} {s : List ℕ} (r : Reached N s) where
  named : cap s ≡ N
  named = (reached_fine r).is.names

  -- "Starting reads the top word and reports one read.", and does not refuse
  pub one_starts : (k : Cursor) → start_in s k ≡ record { cursor = start_at (top N) (word N s (top N) 0); reads = 1; answer = Paused }
  one_starts = started_is (reached_fine r).is

  -- A WALK that ends has handed out exactly the members and reported the definition's reads
  pub one-members : (k : Cursor) (q : List Ask) → OneWalked s k q
  one-members = store_members (reached_fine r)

  -- it does end, and no call refuses or reads past its budget
  pub one_ends : (k : Cursor) (q : List Ask) → Some q → all_reads (word N s) (top N) + member_count s ≤ length q → (walk_on s k q).over ≡ true
  one_ends k q some h =
      store_ends (reached_fine r) k q some (subst (λ (n : ℕ). all_reads (word n s) (top n) + member_count s ≤ length q) (sym named) h)

  pub one_keeps : (k : Cursor) (q : List Ask) → AllStopped (call_on s) q (start_in s k).cursor
  one_keeps = store_keeps (reached_fine r)

  -- "On one store .., after the top word, at most three words are read before each next member and none before the end.": of next alone, and
  -- of next and fill in any mix, which hand out and read what next alone does
  pub one_gaps : (k : Cursor) (bs : List ℕ) → Spaced (top N) (next_on s) bs (start_in s k).cursor 0
  one_gaps k bs = subst (λ (n : ℕ). Spaced (top n) (next_on s) bs (start_in s k).cursor 0) named (store_gaps (reached_fine r) k bs)

  pub one_fill_gaps : (k : Cursor) (q : List Ask) → SpacedAs (top N) (next_on s) (fill_on s) q (start_in s k).cursor
  one_fill_gaps k q =
      subst (λ (n : ℕ). SpacedAs (top n) (next_on s) (fill_on s) q (start_in s k).cursor) named (store_fill_gaps (reached_fine r) k q)

  -- so in all they read at most three words for each member handed out and three more, and where they ended none more
  pub one_reads : (k : Cursor) (q : List Ask) → FewReads (top N) (walk_on s k q)
  one_reads k q = spaced_reads (one_fill_gaps k q)

  -- A READER'S walk that ends has told exactly the members, and one read less than the definition counts
  pub reader_told : (bs : List ℕ) → ReaderTold N s bs
  reader_told bs e =
      let f = reached_fine r in (
        reader_members s bs f e,
        subst (λ (n : ℕ). 1 + (reader_run s bs).total ≡ all_reads (word n s) (top n)) named (reader_total s bs (is_store_lem f.is) f.words e),
      )
