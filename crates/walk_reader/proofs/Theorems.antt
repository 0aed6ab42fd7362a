-- A reader's walk is the walk of its store by next alone, but that it tells no read for the top word; and a slice that is no store.
use mathlib.Core.Bool.{true, false}
use mathlib.Core.List.{List, [], ◌∷◌, map}
use mathlib.Core.Path.{◌≡◌, refl, sym, ap, ◌∙◌}
use Prim.Native.Nat.{ℕ, ◌+◌}
use Rattle.store.specs.Answer.{numbered}
use Rattle.store.specs.Layout.{top_most, top, cap, is_store}
use Rattle.store.specs.declared.Refusal.TheVariants.{NoStore}
use Rattle.store.specs.Word.{word, members, Words64, SoundStore}
use Rattle.store.proofs.Geometry.{store_is}
use Rattle.walk.specs.Calls.{refused, start_in, next_in}
use Rattle.walk.specs.Walk.{start_at}
use Rattle.walk.specs.declared.Cursor.{Cursor}
use Rattle.walk.specs.declared.Next.{Next}
use Rattle.walk.specs.declared.Next.TheVariants.{Member, Paused, End, Refused}
use Rattle.walk.specs.declared.Step.{Step}
use Rattle.walk.proofs.Answers.{started_is}
use Rattle.walk_fill.specs.Fill.{stopped, go_on}
use Rattle.walk_fill.specs.declared.Stop.TheVariants.{Full}
use Rattle.walk_laws.specs.Calls.{alone, Run, onward, run_by}
use Rattle.walk_laws.specs.Calls.Ask.{one}
use Rattle.walk_laws.specs.Under.{all_reads}
use Rattle.walk_laws.specs.Walks.{call_on, walk_on}
use Rattle.walk_laws.proofs.Store.{walk_defined, store_members}
use Rattle.walk_batches.specs.Calls.{started_of}
use Rattle.walk_reader.specs.Readers.{told, reader_from, reader_run}

-- a step as a fill of one place keeps its cursor
kept_cursor : (o : Next) (r : ℕ) (c : Cursor) → (go_on o r c (stopped Full 0)).cursor ≡ c
kept_cursor (Member v) r c = refl
kept_cursor Paused r c = refl
kept_cursor End r c = refl
kept_cursor (Refused n) r c = refl

from_is : (s : List ℕ) (c : Cursor) (bs : List ℕ) → reader_from s c bs ≡ run_by (call_on s) c (map one bs)
unfolding reader_from run_by
from_is s c [] = refl
from_is s c (b ∷ bs) =
    let a = next_in s c b in
    let f = alone a in
    ap (onward f.stop f.ids f.reads)
    (from_is s a.cursor bs ∙ ap (λ (d : Cursor). run_by (call_on s) d (map one bs)) (sym (kept_cursor a.answer a.reads a.cursor)))

module _ (s : List ℕ) (bs : List ℕ) where
  -- the walk that is started with the cursor of zeros
  run_is : reader_run s bs ≡ walk_on s (start_at top_most 0) (map one bs)
  run_is = from_is s (started_of s) bs

  -- "The definition's count: the top word, and each word whose summary bit is set in a word that is read." A READER'S WALK that ends, of any
  -- store, has told one read less: the top word is read when the reader is made, and that read is not told.
  pub reader_total : is_store s ≡ true → Words64 s → (reader_run s bs).over ≡ true → 1 + (reader_run s bs).total ≡ all_reads (word (cap s) s) (top (cap s))
  reader_total is small e =
      let d = walk_defined s is small (start_at top_most 0) (map one bs) (sym (ap (λ (w : Run). w.over) run_is) ∙ e) in
      let r : (start_in s (start_at top_most 0)).reads ≡ 1 = ap (λ (a : Step). a.reads) (started_is (store_is is) (start_at top_most 0)) in
      ap (λ (w : Run). 1 + w.total) run_is ∙ ap (λ (n : ℕ). n + (walk_on s (start_at top_most 0) (map one bs)).total) (sym r) ∙ d.1

  -- of a sound store it has told exactly the members, ascending
  pub reader_members : {N : ℕ} → SoundStore N s → (reader_run s bs).over ≡ true → (reader_run s bs).members ≡ members s
  reader_members f e =
      ap (λ (w : Run). w.members) run_is ∙ (store_members f (start_at top_most 0) (map one bs) (sym (ap (λ (w : Run). w.over) run_is) ∙ e)).members-all

-- A READER OF A SLICE THAT IS NO STORE is made with a cursor of zeros. Every step of it is refused: "Each returns its number and zeros
-- elsewhere and changes nothing lent; a refused next hands back its cursor as given."
pub reader_no_store : (s : List ℕ) → is_store s ≡ false
    → (started_of s ≡ start_at top_most 0) × ((c : Cursor) (b : ℕ) → (told (next_in s c b) ≡ record { reads = 0; answer = Refused NoStore }) × ((next_in s c b).cursor ≡ c))
unfolding start_in next_in numbered
reader_no_store s h =
    let e : start_in s (start_at top_most 0) ≡ refused 2 (start_at top_most 0) = rw h in
    (ap (λ (a : Step). a.cursor) e, λ c b. (let f : next_in s c b ≡ refused 2 c = rw h in (ap told f, ap (λ (a : Step). a.cursor) f)))
