-- Many members in one call, by one call of next after another: as many members as `out` holds or the budget allows, the same members,
-- reads and cursor as that many calls of next have; places of `out` that are not used stay as they were.
use Rattle.std.specs.Prelude.{cond, List, [], ◌∷◌, ◌++◌, ◌≡◌, refl, ℕ, zero, suc, ◌+◌, ◌-◌, length, get_or, take, drop}
use Rattle.std.proofs.Common.{ap, ap₂}
use Rattle.std.proofs.Math.Seq.{take-append_seam, drop-append_seam}
use Rattle.util.specs.Outcome.{Outcome, Paper}
use Rattle.store.specs.Answer.{number, numbered, numbered_number}
use Rattle.store.specs.Layout.{top, cap, is_store}
use Rattle.store.specs.Word.{word}
use Rattle.walk.specs.Calls.{fits}
use Rattle.walk.specs.Walk.{Kind, next}
use Rattle.walk.specs.Walk.Kind.{gives, reads, done}
use Rattle.walk.specs.declared.Cursor.{Cursor}
use Rattle.walk.specs.declared.Next.{Next}
use Rattle.walk.specs.declared.Next.TheVariants.{Member, Paused, End, Refused}
use Rattle.walk_fill.specs.declared.Batch.{Batch}
use Rattle.walk_fill.specs.declared.Stop.{Stop}
use Rattle.walk_fill.specs.declared.Stop.TheVariants.{Full, Paused as StopPaused, End as StopEnd, Refused as StopRefused}

-- the ids, and the batch that tells of them
pub record Filled : Type 0 where
  pub ids : List ℕ
  pub reads : ℕ
  pub cursor : Cursor
  pub stop : Stop

-- ids and reads before those of a fill
abbrev pub after : List ℕ → ℕ → Filled → Filled
after l r f = record { ids = l ++ f.ids; reads = r + f.reads; cursor = f.cursor; stop = f.stop }

abbrev pub stopped : Stop → ℕ → Cursor → Filled
stopped e r c = record { ids = []; reads = r; cursor = c; stop = e }

-- by the answer of one call of next: a member goes on, at what is left of the budget
abbrev pub go_on : Next → ℕ → Cursor → (Cursor → Filled) → Filled
go_on (Member v) r c on = after (v ∷ []) r (on c)
go_on Paused r c on = stopped StopPaused r c
go_on End r c on = stopped StopEnd r c
go_on (Refused n) r c on = stopped (StopRefused n) r c

-- for so many places
unfoldable pub fill_from : (ℕ → ℕ → ℕ) → ℕ → ℕ → ℕ → Cursor → Filled
fill_from lw t zero b c = stopped Full 0 c
fill_from lw t (suc m) b c =
    let a = next lw t b c in
    go_on a.answer a.reads a.cursor (fill_from lw t m (b - a.reads))

-- why no member is at hand
abbrev pub rest_of : Kind → Stop
rest_of gives = StopEnd
rest_of (reads j) = StopPaused
rest_of done = StopEnd

-- ---- a batch on paper: the refusal's number or 0; 1 for full, 2 for paused, 3 for the end, 0 for a refusal; the number of members; the
-- reads; how many masks there are, the masks, the prefixes

abbrev refusal_in : Stop → ℕ
refusal_in Full = 0
refusal_in StopPaused = 0
refusal_in StopEnd = 0
refusal_in (StopRefused e) = number e

abbrev which : Stop → ℕ
which Full = 1
which StopPaused = 2
which StopEnd = 3
which (StopRefused e) = 0

abbrev numbers : Batch → List ℕ
numbers a =
    let c = a.cursor in
    refusal_in a.stop ∷ which a.stop ∷ a.count ∷ a.reads ∷ length c.masks ∷ (c.masks ++ c.prefix)

abbrev stop_of : ℕ → ℕ → Stop
stop_of n zero = StopRefused (numbered n)
stop_of n (suc zero) = Full
stop_of n (suc (suc zero)) = StopPaused
stop_of n (suc (suc (suc w))) = StopEnd

abbrev read_back : List ℕ → Batch
read_back l = record {
  cursor = record { masks = take (get_or l 4 0) (drop 5 l); prefix = drop (get_or l 4 0) (drop 5 l) };
  reads = get_or l 3 0;
  count = get_or l 2 0;
  stop = stop_of (get_or l 0 0) (get_or l 1 0);
}

abbrev stop_back : (e : Stop) → stop_of (refusal_in e) (which e) ≡ e
stop_back Full = refl
stop_back StopPaused = refl
stop_back StopEnd = refl
stop_back (StopRefused e) = ap StopRefused (numbered_number e)

abbrev batch_back : (a : Batch) → read_back (numbers a) ≡ a
batch_back a =
    let c = a.cursor in
    ap₂ (λ (d : Cursor) (e : Stop). record { cursor = d; reads = a.reads; count = a.count; stop = e })
    (ap₂ (λ (m p : List ℕ). record { masks = m; prefix = p }) (take-append_seam c.masks c.prefix) (drop-append_seam c.masks c.prefix))
    (stop_back a.stop)

abbrev pub batch_paper : Paper Batch
batch_paper = record { numbers = numbers; answer = read_back; same = batch_back }

-- ---- the call

abbrev pub batch : Filled → Batch
batch f = record { cursor = f.cursor; reads = f.reads; count = length f.ids; stop = f.stop }

-- a fill's ids stand first in `out`, and its other places are as they were
abbrev pub filled : Filled → List ℕ → Outcome (List ℕ)
filled f out = record { numbers = batch_paper.numbers (batch f); lent = f.ids ++ drop (length f.ids) out }

-- refusals 2, then 7
unfoldable pub fill_in : List ℕ → Cursor → ℕ → ℕ → Filled
fill_in s c b m =
    let N = cap s in
    let f = fill_from (word N s) (top N) m b c in
    cond (is_store s) (cond (fits (top N) c) f (stopped (StopRefused (numbered 7)) 0 c)) (stopped (StopRefused (numbered 2)) 0 c)

abbrev pub fill_of : List ℕ → Cursor → ℕ → List ℕ → Outcome (List ℕ)
fill_of s c b out = filled (fill_in s c b (length out)) out
