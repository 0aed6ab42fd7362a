-- "Every public call carries a promise that settles result and lent memory for all inputs, refusals too. Any two outcomes that satisfy it are
-- proved equal; exceptions are listed in docs/EXCEPTIONS.md, each with the ground for it."
use mathlib.Core.Bool.{true, ◌&&◌}
use mathlib.Core.List.{List}
use mathlib.Core.Path.{◌≡◌, refl, sym, ap, ap₂, ◌∙◌}
use Prim.Native.Nat.{ℕ}
use lib.Dec.{eqb}
use lib.ListN.{length}
use denote.Ref.{Bor}
use Rattle.std.specs.Prelude.{Ok}
use Rattle.util.specs.Outcome.{settles}
use Rattle.util.proofs.Same.{both}
use Rattle.store.specs.Layout.{cap, is_store}
use Rattle.store.specs.Word.{Sound}
use Rattle.store.proofs.Members.{own}
use Rattle.set_layers.specs.Calls.{layer_part}
use Rattle.walk.specs.Calls.{next_in}
use Rattle.walk.specs.declared.Cursor.{Cursor}
use Rattle.walk_batches.specs.Calls.{started_of}
use Rattle.walk_reader.specs.Readers.{told}
use Rattle.walk_reader.specs.declared.BitIter.{BitIter}
use Rattle.walk_reader.specs.declared.Told.{Told}
use Rattle.ops_merge.specs.Calls.{mergeable, assign_of}
use Rattle.ops_merge.proofs.Theorems.{assigned_answers, assigned_settles}
use Rattle.claims.specs.Calls.{Promise, Answered, Memory, Meets, Whole, Alike, Call, promise_of, told_paper, Moves}
use Rattle.claims.specs.Calls.Call.{layer_as_slice, next_r, first_r}
use Rattle.claims.specs.Calls.Promise.{fixes, tells, merges, makes}
use Rattle.claims.specs.Reached.{Reached}
use Rattle.claims.proofs.Histories.{reached_fine}

-- readers of one store at one cursor are one
same_reader : {r r' : BitIter} → r.store ≡ r'.store → r.cursor ≡ r'.cursor → r ≡ r'
same_reader = ap₂ (λ (t : Bor (List ℕ)) (d : Cursor). record { store = t; cursor = d })

made : {s : Bor (List ℕ)} {c : Cursor} {r r' : BitIter} {y y' : Unit {0}} → (r.store ≡ s) × (r.cursor ≡ c) → (r'.store ≡ s) × (r'.cursor ≡ c)
    → (r ≡ r') × (y ≡ y')
made a b = (same_reader (a.0 ∙ sym b.0) (a.1 ∙ sym b.1), refl)

-- one law for every promise
settle : (p : Promise) → Whole p → (r r' : Answered p) (y y' : Memory p) → Meets p r y → Meets p r' y' → (r ≡ r') × (y ≡ y')
settle (fixes p f x o) w r r' y y' a b = settles a b
settle (tells p o) w r r' y y' a b = settles a b
settle (merges op s t) w r r' y y' a b = assigned_settles a b w
settle (makes s c) w r r' y y' a b = made a b

share : (p : Promise) (r r' : Answered p) (y y' : Memory p) → Meets p r y → Meets p r' y' → Alike p r y r' y'
share (fixes p f x o) r r' y y' a b = settles a b
share (tells p o) r r' y y' a b = settles a b
share (merges op s t) r r' y y' a b = assigned_answers a b
share (makes s c) r r' y y' a b = made a b

-- ANY TWO OUTCOMES that meet a call's promise are equal: for every input, but in place where both stores are sound
pub settled_whole : (c : Call) → Whole (promise_of c) → (r r' : Answered (promise_of c)) (y y' : Memory (promise_of c)) → Meets (promise_of c) r y
    → Meets (promise_of c) r' y' → (r ≡ r') × (y ≡ y')
settled_whole c = settle (promise_of c)

-- THE EXCEPTION: for every input the answer is fixed, and of the memory, where not all is, the length and word 0
pub settled_alike : (c : Call) (r r' : Answered (promise_of c)) (y y' : Memory (promise_of c)) → Meets (promise_of c) r y → Meets (promise_of c) r' y'
    → Alike (promise_of c) r y r' y'
settled_alike c = share (promise_of c)

-- on stores that our calls reached there is none
pub reached_whole : {N M : ℕ} {s t : List ℕ} → Reached N s → Reached M t → (op : ℕ) → Whole (merges op s t)
reached_whole r q op h = ((own (reached_fine r)).sound, (own (reached_fine q)).sound)

-- and no more is fixed than that: two stores of equal capacity that are not both sound may become any list with that length and word 0
pub exception_open : (op : ℕ) (s t u : List ℕ) → mergeable s t ≡ true → (((Sound (cap s) s) × (Sound (cap t) t)) → ⊥) → length u ≡ length s → cap u ≡ cap s
    → Meets (merges op s t) (Ok tt) u
unfolding mergeable assign_of
exception_open op s t u h n l c =
    let b = both (is_store s && is_store t) (eqb (cap s) (cap t)) h in
    record { answer = rw (b.0, b.1); long = l; names = c; whole = λ z. absurd (n (z h)) }

-- the words of a layer handed back are promised by an equation, which is its outcome on paper
pub part_meets : (s : List ℕ) (k : ℕ) (r : List ℕ) → r ≡ layer_part s k → Meets (promise_of (layer_as_slice s k)) r tt
part_meets s k r e = rw e (record { answer = refl; memory = refl })

-- and so is what a reader's step tells, by the equations of its contract
pub moves_meets : (it : BitIter) (b : ℕ) (r : Told) (y : BitIter) → Moves it (next_in it.store.now it.cursor b) r y → Meets (promise_of (next_r it b)) r y
moves_meets it b r y e = record { answer = ap told_paper.numbers e.2; memory = same_reader e.0 e.1 }

pub first_meets : (s : List ℕ) (b : ℕ) (r : Told) → r ≡ told (next_in s (started_of s) b) → Meets (promise_of (first_r s b)) r tt
first_meets s b r e = record { answer = ap told_paper.numbers e; memory = refl }
