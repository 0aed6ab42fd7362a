-- Every public call of documents 01 and 02 with its arguments, and what its contract promises: one list, for what is said of all of them.
use Rattle.std.specs.Prelude.{Result, Bool, true, false, ◌||◌, List, [], ◌∷◌, ◌≡◌, refl, ℕ, eqb, length, get_or}
use Rattle.std.proofs.Common.{ap}
use Rattle.std.specs.Borrow.{Bor}
use Rattle.util.specs.Outcome.{Outcome, Paper, Settled}
use Rattle.average.specs.Average.{average_of, paper as half_paper}
use Rattle.store.specs.Answer.{asked_paper, did_paper, number_paper, numbered, refused as refused_by}
use Rattle.store.specs.Layout.{top_most, cap}
use Rattle.store.specs.declared.Refusal.{Refusal}
use Rattle.set_member.specs.Calls.{contains_of}
use Rattle.set_edit.specs.Calls.{add_of, remove_of, add_list_of}
use Rattle.set_whole.specs.Calls.{open_of, clear_of, is_empty_of, equal_of}
use Rattle.set_layers.specs.Calls.{word_of, layer_part}
use Rattle.set_free.specs.Calls.{first_free_of}
use Rattle.set_superset.specs.Calls.{contains_set_of}
use Rattle.summary.specs.Calls.{rebuild_of, is_sound_of}
use Rattle.walk.specs.Calls.{step_paper, start_of, next_in, next_of, refused}
use Rattle.walk.specs.Walk.{start_at}
use Rattle.walk.specs.declared.Cursor.{Cursor}
use Rattle.walk.specs.declared.Step.{Step}
use Rattle.walk_fill.specs.Fill.{batch_paper, batch, stopped, fill_of}
use Rattle.walk_fill.specs.declared.Batch.{Batch}
use Rattle.walk_fill.specs.declared.Stop.TheVariants.{Refused as StopRefused}
use Rattle.walk_batches.specs.Calls.{started_of}
use Rattle.walk_reader.specs.Readers.{told}
use Rattle.walk_reader.specs.declared.BitIter.{BitIter}
use Rattle.walk_reader.specs.declared.Told.{Told}
use Rattle.formula_ask.specs.Calls.{layer_word_of, formula_contains_of, formula_is_empty_of}
use Rattle.formula_walk.specs.Calls.{formula_start_of, formula_next_of}
use Rattle.formula_fill.specs.Calls.{formula_fill_of}
use Rattle.ops_merge.specs.Calls.{BothSound, Assigned}
use Rattle.map_write.specs.Calls.{map_length_of, write_of}
use Rattle.map_read.specs.Calls.{map_capacity_of, read_of}
use Rattle.directory.specs.Calls.{Directory, directory_open_of, give_of, take_back_of}

-- ---- promises

-- What a contract promises. `fixes`: the answer on paper, how it looks where the call refuses with a number, what is lent to be written as it
-- was before, and the outcome. `tells`: a call that refuses nothing and is lent nothing to be written. `merges`: in place, by the code of
-- the operation. `makes`: as `tells`, for a reader of a store at a cursor, which has no numbers on paper since it holds a reference.
pub data Promise : Type 1 where
  fixes : {R X : Type 0} → Paper R → (ℕ → R) → X → Outcome X → Promise
  tells : {R : Type 0} → Paper R → Outcome (Unit {0}) → Promise
  merges : ℕ → List ℕ → List ℕ → Promise
  makes : Bor (List ℕ) → Cursor → Promise

abbrev pub Answered : Promise → Type 0
Answered (fixes {R = R} p f x o) = R
Answered (tells {R = R} p o) = R
Answered (merges op s t) = Result (Unit {0}) Refusal
Answered (makes s c) = BitIter

abbrev pub Memory : Promise → Type 0
Memory (fixes {X = X} p f x o) = X
Memory (tells p o) = Unit {0}
Memory (merges op s t) = List ℕ
Memory (makes s c) = Unit {0}

-- the answer r and the memory y at exit meet the promise: what the contract's `ensures` says
abbrev pub Meets : (p : Promise) → Answered p → Memory p → Type 0
Meets (fixes p f x o) r y = Settled p o r y
Meets (tells p o) r y = Settled p o r y
Meets (merges op s t) r y = Assigned op s t r y
Meets (makes s c) r y = (r.store ≡ s) × (r.cursor ≡ c)

-- ---- refusals

-- "Each returns its number": a refusal's number stands first on paper, and is 0 where nothing is refused
abbrev pub refusal : (p : Promise) → Answered p → ℕ
refusal (fixes p f x o) r = get_or (p.numbers r) 0 0
refusal (tells p o) r = 0
refusal (merges op s t) r = get_or (did_paper.numbers r) 0 0
refusal (makes s c) r = 0

-- the table "Refusals by number", and those of document 02
abbrev pub refusal_numbers : List ℕ
refusal_numbers = 1 ∷ 2 ∷ 3 ∷ 4 ∷ 5 ∷ 6 ∷ 7 ∷ 8 ∷ 9 ∷ 10 ∷ 11 ∷ 12 ∷ 13 ∷ 14 ∷ 15 ∷ []

abbrev pub is_among : List ℕ → ℕ → Bool
is_among [] n = false
is_among (m ∷ l) n = eqb n m || is_among l n

-- "Each returns its number and zeros elsewhere and changes nothing lent; a refused next hands back its cursor as given." The number n is one
-- of the table, and f n is the answer with zeros elsewhere.
pub record Refuses {R X : Type 0} (f : ℕ → R) (x : X) (n : ℕ) (r : R) (y : X) : Type 0 where
  pub known : is_among refusal_numbers n ≡ true
  pub answer : r ≡ f n
  pub memory : y ≡ x

abbrev pub Refused : (p : Promise) → Answered p → Memory p → Type 0
Refused (fixes p f x o) r y = Refuses f x (refusal (fixes p f x o) r) r y
Refused (tells p o) r y = ⊥
Refused (merges op s t) r y = Refuses refused_by s (refusal (merges op s t) r) r y
Refused (makes s c) r y = ⊥

-- ---- what is settled

-- Where the promise settles all: everywhere, but in place where both stores are sound, if the call goes through (docs/EXCEPTIONS.md, 1).
abbrev pub Whole : Promise → Type 0
Whole (fixes p f x o) = Unit {0}
Whole (tells p o) = Unit {0}
Whole (merges op s t) = BothSound s t
Whole (makes s c) = Unit {0}

-- what two outcomes share for every input: all, but in place the answer, the length and word 0
abbrev pub Alike : (p : Promise) → Answered p → Memory p → Answered p → Memory p → Type 0
Alike (fixes p f x o) r y r' y' = (r ≡ r') × (y ≡ y')
Alike (tells p o) r y r' y' = (r ≡ r') × (y ≡ y')
Alike (merges op s t) r y r' y' = (r ≡ r') × (length y ≡ length y') × (cap y ≡ cap y')
Alike (makes s c) r y r' y' = (r ≡ r') × (y ≡ y')

-- ---- the calls

-- A layer handed back, on paper: "an empty part stands for refusal 2, since no layer of a store is empty".
abbrev part_numbers : List ℕ → List ℕ
part_numbers [] = 2 ∷ []
part_numbers (w ∷ l) = 0 ∷ w ∷ l

abbrev part_answer : List ℕ → List ℕ
part_answer [] = []
part_answer (n ∷ l) = l

abbrev part_back : (l : List ℕ) → part_answer (part_numbers l) ≡ l
part_back [] = refl
part_back (w ∷ l) = refl

abbrev pub part_paper : Paper (List ℕ)
part_paper = record { numbers = part_numbers; answer = part_answer; same = part_back }

abbrev pub layer_part_of : List ℕ → ℕ → Outcome (Unit {0})
layer_part_of s k = record { numbers = part_paper.numbers (layer_part s k); lent = tt }

-- A reader's step, on paper: "the reads made and one of: member, paused, end". The reader keeps the cursor, so zeros stand for it.
abbrev step_of : Told → Step
step_of a = record { cursor = start_at top_most 0; reads = a.reads; answer = a.answer }

abbrev pub told_paper : Paper Told
told_paper = record {
  numbers = λ a. step_paper.numbers (step_of a);
  answer = λ l. told (step_paper.answer l);
  same = λ a. ap told (step_paper.same (step_of a));
}

-- a refused step of a reader: its number and no reads
abbrev pub told_refused : ℕ → Told
told_refused n = told (refused n (start_at top_most 0))

-- a reader's step: what it tells, and what is lent with the step's cursor in it
abbrev pub told_of : {X : Type 0} → Step → (Cursor → X) → Outcome X
told_of a at = record { numbers = told_paper.numbers (told a); lent = at a.cursor }

-- the reader of the same store at another cursor
abbrev pub moved_to : BitIter → Cursor → BitIter
moved_to it c = record { store = it.store; cursor = c }

-- what a reader's `next` ensures, by equations, where a is the step
abbrev pub Moves : BitIter → Step → Told → BitIter → Type 0
Moves it a r y = (y.store ≡ it.store) × (y.cursor ≡ a.cursor) × (r ≡ told a)

-- s, t: stores; i: an id; k: a layer's number; c: a cursor; b: a budget of reads; out: places for ids; ss, cs: the four slices and the codes
-- of a formula; m: the bytes of a map; d: a directory, x: an item; v: a lent store by its reference; it: a reader. Names as in the Rust, where the calls over a formula end
-- in F and those of a reader in R.
pub data Call : Type 0 where
  «open» : (s : List ℕ) (n : ℕ) → Call
  add remove contains : (s : List ℕ) (i : ℕ) → Call
  add_list : (s ids : List ℕ) → Call
  is_empty clear : (s : List ℕ) → Call
  contains_set equal : (s t : List ℕ) → Call
  get_from_layer : (s : List ℕ) (k i : ℕ) → Call
  layer_as_slice : (s : List ℕ) (k : ℕ) → Call
  average_ones : (w : ℕ) → Call
  first_free is_sound rebuild : (s : List ℕ) → Call
  bitor_assign bitand_assign bitxor_assign : (s t : List ℕ) → Call
  start : (s : List ℕ) (c : Cursor) → Call
  next : (s : List ℕ) (c : Cursor) (b : ℕ) → Call
  fill : (s : List ℕ) (c : Cursor) (b : ℕ) (out : List ℕ) → Call
  contains_f : (ss : List (List ℕ)) (cs : List ℕ) (i : ℕ) → Call
  is_empty_f : (ss : List (List ℕ)) (cs : List ℕ) → Call
  get_from_layer_f : (ss : List (List ℕ)) (cs : List ℕ) (k i : ℕ) → Call
  start_f : (ss : List (List ℕ)) (cs : List ℕ) (c : Cursor) → Call
  next_f : (ss : List (List ℕ)) (cs : List ℕ) (c : Cursor) (b : ℕ) → Call
  fill_f : (ss : List (List ℕ)) (cs : List ℕ) (c : Cursor) (b : ℕ) (out : List ℕ) → Call
  write : (s m : List ℕ) → Call
  read : (m s : List ℕ) → Call
  map_length : (s : List ℕ) → Call
  map_capacity : (m : List ℕ) → Call
  open_directory : (d : Directory) (n : ℕ) → Call
  give : (d : Directory) (x : ℕ) → Call
  take_back : (d : Directory) (x i : ℕ) → Call
  iter_r : (v : Bor (List ℕ)) → Call
  next_r : (it : BitIter) (b : ℕ) → Call
  first_r : (s : List ℕ) (b : ℕ) → Call

-- a refused batch: nothing handed out, no reads, the cursor as given
abbrev pub no_batch : Cursor → ℕ → Batch
no_batch c n = batch (stopped (StopRefused (numbered n)) 0 c)

-- each call's promise: `ensures` of the function, with the lists that are lent
abbrev pub promise_of : Call → Promise
promise_of («open» s n) = fixes did_paper refused_by s (open_of s n)
promise_of (add s i) = fixes asked_paper refused_by s (add_of s i)
promise_of (remove s i) = fixes asked_paper refused_by s (remove_of s i)
promise_of (contains s i) = fixes asked_paper refused_by tt (contains_of s i)
promise_of (add_list s ids) = fixes did_paper refused_by s (add_list_of s ids)
promise_of (is_empty s) = fixes asked_paper refused_by tt (is_empty_of s)
promise_of (clear s) = fixes did_paper refused_by s (clear_of s)
promise_of (contains_set s t) = fixes asked_paper refused_by tt (contains_set_of s t)
promise_of (equal s t) = fixes asked_paper refused_by tt (equal_of s t)
promise_of (get_from_layer s k i) = fixes number_paper refused_by tt (word_of s k i)
promise_of (layer_as_slice s k) = fixes part_paper (λ n. []) tt (layer_part_of s k)
promise_of (average_ones w) = tells half_paper (average_of w)
promise_of (first_free s) = fixes number_paper refused_by tt (first_free_of s)
promise_of (is_sound s) = fixes asked_paper refused_by tt (is_sound_of s)
promise_of (rebuild s) = fixes did_paper refused_by s (rebuild_of s)
promise_of (bitor_assign s t) = merges 17 s t
promise_of (bitand_assign s t) = merges 16 s t
promise_of (bitxor_assign s t) = merges 18 s t
promise_of (start s c) = fixes step_paper (λ n. refused n c) tt (start_of s c)
promise_of (next s c b) = fixes step_paper (λ n. refused n c) tt (next_of s c b)
promise_of (fill s c b out) = fixes batch_paper (no_batch c) out (fill_of s c b out)
promise_of (contains_f ss cs i) = fixes asked_paper refused_by tt (formula_contains_of ss cs i)
promise_of (is_empty_f ss cs) = fixes asked_paper refused_by tt (formula_is_empty_of ss cs)
promise_of (get_from_layer_f ss cs k i) = fixes number_paper refused_by tt (layer_word_of ss cs k i)
promise_of (start_f ss cs c) = fixes step_paper (λ n. refused n c) tt (formula_start_of ss cs c)
promise_of (next_f ss cs c b) = fixes step_paper (λ n. refused n c) tt (formula_next_of ss cs c b)
promise_of (fill_f ss cs c b out) = fixes batch_paper (no_batch c) out (formula_fill_of ss cs c b out)
promise_of (write s m) = fixes number_paper refused_by m (write_of s m)
promise_of (read m s) = fixes did_paper refused_by s (read_of m s)
promise_of (map_length s) = fixes number_paper refused_by tt (map_length_of s)
promise_of (map_capacity m) = fixes number_paper refused_by tt (map_capacity_of m)
promise_of (open_directory d n) = fixes did_paper refused_by d (directory_open_of d n)
promise_of (give d x) = fixes number_paper refused_by d (give_of d x)
promise_of (take_back d x i) = fixes did_paper refused_by d (take_back_of d x i)
promise_of (iter_r v) = makes v (started_of v.now)
promise_of (next_r it b) = fixes told_paper told_refused it (told_of (next_in it.store.now it.cursor b) (moved_to it))
promise_of (first_r s b) = fixes told_paper told_refused tt (told_of {X = Unit {0}} (next_in s (started_of s) b) (λ c. tt))
