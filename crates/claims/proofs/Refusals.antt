-- DEMAND 1: "A refusal has a fixed number and alters nothing lent." Of every public call, for all inputs.
use mathlib.Core.Bool.{true, ◌&&◌}
use mathlib.Core.List.{List, [], ◌∷◌}
use mathlib.Core.Logic.{◌≢◌}
use mathlib.Core.Path.{◌≡◌, refl, sym, ap, ◌∙◌, subst}
use Prim.Native.Nat.{ℕ, zero, suc, ◌-◌, ◌<◌, min}
use native.Mathlib.Decide.{dec_lt}
use native.Mathlib.Omega.{arith}
use lib.Dec.{leb, ltb, eqb}
use lib.ListN.{length, get_or}
use Rattle.std.specs.Prelude.{Result}
use Rattle.store.specs.declared.Refusal.{Refusal}
use Rattle.util.proofs.Same.{both}
use Rattle.store.specs.Answer.{asked_paper, did_paper, number_paper, numbered, numbered_number, refusal_number, refused as refused_by}
use Rattle.store.specs.Layout.{top, is_cap, store_len, cap, is_store}
use Rattle.set_member.specs.Calls.{contains_of}
use Rattle.set_edit.specs.Calls.{move_of, add_of, remove_of, all_below, add_list_of}
use Rattle.set_whole.specs.Calls.{open_refusal, open_of, clear_of, is_empty_of, equal_of}
use Rattle.set_layers.specs.Calls.{word_of, layer_part}
use Rattle.set_free.specs.Calls.{search_start, free_from, first_of, first_free_of}
use Rattle.set_superset.specs.Calls.{contains_set_of}
use Rattle.summary.specs.Calls.{rebuild_of, is_sound_of}
use Rattle.walk.specs.Calls.{step_paper, written, refused, fits, start_in, next_in}
use Rattle.walk.specs.Walk.{Kind, kind, by_kind, paused, more, descend, next as walk_next}
use Rattle.walk.specs.Walk.Kind.{gives as gives_one, reads, done}
use Rattle.walk.specs.declared.Cursor.{Cursor}
use Rattle.walk.specs.declared.Next.{Next}
use Rattle.walk.specs.declared.Next.TheVariants.{Member, Paused, End, Refused as NextRefused}
use Rattle.walk.specs.declared.Step.{Step}
use Rattle.walk_fill.specs.Fill.{Filled, batch_paper, batch, filled, stopped, go_on, fill_from, fill_in}
use Rattle.walk_fill.specs.declared.Stop.TheVariants.{Refused as StopRefused}
use Rattle.walk_batches.specs.Calls.{started_of}
use Rattle.walk_reader.specs.Readers.{told}
use Rattle.formula_codes.specs.Check.{beside_of, sooner, stores_of, check_of}
use Rattle.formula_codes.specs.Codes.{is_formula}
use Rattle.formula_codes.specs.Tree.{nth}
use Rattle.formula_ask.specs.Calls.{cap_of, layer_word_of, formula_contains_of, formula_is_empty_of}
use Rattle.formula_walk.specs.Calls.{refusal_in, formula_start_in, formula_next_in}
use Rattle.formula_fill.specs.Calls.{formula_fill_in}
use Rattle.ops_merge.specs.Calls.{mergeable, assign_of, Assigned}
use Rattle.map_write.specs.Calls.{map_length_of, write_of}
use Rattle.map_write.specs.Map.{told_words, map_len}
use Rattle.map_read.specs.Calls.{map_capacity_of, read_of}
use Rattle.map_read.specs.Judge.{cap_in, count_in, used_in, table_in, head_ok, good, total, judge_of}
use Rattle.directory.specs.Calls.{Directory, owner_at, is_item, room_refusal, item_refusal, return_refusal, directory_open_of, give_of, take_back_of}
use Rattle.claims.specs.Calls.{Answered, Memory, Meets, refusal, Refuses, Refused, Call, promise_of, part_paper, layer_part_of, no_batch, told_paper, told_refused, told_of, moved_to}
use Rattle.claims.specs.Calls.Call.{«open», add, remove, contains, add_list, is_empty, clear, contains_set, equal, get_from_layer, layer_as_slice, average_ones, first_free, is_sound, rebuild, bitor_assign, bitand_assign, bitxor_assign, start, next, fill, contains_f, is_empty_f, get_from_layer_f, start_f, next_f, fill_f, write, read, map_length, map_capacity, open_directory, give, take_back, iter_r, next_r, first_r}
use Rattle.claims.proofs.Stays.{by_cond, is_known, number_known, Stays, goes, no_goes, choose, refuses_so}

-- 0, or a number of the table
abbrev Known : ℕ → Type 0
Known n = is_known n ≡ true

-- ---- calls on one store

open_known : (n len : ℕ) → Known (open_refusal n len)
unfolding open_refusal
open_known n len = by_cond Known (is_cap n) (by_cond Known (eqb len (store_len n)) refl refl) refl

open_stays : (s : List ℕ) (n : ℕ) → Stays did_paper refused_by s (open_of s n)
unfolding open_of
open_stays s n = choose (eqb (open_refusal n (length s)) 0) (goes refl) (no_goes _ (open_known n (length s)) refl)

add_stays : (s : List ℕ) (i : ℕ) → Stays asked_paper refused_by s (add_of s i)
unfolding move_of
add_stays s i = choose (is_store s) (choose (ltb i (cap s)) (goes refl) (no_goes 3 refl refl)) (no_goes 2 refl refl)

remove_stays : (s : List ℕ) (i : ℕ) → Stays asked_paper refused_by s (remove_of s i)
unfolding move_of
remove_stays s i = choose (is_store s) (choose (ltb i (cap s)) (goes refl) (goes refl)) (no_goes 2 refl refl)

contains_stays : (s : List ℕ) (i : ℕ) → Stays asked_paper refused_by tt (contains_of s i)
unfolding contains_of
contains_stays s i = choose (is_store s) (goes refl) (no_goes 2 refl refl)

list_stays : (s ids : List ℕ) → Stays did_paper refused_by s (add_list_of s ids)
unfolding add_list_of
list_stays s ids = choose (is_store s) (choose (all_below (cap s) ids) (goes refl) (no_goes 3 refl refl)) (no_goes 2 refl refl)

empty-stays : (s : List ℕ) → Stays asked_paper refused_by tt (is_empty_of s)
unfolding is_empty_of
empty-stays s = choose (is_store s) (goes refl) (no_goes 2 refl refl)

clear_stays : (s : List ℕ) → Stays did_paper refused_by s (clear_of s)
unfolding clear_of
clear_stays s = choose (is_store s) (goes refl) (no_goes 2 refl refl)

set-stays : (s t : List ℕ) → Stays asked_paper refused_by tt (contains_set_of s t)
unfolding contains_set_of
set-stays s t = choose (is_store s && is_store t) (choose (eqb (cap s) (cap t)) (goes refl) (no_goes 5 refl refl)) (no_goes 2 refl refl)

equal_stays : (s t : List ℕ) → Stays asked_paper refused_by tt (equal_of s t)
unfolding equal_of
equal_stays s t = choose (is_store s && is_store t) (choose (eqb (cap s) (cap t)) (goes refl) (no_goes 5 refl refl)) (no_goes 2 refl refl)

word-stays : (s : List ℕ) (k i : ℕ) → Stays number_paper refused_by tt (word_of s k i)
unfolding word_of
word-stays s k i = choose (is_store s) (choose (leb k (top (cap s))) (goes refl) (no_goes 4 refl refl)) (no_goes 2 refl refl)

part_stays : (s : List ℕ) (k : ℕ) → Stays part_paper (λ n. []) tt (layer_part_of s k)
part_stays s k = go (layer_part s k)
  where
    go : (l : List ℕ) → Stays {X = Unit {0}} part_paper (λ n. []) tt (record { numbers = part_paper.numbers l; lent = tt })
    go [] = record { known = refl; numbers = λ n. refl; lent = λ n. refl }
    go (w ∷ l) = goes refl

free_stays : (s : List ℕ) → Stays number_paper refused_by tt (first_free_of s)
unfolding first_free_of
free_stays s = choose (is_store s) (go (free_from (cap s) s search_start)) (no_goes 2 refl refl)
  where
    go : (l : List ℕ) → Stays number_paper refused_by tt (first_of l)
    go [] = no_goes 12 refl refl
    go (i ∷ l) = goes refl

sound_stays : (s : List ℕ) → Stays asked_paper refused_by tt (is_sound_of s)
unfolding is_sound_of
sound_stays s = choose (is_store s) (goes refl) (no_goes 2 refl refl)

rebuild_stays : (s : List ℕ) → Stays did_paper refused_by s (rebuild_of s)
unfolding rebuild_of
rebuild_stays s = choose (is_store s) (goes refl) (no_goes 2 refl refl)

-- ---- in place: a refusal is none of two stores of equal capacity, and then all is settled

assign_stays : (op : ℕ) (s t : List ℕ) → Stays did_paper refused_by s (assign_of op s t)
unfolding assign_of
assign_stays op s t = choose (is_store s && is_store t) (choose (eqb (cap s) (cap t)) (goes refl) (no_goes 5 refl refl)) (no_goes 2 refl refl)

pair_goes : (op : ℕ) (s t : List ℕ) → mergeable s t ≡ true → refusal_number (assign_of op s t) ≡ 0
unfolding mergeable assign_of
pair_goes op s t h = let b = both (is_store s && is_store t) (eqb (cap s) (cap t)) h in rw (b.0, b.1)

assign_refuses : (op : ℕ) (s t : List ℕ) {r : Result (Unit {0}) Refusal} {y : List ℕ} → Assigned op s t r y → get_or (did_paper.numbers r) 0 0 ≢ 0
    → Refuses refused_by s (get_or (did_paper.numbers r) 0 0) r y
assign_refuses op s t v n =
    let e = ap (λ (l : List ℕ). get_or l 0 0) v.answer in
    refuses_so (assign_stays op s t) (v.whole (λ h. absurd (n (e ∙ pair_goes op s t h)))) n

-- ---- walks: no step after the tests refuses

abbrev number : Step → ℕ
number a = get_or (step_paper.numbers a) 0 0

kind_goes : (t : ℕ) (c : Cursor) (f : ℕ → Step) (k : Kind) → ((j : ℕ) → number (f j) ≡ 0) → number (by_kind t c f k) ≡ 0
kind_goes t c f gives_one h = refl
kind_goes t c f (reads j) h = h j
kind_goes t c f done h = refl

next_goes : (lw : ℕ → ℕ → ℕ) (t b : ℕ) (c : Cursor) → number (walk_next lw t b c) ≡ 0
unfolding walk_next
next_goes lw t zero c = kind_goes t c (λ j. paused c) (kind t c) (λ j. refl)
next_goes lw t (suc b) c = kind_goes t c (λ j. more 1 (walk_next lw t b (descend lw t j c))) (kind t c) (λ j. next_goes lw t b (descend lw t j c))

abbrev number_in : Filled → ℕ
number_in f = get_or (batch_paper.numbers (batch f)) 0 0

on_goes : (a : Step) (on : Cursor → Filled) → number a ≡ 0 → ((c : Cursor) → number_in (on c) ≡ 0) → number_in (go_on a.answer a.reads a.cursor on) ≡ 0
on_goes a on e h = go a.answer e
  where
    go : (n : Next) → number (record { cursor = a.cursor; reads = a.reads; answer = n }) ≡ 0 → number_in (go_on n a.reads a.cursor on) ≡ 0
    go (Member v) z = h a.cursor
    go Paused z = refl
    go End z = refl
    go (NextRefused n) z = z

fill_goes : (lw : ℕ → ℕ → ℕ) (t m b : ℕ) (c : Cursor) → number_in (fill_from lw t m b c) ≡ 0
unfolding fill_from
fill_goes lw t zero b c = refl
fill_goes lw t (suc m) b c =
    let a = walk_next lw t b c in
    on_goes a (fill_from lw t m (b - a.reads)) (next_goes lw t b c) (λ d. fill_goes lw t m (b - a.reads) d)

module _ (c : Cursor) where
  abbrev StepStays : Step → Type 0
  StepStays a = Stays step_paper (λ n. refused n c) tt (written a)

  no_step : (n : ℕ) → is_known n ≡ true → StepStays (refused n c)
  no_step n h = record {
    known = number_known (numbered n);
    numbers = λ z. ap (λ (e : Refusal). step_paper.numbers (record { cursor = c; reads = 0; answer = NextRefused e })) (sym (numbered_number (numbered n)));
    lent = λ z. refl;
  }

  module _ (out : List ℕ) where
    abbrev FillStays : Filled → Type 0
    FillStays f = Stays batch_paper (no_batch c) out (filled f out)

    no_fill : (n : ℕ) → is_known n ≡ true → FillStays (stopped (StopRefused (numbered n)) 0 c)
    no_fill n h = record {
      known = number_known (numbered n);
      numbers = λ z. ap (λ (e : Refusal). batch_paper.numbers (batch (stopped (StopRefused e) 0 c))) (sym (numbered_number (numbered n)));
      lent = λ z. refl;
    }

start_stays : (s : List ℕ) (c : Cursor) → StepStays c (start_in s c)
unfolding start_in
start_stays s c = by_cond (StepStays c) (is_store s) (goes refl) (no_step c 2 refl)

next-stays : (s : List ℕ) (c : Cursor) (b : ℕ) → StepStays c (next_in s c b)
unfolding next_in
next-stays s c b =
    by_cond (StepStays c) (is_store s)
    (by_cond (StepStays c) (fits (top (cap s)) c) (goes (next_goes _ _ b c)) (no_step c 7 refl))
    (no_step c 2 refl)

fill_stays : (s : List ℕ) (c : Cursor) (b : ℕ) (out : List ℕ) → FillStays c out (fill_in s c b (length out))
unfolding fill_in
fill_stays s c b out =
    by_cond (FillStays c out) (is_store s)
    (by_cond (FillStays c out) (fits (top (cap s)) c) (goes (fill_goes _ _ (length out) b c)) (no_fill c out 7 refl))
    (no_fill c out 2 refl)

-- a reader's step refuses where the step does, and what is lent then has the cursor that was given
told-stays : {X : Type 0} (s : List ℕ) (c : Cursor) (b : ℕ) (at : Cursor → X) → Stays told_paper told_refused (at c) (told_of (next_in s c b) at)
told-stays s c b at =
    let k = next-stays s c b in
    let a = next_in s c b in
    let same : number a ≢ 0 → a ≡ refused (number a) c =
    λ n. sym (step_paper.same a) ∙ ap step_paper.answer (k.numbers n) ∙ step_paper.same (refused (number a) c) in
    record {
      known = k.known;
      numbers = λ n. ap (λ (z : Step). told_paper.numbers (told z)) (same n);
      lent = λ n. ap (λ (z : Step). at z.cursor) (same n);
    }

-- ---- formulas: the refusal of the stores, of the codes, of a cursor

sooner_known : (a b : ℕ) → Known a → Known b → Known (sooner a b)
unfolding sooner
sooner_known a b h g = by_cond Known (eqb a 0) g (by_cond Known (eqb b 0) h (go (dec_lt a b)))
  where
    go : Dec (a < b) → Known (min a b)
    go (yes l) = let e : min a b ≡ a = omega arith in subst Known (sym e) h
    go (no l) = let e : min a b ≡ b = omega arith in subst Known (sym e) g

beside_known : (N : ℕ) (s : List ℕ) → Known (beside_of N s)
unfolding beside_of
beside_known N s = by_cond Known (eqb (length s) 0) refl (by_cond Known (is_store s) (by_cond Known (eqb (cap s) N) refl refl) refl)

stores_known : (ss : List (List ℕ)) → Known (stores_of ss)
unfolding stores_of
stores_known ss =
    by_cond Known (is_store (nth ss 0)) (sooner_known _ _ (sooner_known _ _ (beside_known _ _) (beside_known _ _)) (beside_known _ _)) refl

check_known : (ss : List (List ℕ)) (cs : List ℕ) → Known (check_of ss cs)
unfolding check_of
check_known ss cs = by_cond Known (eqb (stores_of ss) 0) (by_cond Known (is_formula ss cs) refl refl) (stores_known ss)

refusal_known : (ss : List (List ℕ)) (cs : List ℕ) (c : Cursor) → Known (refusal_in ss cs c)
unfolding refusal_in
refusal_known ss cs c = by_cond Known (eqb (check_of ss cs) 0) (by_cond Known (fits (top (cap_of ss)) c) refl refl) (check_known ss cs)

module _ (ss : List (List ℕ)) (cs : List ℕ) where
  contains_f_stays : (i : ℕ) → Stays asked_paper refused_by tt (formula_contains_of ss cs i)
  unfolding formula_contains_of
  contains_f_stays i = choose (eqb (check_of ss cs) 0) (goes refl) (no_goes _ (check_known ss cs) refl)

  empty_f_stays : Stays asked_paper refused_by tt (formula_is_empty_of ss cs)
  unfolding formula_is_empty_of
  empty_f_stays = choose (eqb (check_of ss cs) 0) (goes refl) (no_goes _ (check_known ss cs) refl)

  word_f_stays : (k i : ℕ) → Stays number_paper refused_by tt (layer_word_of ss cs k i)
  unfolding layer_word_of
  word_f_stays k i =
      choose (eqb (stores_of ss) 0) (choose (leb k (top (cap_of ss))) (choose (is_formula ss cs) (goes refl) (no_goes 6 refl refl)) (no_goes 4 refl refl)) (no_goes _ (stores_known ss) refl)

  start_f_stays : (c : Cursor) → StepStays c (formula_start_in ss cs c)
  unfolding formula_start_in
  start_f_stays c = by_cond (StepStays c) (eqb (check_of ss cs) 0) (goes refl) (no_step c _ (check_known ss cs))

  next_f_stays : (c : Cursor) (b : ℕ) → StepStays c (formula_next_in ss cs c b)
  unfolding formula_next_in
  next_f_stays c b = by_cond (StepStays c) (eqb (refusal_in ss cs c) 0) (goes (next_goes _ _ b c)) (no_step c _ (refusal_known ss cs c))

  fill_f_stays : (c : Cursor) (b : ℕ) (out : List ℕ) → FillStays c out (formula_fill_in ss cs c b (length out))
  unfolding formula_fill_in
  fill_f_stays c b out = by_cond (FillStays c out) (eqb (refusal_in ss cs c) 0) (goes (fill_goes _ _ (length out) b c)) (no_fill c out _ (refusal_known ss cs c))

-- ---- maps

write_stays : (s m : List ℕ) → Stays number_paper refused_by m (write_of s m)
unfolding write_of
write_stays s m = choose (is_store s) (choose (leb (map_len (told_words (cap s) s)) (length m)) (goes refl) (no_goes 8 refl refl)) (no_goes 2 refl refl)

judge_known : (m : List ℕ) (N : ℕ) → Known (judge_of m N)
unfolding judge_of
judge_known m N =
    by_cond Known (head_ok m)
    (by_cond Known (eqb (cap_in m) N)
    (by_cond Known (good N 0 (used_in m) (table_in m)) (by_cond Known (eqb (total (used_in m) (table_in m)) (count_in m)) refl refl) refl)
    refl)
    refl

length-stays : (s : List ℕ) → Stays number_paper refused_by tt (map_length_of s)
unfolding map_length_of
length-stays s = choose (is_store s) (goes refl) (no_goes 2 refl refl)

capacity_stays : (m : List ℕ) → Stays number_paper refused_by tt (map_capacity_of m)
unfolding map_capacity_of
capacity_stays m = choose (head_ok m) (goes refl) (no_goes 9 refl refl)

read_stays : (m s : List ℕ) → Stays did_paper refused_by s (read_of m s)
unfolding read_of
read_stays m s = choose (is_store s) (choose (eqb (judge_of m (cap s)) 0) (goes refl) (no_goes _ (judge_known m (cap s)) refl)) (no_goes 2 refl refl)

-- ---- the directory

room_known : (words bytes n : ℕ) → Known (room_refusal words bytes n)
unfolding room_refusal
room_known words bytes n = by_cond Known (eqb (open_refusal n words) 0) (by_cond Known (eqb bytes n) refl refl) (open_known n words)

item_known : (d : Directory) (x : ℕ) → Known (item_refusal d x)
unfolding item_refusal
item_known d x =
    by_cond Known (is_store d.store) (by_cond Known (eqb (length d.owners) (cap d.store)) (by_cond Known (is_item x) refl refl) refl) refl

owner_known : (d : Directory) (x c : ℕ) → Known (return_refusal d x c)
unfolding return_refusal
owner_known d x c = by_cond Known (eqb (item_refusal d x) 0) (by_cond Known (ltb c (cap d.store) && eqb (owner_at d c) x) refl refl) (item_known d x)

directory-stays : (d : Directory) (n : ℕ) → Stays did_paper refused_by d (directory_open_of d n)
unfolding directory_open_of
directory-stays d n =
    let r = room_refusal (length d.store) (length d.owners) n in
    choose (eqb r 0) (goes refl) (no_goes r (room_known (length d.store) (length d.owners) n) refl)

give_stays : (d : Directory) (x : ℕ) → Stays number_paper refused_by d (give_of d x)
unfolding give_of
give_stays d x =
    let f = refusal_number (first_free_of d.store) in
    choose (eqb (item_refusal d x) 0) (choose (eqb f 0) (goes refl) (no_goes f (free_stays d.store).known refl)) (no_goes (item_refusal d x) (item_known d x) refl)

take-stays : (d : Directory) (x c : ℕ) → Stays did_paper refused_by d (take_back_of d x c)
unfolding take_back_of
take-stays d x c = choose (eqb (return_refusal d x c) 0) (goes refl) (no_goes (return_refusal d x c) (owner_known d x c) refl)

-- ---- THE LIST: "Each returns its number and zeros elsewhere and changes nothing lent; a refused next hands back its cursor as given."

pub refusals : (c : Call) (r : Answered (promise_of c)) (y : Memory (promise_of c)) → Meets (promise_of c) r y → refusal (promise_of c) r ≢ 0
    → Refused (promise_of c) r y
refusals («open» s n) r y = refuses_so (open_stays s n)
refusals (add s i) r y = refuses_so (add_stays s i)
refusals (remove s i) r y = refuses_so (remove_stays s i)
refusals (contains s i) r y = refuses_so (contains_stays s i)
refusals (add_list s ids) r y = refuses_so (list_stays s ids)
refusals (is_empty s) r y = refuses_so (empty-stays s)
refusals (clear s) r y = refuses_so (clear_stays s)
refusals (contains_set s t) r y = refuses_so (set-stays s t)
refusals (equal s t) r y = refuses_so (equal_stays s t)
refusals (get_from_layer s k i) r y = refuses_so (word-stays s k i)
refusals (layer_as_slice s k) r y = refuses_so (part_stays s k)
refusals (average_ones w) r y = λ m n. n refl
refusals (first_free s) r y = refuses_so (free_stays s)
refusals (is_sound s) r y = refuses_so (sound_stays s)
refusals (rebuild s) r y = refuses_so (rebuild_stays s)
refusals (bitor_assign s t) r y = assign_refuses _ s t
refusals (bitand_assign s t) r y = assign_refuses _ s t
refusals (bitxor_assign s t) r y = assign_refuses _ s t
refusals (start s c) r y = refuses_so (start_stays s c)
refusals (next s c b) r y = refuses_so (next-stays s c b)
refusals (fill s c b out) r y = refuses_so (fill_stays s c b out)
refusals (contains_f ss cs i) r y = refuses_so (contains_f_stays ss cs i)
refusals (is_empty_f ss cs) r y = refuses_so (empty_f_stays ss cs)
refusals (get_from_layer_f ss cs k i) r y = refuses_so (word_f_stays ss cs k i)
refusals (start_f ss cs c) r y = refuses_so (start_f_stays ss cs c)
refusals (next_f ss cs c b) r y = refuses_so (next_f_stays ss cs c b)
refusals (fill_f ss cs c b out) r y = refuses_so (fill_f_stays ss cs c b out)
refusals (write s m) r y = refuses_so (write_stays s m)
refusals (read m s) r y = refuses_so (read_stays m s)
refusals (map_length s) r y = refuses_so (length-stays s)
refusals (map_capacity m) r y = refuses_so (capacity_stays m)
refusals (open_directory d n) r y = refuses_so (directory-stays d n)
refusals (give d x) r y = refuses_so (give_stays d x)
refusals (take_back d x c) r y = refuses_so (take-stays d x c)
refusals (iter_r v) r y = λ m n. n refl
refusals (next_r it b) r y = refuses_so (told-stays it.store.now it.cursor b (moved_to it))
refusals (first_r s b) r y = refuses_so (told-stays s (started_of s) b (λ c. tt))
