-- WHATEVER A CALL LEAVES of stores that our calls reached is reached, and of sound stores is sound: over every public call.
use mathlib.Core.Bool.{Bool, true, false, cond}
use mathlib.Core.List.{List, [], ◌∷◌}
use mathlib.Core.Path.{◌≡◌, refl, sym, subst}
use Prim.Native.Nat.{ℕ, ◌≤◌}
use borrow.Author.Tests.{eqb-true}
use lib.Dec.{eqb}
use lib.ListN.{length, replicate}
use Rattle.std.specs.Prelude.{Result}
use Rattle.store.specs.declared.Refusal.{Refusal}
use Rattle.util.specs.Outcome.{Outcome}
use Rattle.store.specs.Answer.{does, refuses, refusal_number, value_of}
use Rattle.store.specs.Layout.{max_cap, store_len, cap}
use Rattle.store.specs.Word.{SoundStore}
use Rattle.store.proofs.Ends.{cap_in_lem}
use Rattle.set_whole.specs.Calls.{open_refusal, open_of}
use Rattle.set_whole.proofs.Answers.{can_open_lem}
use Rattle.set_free.specs.Calls.{first_free_of}
use Rattle.ops_merge.specs.Calls.{Assigned}
use Rattle.directory.specs.Calls.{Directory, directory, room_refusal, item_refusal, return_refusal, directory_open_of, give_of, take_back_of}
use Rattle.directory.proofs.Answers.{room_in}
use Rattle.claims.specs.Calls.{Answered, Memory, Meets, Call, promise_of}
use Rattle.claims.specs.Calls.Call.{«open», add, remove, contains, add_list, is_empty, clear, contains_set, equal, get_from_layer, layer_as_slice, average_ones, first_free, is_sound, rebuild, bitor_assign, bitand_assign, bitxor_assign, start, next, fill, contains_f, is_empty_f, get_from_layer_f, start_f, next_f, fill_f, write, read, map_length, map_capacity, open_directory, give, take_back, iter_r, next_r, first_r}
use Rattle.claims.specs.Reached.{OneCall, Reached}
use Rattle.claims.specs.Reached.OneCall.{adds, removes, lists, clears, rebuilds, merges, reads}
use Rattle.claims.specs.Reached.Reached.{opened, after}
use Rattle.claims.specs.Stores.{Each, of_own, opens, opens_both, lent_to, left_by}
use Rattle.claims.proofs.Stays.{by_cond}
use Rattle.claims.proofs.Histories.{fine_open, fine_one, reached_fine}

-- what is had by every opened store, is handed on by one call, and is sound
record Inherited (P : ℕ → List ℕ → Type 0) : Type 0 where
  opened_has : {N : ℕ} (s : List ℕ) → 1 ≤ N → N ≤ max_cap → length s ≡ store_len N → P N (open_of s N).lent
  handed_on : {N : ℕ} {s u : List ℕ} → P N s → OneCall N s u → P N u
  is_sound : {N : ℕ} {s : List ℕ} → P N s → SoundStore N s

-- an opening that is refused leaves what was there
open_keeps : (s : List ℕ) (n : ℕ) → opens s n ≡ false → (open_of s n).lent ≡ s
unfolding open_of
open_keeps s n h = rw h

module _ {P : ℕ → List ℕ → Type 0} (k : Inherited P) where
  one_left : {N : ℕ} {s u y : List ℕ} → y ≡ u → P N s → OneCall N s u → P N y × Unit {0}
  one_left {N} e p c = (subst (P N) (sym e) (k.handed_on p c), tt)

  merge_left : {N M op : ℕ} {s t u : List ℕ} {r : Result (Unit {0}) Refusal} → Assigned op s t r u → P N s → P M t → P N u × Unit {0}
  merge_left v p q = (k.handed_on p (merges (k.is_sound q) _ v), tt)

  -- an opening that goes through leaves a new store
  new-left : (s : List ℕ) (n : ℕ) → open_refusal n (length s) ≡ 0 → P n (open_of s n).lent
  new-left s n h = let c = can_open_lem n (length s) h in let room = cap_in_lem n c.0 in k.opened_has s room.0 room.1 c.1

  -- open leaves a new store where it goes through, and what was there where it refuses
  open_left : (s : List ℕ) (n : ℕ) {y : List ℕ} → y ≡ (open_of s n).lent → Each P (lent_to («open» s n)) → Each P (left_by («open» s n) y)
  open_left s n q e = (subst (P (cond (opens s n) n (cap s))) (sym q) (go (opens s n) refl e), tt)
    where
      go : (a : Bool) → opens s n ≡ a → Each P (cond a [] (of_own s ∷ [])) → P (cond a n (cap s)) (open_of s n).lent
      go true a e = new-left s n (eqb-true _ 0 a)
      go false a e = subst (P (cap s)) (sym (open_keeps s n a)) e.0

  -- so does the directory's opening; giving adds an id, and taking back removes one
  directory-left : (d : Directory) (n : ℕ) {y : Directory} → y ≡ (directory_open_of d n).lent → Each P (lent_to (open_directory d n))
      → Each P (left_by (open_directory d n) y)
  unfolding directory_open_of
  directory-left d n q e = (subst (λ (z : Directory). P (cond (opens_both d n) n (cap d.store)) z.store) (sym q) (go (opens_both d n) refl e), tt)
    where
      go : (a : Bool) → opens_both d n ≡ a → Each P (cond a [] (of_own d.store ∷ []))
          → P (cond a n (cap d.store)) (cond a (does (directory (open_of d.store n).lent (replicate n 0))) (refuses (room_refusal (length d.store) (length d.owners) n) d)).lent.store
      go true a e = new-left d.store n (room_in (length d.store) (length d.owners) n (eqb-true _ 0 a)).0
      go false a e = e.0

  -- what an outcome leaves of a directory's store, at the capacity that it had
  abbrev LeftOf : Directory → Outcome Directory → Type 0
  LeftOf d o = P (cap d.store) o.lent.store

  give_left : (d : Directory) (x : ℕ) → P (cap d.store) d.store → LeftOf d (give_of d x)
  unfolding give_of
  give_left d x p =
      let f = first_free_of d.store in
      by_cond (LeftOf d) (eqb (item_refusal d x) 0) (by_cond (LeftOf d) (eqb (refusal_number f) 0) (k.handed_on p (adds (value_of f))) p) p

  take_left : (d : Directory) (x i : ℕ) → P (cap d.store) d.store → LeftOf d (take_back_of d x i)
  unfolding take_back_of
  take_left d x i p = by_cond (LeftOf d) (eqb (return_refusal d x i) 0) (k.handed_on p (removes i)) p

  store_left : {N : ℕ} {y u : Directory} → y ≡ u → P N u.store → P N y.store × Unit {0}
  store_left {N} q p = (subst (λ (z : Directory). P N z.store) (sym q) p, tt)

  -- every call hands it on
  calls_leave : (c : Call) (r : Answered (promise_of c)) (y : Memory (promise_of c)) → Meets (promise_of c) r y
      → Each P (lent_to c) → Each P (left_by c y)
  calls_leave («open» s n) r y m e = open_left s n m.memory e
  calls_leave (add s i) r y m e = one_left m.memory e.0 (adds i)
  calls_leave (remove s i) r y m e = one_left m.memory e.0 (removes i)
  calls_leave (contains s i) r y m e = tt
  calls_leave (add_list s ids) r y m e = one_left m.memory e.0 (lists ids)
  calls_leave (is_empty s) r y m e = tt
  calls_leave (clear s) r y m e = one_left m.memory e.0 clears
  calls_leave (contains_set s t) r y m e = tt
  calls_leave (equal s t) r y m e = tt
  calls_leave (get_from_layer s k i) r y m e = tt
  calls_leave (layer_as_slice s k) r y m e = tt
  calls_leave (average_ones w) r y m e = tt
  calls_leave (first_free s) r y m e = tt
  calls_leave (is_sound s) r y m e = tt
  calls_leave (rebuild s) r y m e = one_left m.memory e.0 rebuilds
  calls_leave (bitor_assign s t) r y m e = merge_left m e.0 e.1.0
  calls_leave (bitand_assign s t) r y m e = merge_left m e.0 e.1.0
  calls_leave (bitxor_assign s t) r y m e = merge_left m e.0 e.1.0
  calls_leave (start s c) r y m e = tt
  calls_leave (next s c b) r y m e = tt
  calls_leave (fill s c b out) r y m e = tt
  calls_leave (contains_f ss cs i) r y m e = tt
  calls_leave (is_empty_f ss cs) r y m e = tt
  calls_leave (get_from_layer_f ss cs k i) r y m e = tt
  calls_leave (start_f ss cs c) r y m e = tt
  calls_leave (next_f ss cs c b) r y m e = tt
  calls_leave (fill_f ss cs c b out) r y m e = tt
  calls_leave (write s bs) r y m e = tt
  calls_leave (read bs s) r y m e = one_left m.memory e.0 (reads bs)
  calls_leave (map_length s) r y m e = tt
  calls_leave (map_capacity bs) r y m e = tt
  calls_leave (open_directory d n) r y m e = directory-left d n m.memory e
  calls_leave (give d x) r y m e = store_left m.memory (give_left d x e.0)
  calls_leave (take_back d x i) r y m e = store_left m.memory (take_left d x i e.0)
  calls_leave (iter_r v) r y m e = tt
  calls_leave (next_r it b) r y m e = tt
  calls_leave (first_r s b) r y m e = tt

-- "stores of one capacity reached from opening by our calls on such stores": WHATEVER A CALL LEAVES of reached stores is reached, whether
-- it went through or refused
pub reached_closed : (c : Call) (r : Answered (promise_of c)) (y : Memory (promise_of c)) → Meets (promise_of c) r y
    → Each Reached (lent_to c) → Each Reached (left_by c y)
reached_closed = calls_leave (record { opened_has = opened; handed_on = after; is_sound = reached_fine })

-- "ALL CALLS KEEP SOUNDNESS where every store lent to them is sound."
pub sound_closed : (c : Call) (r : Answered (promise_of c)) (y : Memory (promise_of c)) → Meets (promise_of c) r y
    → Each SoundStore (lent_to c) → Each SoundStore (left_by c y)
sound_closed = calls_leave (record { opened_has = fine_open; handed_on = fine_one; is_sound = λ f. f })
