-- What each way out of the code answers is what the definition answers there.
use mathlib.Core.Bool.{Bool, true, false, cond, not, ◌&&◌}
use mathlib.Core.List.{List, [], ◌∷◌}
use mathlib.Core.Logic.{◌≢◌, inl, inr}
use mathlib.Core.Path.{◌≡◌, refl, sym, ap, ap₂, ◌∙◌}
use Prim.Native.Nat.{ℕ, suc, ◌+◌, ◌/◌, ◌%◌, ◌^◌, ◌<◌}
use native.Mathlib.Decide.{ℕ_discrete}
use native.Mathlib.Omega.{arith}
use borrow.Author.Tests.{eq-eqb, ne_eqb, lt-ltb, ltb-true}
use lib.Bits.{bit_and, bit_or}
use lib.Dec.{ltb, eqb}
use lib.ListN.{length, get_or, drop, set as set_at}
use lib.Seq.{drop-cons, drop-length}
use Rattle.util.specs.Outcome.{Outcome, Settled, settled}
use Rattle.util.specs.Word.{bit, change, flip}
use Rattle.util.proofs.Bits.{change_kept, kept_change, bit_ext, bit-bit_and, bit-bit_or}
use Rattle.util.proofs.Same.{both}
use Rattle.store.specs.Answer.{asked_paper, did_paper, tested, says, refuses}
use Rattle.store.specs.Layout.{top, layer_start, is_store, StoreOf, id_word_of}
use Rattle.store.specs.Word.{word, on, anc}
use Rattle.store.specs.declared.Refusal.{Refusal}
use Rattle.store.specs.declared.Refusal.TheVariants.{NoStore, Id}
use Rattle.store.proofs.Exits.{no_store_out, tag_is}
use Rattle.set_member.specs.declared.Place.{Place}
use Rattle.set_member.proofs.Places.{Refused}
use Rattle.std.specs.Prelude.{Result, Ok, Err, IsErrAnd, fold}
use Rattle.std.proofs.lemmas.Nat.{and_assoc}
use Rattle.std.specs.Int.Bits.{and_self}
use Rattle.std.proofs.lemmas.Result.{err_from_is_err_and}
use Rattle.store.proofs.Ends.{IdWord, id-word}
use Rattle.store.proofs.Geometry.{is_store_lem}
use Rattle.store.proofs.Words.{on_lt}
use Rattle.set_member.specs.Calls.{holds}
use Rattle.set_member.specs.Place.{Placed, Inside, Outside}
use Rattle.set_edit.specs.Calls.{stays, move_of, add_of, remove_of, all_below, add_all, add_list_of}
use Rattle.set_edit.specs.Edit.{edits, climb, layers_of, moved_by, reach, word_left}
use Rattle.set_edit.specs.Steps.{Edited, Begun, Climbing, Ended, Moved}
use Rattle.set_edit.proofs.Moves.{add_none, add_all_lem, add_one_layer, remove_none, remove_some, climb_some, climb_stop}
use Rattle.set_edit.proofs.Steps.{edited, first, climb-more, climb_none}

-- ---- the private steps: by the layer-0 word as it was, w, and with the bit set or cleared, v

-- the answer that is read off the number of layers
abbrev pub says_held : Bool → ℕ → Bool
says_held true m = eqb m 0
says_held false m = not (eqb m 0)

-- the other ids of the word that holds i's bit
abbrev pub others : Bool → ℕ → List ℕ → ℕ → ℕ
others set N s i = cond set (word N s 0 (i / 64)) (word_left N s i 0)

module _ (N : ℕ) (s : List ℕ) (i : ℕ) where
  -- how many layers are written: none where the bit is so already, layer 0 alone where its word has another id, else as far as they reach
  layers_none : (set : Bool) → on N s 0 i ≡ cond set 1 0 → layers_of set N s i ≡ 0
  layers_none true h = add_none N s i h
  layers_none false h = remove_none N s i (λ q. omega (arith, h, q))

  layers_one : (set : Bool) → on N s 0 i ≢ cond set 1 0 → others set N s i ≢ 0 → layers_of set N s i ≡ 1
  layers_one true h w = add_one_layer N s i h w
  layers_one false h w = remove_some N s i (omega (arith, h, on_lt N s 0 i)) ∙ climb_stop N s i 0 (top N) w

  layers_all : (set : Bool) → on N s 0 i ≢ cond set 1 0 → others set N s i ≡ 0 → layers_of set N s i ≡ reach set N s i
  unfolding reach
  layers_all true h w = add_all_lem N s i h w
  layers_all false h w = remove_some N s i (omega (arith, h, on_lt N s 0 i))

  module _ (set : Bool) where
    moved_is : {m : ℕ} {t : List ℕ} {r : ℕ} → layers_of set N s i ≡ m → t ≡ edits set N s i m → r ≡ m → Moved set s N i t r
    unfolding moved_by
    moved_is e g r-is = record { memory = g ∙ ap (edits set N s i) (sym e); layers = r-is ∙ sym e }

    pub moved_none : on N s 0 i ≡ cond set 1 0 → Moved set s N i s 0
    unfolding edits
    moved_none h = moved_is (layers_none set h) refl refl

    module _ (h : on N s 0 i ≢ cond set 1 0) where
      pub moved_one : {t : List ℕ} → others set N s i ≢ 0 → Begun set s N i 1 t → Moved set s N i t 1
      moved_one w g = moved_is (layers_one set h w) g.memory refl

      pub moved_all : {t : List ℕ} {r : ℕ} → others set N s i ≡ 0 → Ended set s N i (reach set N s i) t r → Moved set s N i t r
      moved_all w g = moved_is (layers_all set h w) g.memory g.layers

  -- whether it was held
  pub held_is : (set : Bool) → says_held set (layers_of set N s i) ≡ holds N s i
  held_is set = go set (ℕ_discrete (on N s 0 i) 1) (ℕ_discrete (word N s 0 (i / 64)) 0)
    where
      go : (x : Bool) → Dec (on N s 0 i ≡ 1) → Dec (word N s 0 (i / 64) ≡ 0) → says_held x (layers_of x N s i) ≡ holds N s i
      go true (yes h) d = rw (add_none N s i h, eq-eqb (on N s 0 i) 1 h)
      go true (no h) (yes w) = rw (add_all_lem N s i h w, ne_eqb (suc (top N)) 0 (λ e. omega arith), ne_eqb (on N s 0 i) 1 h)
      go true (no h) (no w) = rw (add_one_layer N s i h w, ne_eqb (on N s 0 i) 1 h)
      go false (yes h) d =
          let c : climb N s i 0 (top N) ≢ 0 = climb_some N s i 0 (top N) in
          rw (remove_some N s i h, ne_eqb (climb N s i 0 (top N)) 0 c, eq-eqb (on N s 0 i) 1 h)
      go false (no h) d = rw (remove_none N s i h, ne_eqb (on N s 0 i) 1 h)

-- the id has its place, and v is its word w with its bit set or cleared
module _ {s : List ℕ} {i : ℕ} {p : Place} (z : Inside s i p) (set : Bool) {v : ℕ} (e : v ≡ change set p.word (i % 64)) where
  -- the word stays as it is exactly if the bit is so already
  pub bit_so : v ≡ p.word → on p.n s 0 i ≡ cond set 1 0
  unfolding on
  bit_so q = sym (ap (λ (x : ℕ). bit x (i % 64)) z.word_is) ∙ kept_change set p.word (i % 64) (omega arith) (sym e ∙ q)

  pub bit_not_so : p.word < 2 ^ 64 → v ≢ p.word → on p.n s 0 i ≢ cond set 1 0
  unfolding on
  bit_not_so small n q = n (e ∙ change_kept set p.word (i % 64) (omega arith) small (ap (λ (x : ℕ). bit x (i % 64)) z.word_is ∙ q))

  -- it is written to layer 0
  pub id_edited : {t : List ℕ} → t ≡ set_at s (p.start + i / 64) v → Edited set s p.n i 0 t v
  unfolding anc
  id_edited t-is = edited z.placed z.start_is refl set (e ∙ ap (λ (x : ℕ). change set x (i % 64)) z.word_is) t-is

  pub id-begun : {t : List ℕ} → t ≡ set_at s (p.start + i / 64) v → Begun set s p.n i 1 t
  id-begun t-is = first set z.placed (id_edited t-is)

  -- what the word keeps
  pub others_is : bit_and p.word v ≡ others set p.n s i
  unfolding word_left anc change
  others_is = ap (bit_and p.word) e ∙ go set ∙ ap (λ (x : ℕ). cond set x (change false x (i % 64))) z.word_is
    where
      m : ℕ
      m = 2 ^ (i % 64)

      go : (x : Bool) → bit_and p.word (change x p.word (i % 64)) ≡ cond x p.word (change false p.word (i % 64))
      go true = bit_ext (bit_and p.word (bit_or p.word m)) p.word (λ j. bit-bit_and p.word (bit_or p.word m) j ∙ omega (arith, bit-bit_or p.word m j))
      go false = sym (and_assoc (flip m) p.word p.word) ∙ ap (λ (x : ℕ). bit_and x (flip m)) (and_self p.word)

  -- where it keeps nothing the layers above are written
  pub climbing : {t : List ℕ} → t ≡ set_at s (p.start + i / 64) v → others set p.n s i ≡ 0 → Climbing set s p.n i 1 t
  unfolding word_left anc
  climbing t-is w =
      climb-more (climb_none set z.placed) (omega arith) (id_edited t-is)
      (λ f. e ∙ ap₂ (λ (b : Bool) (x : ℕ). change b x (i % 64)) f z.word_is ∙ sym (ap (λ (b : Bool). cond b (word p.n s 0 (i / 64)) (word_left p.n s i 0)) f) ∙ w)

pub id_inside : {s : List ℕ} {i : ℕ} {p : Place} → Inside s i p → p.start + i / 64 < length s
id_inside z =
    let f = id-word z.placed.store z.placed.below z.start_is in
    omega (arith, f.here, f.inside, z.start_is)

-- ---- one id: in no store, past the end of one, and in one

no_change : {s : List ℕ} (i : ℕ) (set : Bool) (o : Outcome (List ℕ)) → is_store s ≡ false → Settled asked_paper (move_of set o s i) (Err NoStore) s
unfolding move_of
no_change i set o h = settled (rw h)

module _ {s : List ℕ} {i : ℕ} where
  past_end : (set : Bool) (r : Result Bool Refusal) → Outside s i → Settled asked_paper (move_of set (stays r s) s i) r s
  unfolding move_of
  past_end set r o = settled (rw (is_store_lem o.store, o.store.names, o.past))

  pub add_refused : {x : Refusal} {q : Result Bool Refusal} → Refused s i x → IsErrAnd q (λ y. y ≡ x) → Settled asked_paper (add_of s i) q s
  add_refused {x} {q} f o = let p = err_from_is_err_and q o in rw (p.1, p.2) (go f)
    where
      go : Refused s i x → Settled asked_paper (add_of s i) (Err x) s
      go (inl h) = rw h.0 (past_end true (Err Id) h.1)
      go (inr h) = rw h.0 (no_change i true (refuses 3 s) h.1)

  pub remove_past : {x : Refusal} → Refused s i x → x ≡ Id → Settled asked_paper (remove_of s i) (Ok false) s
  remove_past (inl h) e = past_end false (Ok false) h.1
  remove_past (inr h) e = absurd (omega (arith, tag_is Id e, tag_is NoStore h.0))

  pub remove_2 : {x : Refusal} → Refused s i x → x ≢ Id → Settled asked_paper (remove_of s i) (Err x) s
  remove_2 (inl h) n = absurd (n h.0)
  remove_2 (inr h) n = rw h.0 (no_change i false (says false s) h.1)

  pub change_is : {p : Place} {set : Bool} (o : Outcome (List ℕ)) {r : ℕ} {t : List ℕ} → Inside s i p → Moved set s p.n i t r
      → Settled asked_paper (move_of set o s i) (Ok (says_held set r)) t
  unfolding move_of
  change_is {p} {set} o {r} z m =
      let e : says_held set r ≡ holds p.n s i = ap (says_held set) m.layers ∙ held_is p.n s i set in
      settled (rw (is_store_lem z.placed.store, z.placed.store.names, lt-ltb i p.n z.placed.below, ← e, ← m.memory))

-- ---- a list of ids

-- what is found of a list, one id after another
below_so_far : (N : ℕ) (a : Bool) (ids : List ℕ) → fold (λ b i. b && ltb i N) a ids ≡ (a && all_below N ids)
unfolding all_below
below_so_far N true [] = refl
below_so_far N false [] = refl
below_so_far N true (i ∷ l) = below_so_far N (ltb i N) l
below_so_far N false (i ∷ l) = below_so_far N false l

pub fold_below : (N : ℕ) (ids : List ℕ) → fold (λ b i. b && ltb i N) true ids ≡ all_below N ids
fold_below N ids = below_so_far N true ids

-- a turn of the loop: the id at place k, and those after it
pub below_turn : (N : ℕ) (ids : List ℕ) (k : ℕ) → k < length ids → all_below N (drop k ids) ≡ (ltb (get_or ids k 0) N && all_below N (drop (suc k) ids))
unfolding all_below
below_turn N ids k h = ap (all_below N) (drop-cons ids k 0 h)

pub add_turn : (N : ℕ) (s ids : List ℕ) (k : ℕ) → k < length ids
    → add_all N s (drop k ids) ≡ add_all N (moved_by true N s (get_or ids k 0)) (drop (suc k) ids)
unfolding add_all
add_turn N s ids k h = ap (add_all N s) (drop-cons ids k 0 h)

pub add_end : (N : ℕ) (s ids : List ℕ) (k : ℕ) → k ≡ length ids → add_all N s (drop k ids) ≡ s
unfolding add_all
add_end N s ids k h = ap (add_all N s) (ap (λ (x : ℕ). drop x ids) h ∙ drop-length ids)

-- the id at place k of a list that has room: its word stands in the store, and those after it have room
pub record Turn (N : ℕ) (s ids : List ℕ) (k a : ℕ) : Type 0 where
  pub placed : Placed s N (get_or ids k 0) 0
  pub word : IdWord N s (get_or ids k 0) (id_word_of a (get_or ids k 0))
  pub rest : all_below N (drop (suc k) ids) ≡ true

pub turn : {N : ℕ} {s : List ℕ} {a : ℕ} (ids : List ℕ) (k : ℕ) → StoreOf N s → a ≡ layer_start N 0 → all_below N (drop k ids) ≡ true → k < length ids → Turn N s ids k a
turn {N} ids k z e room h =
    let b = both _ _ (sym (below_turn N ids k h) ∙ room) in
    let below : get_or ids k 0 < N = ltb-true _ _ b.0 in
    record { placed = record { store = z; below = below; layer = omega arith }; word = id-word z below e; rest = b.1 }

pub turn_inside : (N : ℕ) (s ids : List ℕ) (k : ℕ) → StoreOf N s → all_below N (drop k ids) ≡ true → k < length ids
    → id_word_of (layer_start N 0) (get_or ids k 0) < length s
turn_inside N s ids k z room h = (turn ids k z refl room h).word.inside

module _ (s ids : List ℕ) where
  pub list_2 : {r : Result ℕ Refusal} {q : Result (Unit {0}) Refusal} {x : Refusal} → r ≡ tested s → r ≡ Err x → IsErrAnd q (λ y. y ≡ x)
      → Settled did_paper (add_list_of s ids) q s
  unfolding add_list_of
  list_2 e h o = let p = no_store_out s e h o in rw p.1 (settled (rw p.0))

  module _ (N : ℕ) (z : StoreOf N s) where
    pub list_3 : all_below N ids ≡ false → Settled did_paper (add_list_of s ids) (Err Id) s
    unfolding add_list_of
    list_3 h = settled (rw (is_store_lem z, z.names, h))

    pub list_done : (t : List ℕ) → all_below N ids ≡ true → t ≡ add_all N s ids → Settled did_paper (add_list_of s ids) (Ok tt) t
    unfolding add_list_of
    list_done t h e = settled (rw (is_store_lem z, z.names, h, ← e))
