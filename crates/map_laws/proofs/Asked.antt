-- THE LENGTH AND THE CAPACITY, ASKED FOR: what they say of the writer and of the reader.
use Rattle.std.proofs.Common.{Bool, true, false, cond, List, [], ◌∷◌, ◌≢◌, ◌↔◌, ◌≡◌, refl, sym, ap, ◌∙◌, ℕ, ◌≤◌, ◌<◌, arith, eqb, length, get_or, drop}
use native.Mathlib.Decide.{dec_lt, ℕ_discrete}
use borrow.Author.Tests.{lt-leb}
use Rattle.util.specs.Outcome.{Outcome}
use Rattle.store.specs.Answer.{gives, refuses, refusal_number, value_of}
use Rattle.store.specs.Layout.{cap, is_store, StoreOf}
use Rattle.store.proofs.Geometry.{is_store_lem, store_is}
use Rattle.map_write.specs.Calls.{map_length_of, write_of}
use Rattle.map_write.specs.Map.{told_words, map_len}
use Rattle.map_read.specs.Calls.{map_capacity_of, read_of}
use Rattle.map_read.specs.Judge.{cap_in, count_in, head_ok, judge_of}
use Rattle.map_read.specs.Steps.{entries_in, all_good, ones_in_all, entries_of}
use Rattle.map_read.proofs.Right.{map-taken, is_head, judge_9, judge_5, judge_entries_lem}
use Rattle.map_laws.proofs.Theorems.{map_right, read-does, read-refuses, write_gives, written_is}

-- ---- HOW LONG A MAP IS

-- the length and the writer's answer, where there is a store and where there is none
module _ {N : ℕ} {s : List ℕ} (z : StoreOf N s) where
  length-gives : map_length_of s ≡ gives (map_len (told_words N s)) tt
  unfolding map_length_of
  length-gives = rw (is_store_lem z, z.names)

  write_short : (b : List ℕ) → length b < map_len (told_words N s) → write_of s b ≡ refuses 8 b
  unfolding write_of
  write_short b h = rw (is_store_lem z, z.names, lt-leb (map_len (told_words N s)) (length b) h)

  write_number : (b : List ℕ) → refusal_number (write_of s b) ≢ 2
  write_number b e = go (dec_lt (length b) (map_len (told_words N s)))
    where
      go : Dec (length b < map_len (told_words N s)) → ⊥
      go (yes l) = omega (arith, sym e ∙ ap refusal_number (write_short b l))
      go (no l) = omega (arith, sym e ∙ ap refusal_number (write_gives z b (omega arith)))

module _ (s : List ℕ) (h : is_store s ≡ false) where
  length_none : map_length_of s ≡ refuses 2 tt
  unfolding map_length_of
  length_none = rw h

  write_none : (b : List ℕ) → write_of s b ≡ refuses 2 b
  unfolding write_of
  write_none b = rw h

-- a store whose map has n bytes
record Measured (s : List ℕ) (n : ℕ) : Type 0 where
  is : StoreOf (cap s) s
  long : n ≡ map_len (told_words (cap s) s)

module _ (s : List ℕ) {n : ℕ} (e : map_length_of s ≡ gives n tt) where
  measured : Measured s n
  measured = go (is_store s) refl
    where
      go : (b : Bool) → is_store s ≡ b → Measured s n
      go true i = record { is = store_is i; long = ap value_of (sym e ∙ length-gives (store_is i)) }
      go false i = absurd (omega (arith, ap refusal_number (sym e ∙ length_none s i)))

  -- the writer answers that length wherever the buffer has room for it, and refuses by 8 where it has not
  pub length-written : (b : List ℕ) → n ≤ length b → (write_of s b).numbers ≡ 0 ∷ n ∷ []
  length-written b h =
      ap (λ (o : Outcome (List ℕ)). o.numbers) (write_gives measured.is b (omega (arith, measured.long)))
      ∙ ap (λ (k : ℕ). 0 ∷ k ∷ []) (sym measured.long)

  pub length_short : (b : List ℕ) → length b < n → write_of s b ≡ refuses 8 b
  length_short b h = write_short measured.is b (omega (arith, measured.long))

-- it is refused exactly where the writer refuses by 2
pub length-refused : (s b : List ℕ) → (map_length_of s ≡ refuses 2 tt) ↔ (write_of s b ≡ refuses 2 b)
length-refused s b = go (is_store s) refl
  where
    go : (x : Bool) → is_store s ≡ x → (map_length_of s ≡ refuses 2 tt) ↔ (write_of s b ≡ refuses 2 b)
    go true i = (
      λ e. absurd (omega (arith, ap refusal_number (sym e ∙ length-gives (store_is i)))),
      λ e. absurd (write_number (store_is i) b (ap refusal_number e)),
    )
    go false i = (λ e. write_none s i b, λ e. length_none s i)

-- ---- WHICH STORES A MAP IS FOR

module _ (m : List ℕ) where
  named : head_ok m ≡ true → map_capacity_of m ≡ gives (cap_in m) tt
  unfolding map_capacity_of
  named h = rw h

  unnamed : head_ok m ≡ false → map_capacity_of m ≡ refuses 9 tt
  unfolding map_capacity_of
  unnamed h = rw h

  right_named : {N : ℕ} → judge_of m N ≡ 0 → map_capacity_of m ≡ gives N tt
  right_named e = let a = map-taken e in named (is_head a.head) ∙ ap (λ (n : ℕ). gives n tt) a.same

-- behind the tests of the header and the capacity neither 9 nor 5 is given
abbrev verdict : Bool → Bool → ℕ
verdict g c = cond g (cond c 0 11) 10

entries_other : (N k : ℕ) (es : List (List ℕ)) → (entries_of N k es ≢ 9) × (entries_of N k es ≢ 5)
unfolding entries_of
entries_other N k es = go (all_good N 0 es) (eqb (ones_in_all es) k)
  where
    go : (g c : Bool) → (verdict g c ≢ 9) × (verdict g c ≢ 5)
    go true true = (λ e. omega arith, λ e. omega arith)
    go true false = (λ e. omega arith, λ e. omega arith)
    go false c = (λ e. omega arith, λ e. omega arith)

module _ (m : List ℕ) {N : ℕ} {t : List ℕ} (z : StoreOf N t) where
  why : refusal_number (read_of m t) ≡ judge_of m N
  why = go (ℕ_discrete (judge_of m N) 0)
    where
      go : Dec (judge_of m N ≡ 0) → refusal_number (read_of m t) ≡ judge_of m N
      go (yes e) = ap refusal_number (read-does m z e) ∙ sym e
      go (no n) = ap refusal_number (read-refuses m z n)

  refused : (x : ℕ) → x ≢ 0 → judge_of m N ≡ x → read_of m t ≡ refuses x t
  refused x n e = read-refuses m z (λ q. n (sym e ∙ q)) ∙ ap (λ (k : ℕ). refuses k t) e

  -- the verdict on a map of the store's capacity
  judged : head_ok m ≡ true → cap_in m ≡ N → (judge_of m N ≢ 9) × (judge_of m N ≢ 5)
  judged h d =
      let o = entries_other N (count_in m) (entries_in m) in
      (λ e. o.0 (sym (judge_entries_lem m N h d) ∙ e), λ e. o.1 (sym (judge_entries_lem m N h d) ∙ e))

  -- refusal 9 is given by the reader exactly where the map names no capacity
  pub read_9 : (read_of m t ≡ refuses 9 t) ↔ (map_capacity_of m ≡ refuses 9 tt)
  read_9 = go (head_ok m) refl (ℕ_discrete (cap_in m) N)
    where
      go : (b : Bool) → head_ok m ≡ b → Dec (cap_in m ≡ N) → (read_of m t ≡ refuses 9 t) ↔ (map_capacity_of m ≡ refuses 9 tt)
      go false h d = (λ e. unnamed m h, λ e. refused 9 (λ q. omega arith) (judge_9 m N h))
      go true h (yes d) = (λ e. absurd ((judged h d).0 (sym why ∙ ap refusal_number e)), λ e. absurd (omega (arith, ap refusal_number (sym e ∙ named m h))))
      go true h (no d) = (
        λ e. absurd (omega (arith, sym (judge_5 m N h d) ∙ sym why ∙ ap refusal_number e)),
        λ e. absurd (omega (arith, ap refusal_number (sym e ∙ named m h))),
      )

  -- refusal 5 exactly where it names another than the store's
  pub read_5 : {n : ℕ} → map_capacity_of m ≡ gives n tt → (read_of m t ≡ refuses 5 t) ↔ (n ≢ N)
  read_5 {n} k = go (head_ok m) refl (ℕ_discrete (cap_in m) N)
    where
      go : (b : Bool) → head_ok m ≡ b → Dec (cap_in m ≡ N) → (read_of m t ≡ refuses 5 t) ↔ (n ≢ N)
      go false h d = absurd (omega (arith, ap refusal_number (sym k ∙ unnamed m h)))
      go true h (yes d) = (λ e. absurd ((judged h d).1 (sym why ∙ ap refusal_number e)), λ q. absurd (q (ap value_of (sym k ∙ named m h) ∙ d)))
      go true h (no d) = (λ e q. d (ap value_of (sym (named m h) ∙ k) ∙ q), λ q. refused 5 (λ x. omega arith) (judge_5 m N h d))

  -- and what is read names the store's
  pub read_names : (read_of m t).numbers ≡ 0 ∷ 0 ∷ [] → map_capacity_of m ≡ gives N tt
  read_names e = right_named m (sym why ∙ ap (λ (l : List ℕ). get_or l 0 0) e)

-- the map of a store names its capacity
pub written_names : {N : ℕ} {s : List ℕ} → StoreOf N s → (b : List ℕ) → map_len (told_words N s) ≤ length b → map_capacity_of (write_of s b).lent ≡ gives N tt
written_names {N} {s} z b h = ap map_capacity_of (written_is z b h) ∙ right_named _ (map_right z (drop (map_len (told_words N s)) b))
