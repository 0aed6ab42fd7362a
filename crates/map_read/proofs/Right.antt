-- The tests of a map as facts, both ways: the header, an entry, and a map that nothing is wrong with.
use Rattle.std.proofs.Common.{◌≡◌, ◌≢◌, ℕ, ◌+◌, ◌*◌, ◌/◌, ◌%◌, ◌^◌, ◌≤◌, ◌<◌, Bool, true, false, eqb, ltb, List, length, take, drop, refl, sym, ap, ap₂, ◌∙◌, true≢false, subst, pos_of_ne-zero, arith, mod-lt, mod-eq_of_lt, pow_pos, eq-eqb, ne_eqb, le-leb, leb-true, lt-ltb, le-ltb, Result, Ok, Err, ltb-true, eqb-true}
use Rattle.std.specs.Simd.{first_chunks}
use native.Mathlib.Decide.{dec_lt, ℕ_discrete}
use Rattle.util.proofs.Same.{both}
use Rattle.store.specs.Build.{room0}
use Rattle.store.specs.Layout.{is_cap, max_cap, room, words_for, layer_len}
use Rattle.store.specs.Answer.{number, judged}
use Rattle.store.specs.declared.Refusal.{Refusal}
use Rattle.store.specs.declared.Refusal.TheVariants.{Header, Capacities}
use Rattle.store.proofs.Exits.{number_numbered}
use Rattle.store.proofs.Judged.{nothing, something}
use Rattle.store.proofs.Ends.{cap_in_lem, words_are}
use Rattle.map_format.specs.Bytes.{num_at}
use Rattle.map_read.specs.Judge.{cap_in, count_in, used_in, offset_in, table_in, head_ok, entry_ok, good, total, judge_of}
use Rattle.map_read.specs.declared.Head.{Head}
use Rattle.map_read.specs.Steps.{entries_in, Entries, HeadOf, NoHead, Taken, Wrong, all_good, ones_in_all, entries_of}
use Rattle.map_read.proofs.Entries.{num_front, length_chunks, take_chunks, good_all, total_all, entries_10, entries_11, entries_0, entries_small}

-- what is not true is false
refute : (b : Bool) {P : Type 0} → (b ≡ true → P) → (P → ⊥) → b ≡ false
refute true f g = absurd (g (f refl))
refute false f g = refl

-- the words that a capacity needs, as the code reckons them
pub words_here : (n : ℕ) → 1 ≤ n → n ≤ max_cap → words_for n ≡ layer_len n 0
unfolding room
words_here n some most = words_are n some most

-- ---- the header

pub record HeadIs (m : List ℕ) : Type 0 where
  pub long : 16 ≤ length m
  pub capacity : is_cap (cap_in m) ≡ true
  pub offset : offset_in m ≡ 16
  pub few : used_in m ≤ layer_len (cap_in m) 0
  pub table : 16 + 12 * used_in m ≤ length m

pub head_is : {m : List ℕ} → head_ok m ≡ true → HeadIs m
unfolding head_ok
head_is {m} e =
    let a = both _ _ e in
    let b = both _ _ a.1 in
    let c = both _ _ b.1 in
    let d = both _ _ c.1 in
    record { long = leb-true _ _ a.0; capacity = b.0; offset = eqb-true _ _ c.0; few = leb-true _ _ d.0; table = leb-true _ _ d.1 }

pub is_head : {m : List ℕ} → HeadIs m → head_ok m ≡ true
unfolding head_ok
is_head {m} h =
    rw (
      le-leb 16 (length m) h.long,
      h.capacity,
      eq-eqb (offset_in m) 16 h.offset,
      le-leb (used_in m) (layer_len (cap_in m) 0) h.few,
      le-leb (16 + 12 * used_in m) (length m) h.table,
    )

no_head : (m : List ℕ) → (HeadIs m → ⊥) → head_ok m ≡ false
no_head m h = refute (head_ok m) head_is h

-- too short for one
pub too_short : {m : List ℕ} → length m < 16 → NoHead m Header
too_short {m} h = record { none = no_head m (λ z. omega (arith, z.long)); why = refl }

-- the numbers that the code reads in the first 16 bytes, and the table behind them
pub record HeadRead (m : List ℕ) (n k u o : ℕ) (t : List ℕ) : Type 0 where
  pub capacity : n ≡ cap_in m
  pub count : k ≡ count_in m
  pub used : u ≡ used_in m
  pub offset : o ≡ offset_in m
  pub table : t ≡ table_in m
  pub long : length t + 16 ≡ length m

pub head_read : {m h t : List ℕ} → (h ≡ take 16 m) × (t ≡ drop 16 m) × (length t + 16 ≡ length m)
    → {n k u o : ℕ} → n ≡ num_at 0 4 h → k ≡ num_at 4 4 h → u ≡ num_at 8 4 h → o ≡ num_at 12 4 h → HeadRead m n k u o t
head_read {m} s en ek eu eo =
    record {
      capacity = en ∙ ap (num_at 0 4) s.0 ∙ num_front 0 4 16 m (omega arith);
      count = ek ∙ ap (num_at 4 4) s.0 ∙ num_front 4 4 12 m (omega arith);
      used = eu ∙ ap (num_at 8 4) s.0 ∙ num_front 8 4 8 m (omega arith);
      offset = eo ∙ ap (num_at 12 4) s.0 ∙ num_front 12 4 4 m (omega arith);
      table = s.1;
      long = s.2;
    }

module _ {m : List ℕ} {n k u o : ℕ} {t : List ℕ} (r : HeadRead m n k u o t) where
  is_cap_in : {b : Bool} → b ≡ is_cap n → b ≡ is_cap (cap_in m)
  is_cap_in e = e ∙ ap is_cap r.capacity

  words_in : is_cap n ≡ true → {w : ℕ} → w ≡ words_for n → w ≡ layer_len (cap_in m) 0
  words_in c e = let b = cap_in_lem n c in e ∙ words_here n b.0 b.1 ∙ ap (λ (x : ℕ). layer_len x 0) r.capacity

  -- the header is one, and these are its entries
  pub head_there : true ≡ is_cap n → o ≡ 16 → {w : ℕ} → w ≡ words_for n → u ≤ w → {es : List (List ℕ)} → es ≡ first_chunks 12 (length t / 12) t → length es ≡ length t / 12
      → u ≤ length es → (head_ok m ≡ true) × (take u es ≡ entries_in m)
  head_there c e ew lw {es} ee le lu = (
    is_head (record {
      long = omega (arith, r.long);
      capacity = sym (is_cap_in c);
      offset = sym r.offset ∙ e;
      few = omega (arith, r.used, words_in (sym c) ew, lw);
      table = omega (arith, r.used, r.long, le, lu);
    }),
    ap (take u) ee ∙ take_chunks 12 (length t / 12) u t (omega arith) ∙ ap₂ (λ (i : ℕ) (l : List ℕ). first_chunks 12 i l) r.used r.table,
  )

  -- it is none
  pub no_capacity : false ≡ is_cap n → head_ok m ≡ false
  no_capacity e = no_head m (λ z. true≢false (sym z.capacity ∙ sym (is_cap_in e)))

  pub no_offset : o ≢ 16 → head_ok m ≡ false
  no_offset e = no_head m (λ z. e (r.offset ∙ z.offset))

  pub too_many : true ≡ is_cap n → {w : ℕ} → w ≡ words_for n → w < u → head_ok m ≡ false
  too_many c ew l = no_head m (λ z. omega (arith, r.used, words_in (sym c) ew, l, z.few))

  pub cut_short : {j : ℕ} → j ≡ length t / 12 → j < u → head_ok m ≡ false
  cut_short le l = no_head m (λ z. omega (arith, r.used, r.long, z.table))

-- ---- an entry

pub record EntryIs (N lo q w : ℕ) : Type 0 where
  pub rising : lo ≤ q
  pub below : q < layer_len N 0
  pub some : 0 < w
  pub fits : w < 2 ^ room0 N q

pub entry_is : {N lo q w : ℕ} → entry_ok N lo q w ≡ true → EntryIs N lo q w
unfolding entry_ok
entry_is {N} {lo} {q} {w} e =
    let a = both _ _ e in
    let b = both _ _ a.1 in
    let c = both _ _ b.1 in
    record { rising = leb-true _ _ a.0; below = ltb-true _ _ b.0; some = ltb-true _ _ c.0; fits = ltb-true _ _ c.1 }

pub is_entry : {N lo q w : ℕ} → EntryIs N lo q w → entry_ok N lo q w ≡ true
unfolding entry_ok
is_entry {N} {lo} {q} {w} h =
    rw (le-leb lo q h.rising, lt-ltb q (layer_len N 0) h.below, lt-ltb 0 w h.some, lt-ltb w (2 ^ room0 N q) h.fits)

-- as the code asks whether a word has no bit at or past N
pub cut_same : (w r : ℕ) → eqb (w % 2 ^ r) w ≡ ltb w (2 ^ r)
cut_same w r = go (dec_lt w (2 ^ r))
  where
    go : Dec (w < 2 ^ r) → eqb (w % 2 ^ r) w ≡ ltb w (2 ^ r)
    go (yes l) = eq-eqb (w % 2 ^ r) w (mod-eq_of_lt l) ∙ sym (lt-ltb w (2 ^ r) l)
    go (no l) = ne_eqb (w % 2 ^ r) w (λ z. l (subst (λ (x : ℕ). x < 2 ^ r) z (mod-lt w (pow_pos r)))) ∙ sym (le-ltb w (2 ^ r) (omega arith))

-- ---- the verdict, test by test

module _ (m : List ℕ) (N : ℕ) where
  pub judge_9 : head_ok m ≡ false → judge_of m N ≡ 9
  unfolding judge_of
  judge_9 h = rw h

  module _ (h : head_ok m ≡ true) where
    pub judge_5 : cap_in m ≢ N → judge_of m N ≡ 5
    unfolding judge_of
    judge_5 e = rw (h, ne_eqb (cap_in m) N e)

    -- past them it is the entries'
    pub judge_entries_lem : cap_in m ≡ N → judge_of m N ≡ entries_of N (count_in m) (entries_in m)
    unfolding judge_of entries_of
    judge_entries_lem e = rw (h, eq-eqb (cap_in m) N e, good_all N 0 (used_in m) (table_in m), total_all (used_in m) (table_in m))

-- ---- a map that nothing is wrong with

pub record MapTaken (m : List ℕ) (N : ℕ) : Type 0 where
  pub head : HeadIs m
  pub same : cap_in m ≡ N
  pub all-good : good N 0 (used_in m) (table_in m) ≡ true
  pub counts : total (used_in m) (table_in m) ≡ count_in m

pub accepted_0 : {m : List ℕ} {N : ℕ} → MapTaken m N → judge_of m N ≡ 0
accepted_0 {m} {N} a =
    judge_entries_lem m N (is_head a.head) a.same
    ∙ entries_0 N (count_in m) (entries_in m) (sym (good_all N 0 (used_in m) (table_in m)) ∙ a.all-good) (sym (total_all (used_in m) (table_in m)) ∙ a.counts)

pub map-taken : {m : List ℕ} {N : ℕ} → judge_of m N ≡ 0 → MapTaken m N
map-taken {m} {N} z =
    go (head_ok m) refl (ℕ_discrete (cap_in m) N) (all_good N 0 (entries_in m)) refl (ℕ_discrete (ones_in_all (entries_in m)) (count_in m))
  where
    go : (h : Bool) → head_ok m ≡ h → Dec (cap_in m ≡ N) → (g : Bool) → all_good N 0 (entries_in m) ≡ g
        → Dec (ones_in_all (entries_in m) ≡ count_in m) → MapTaken m N
    go false eh d g eg t = absurd (omega (arith, sym z ∙ judge_9 m N eh))
    go true eh (no d) g eg t = absurd (omega (arith, sym z ∙ judge_5 m N eh d))
    go true eh (yes d) false eg t = absurd (omega (arith, sym z ∙ judge_entries_lem m N eh d ∙ entries_10 N (count_in m) (entries_in m) eg))
    go true eh (yes d) true eg (no t) = absurd (omega (arith, sym z ∙ judge_entries_lem m N eh d ∙ entries_11 N (count_in m) (entries_in m) eg t))
    go true eh (yes d) true eg (yes t) =
        record {
          head = head_is eh;
          same = d;
          all-good = good_all N 0 (used_in m) (table_in m) ∙ eg;
          counts = total_all (used_in m) (table_in m) ∙ t;
        }

-- ---- the verdict, as the code gives it

-- a refusal by its number
wrong_by : (m : List ℕ) (N : ℕ) (e : Refusal) → judge_of m N ≡ number e → number e ≢ 0 → Wrong m N e
wrong_by m N e j n = record { wrong = λ z. n (sym j ∙ z); why = sym j }

pub wrong_9 : (m : List ℕ) (N : ℕ) {e : Refusal} → NoHead m e → Wrong m N e
wrong_9 m N h = subst (Wrong m N) (sym h.why) (wrong_by m N Header (judge_9 m N h.none) (λ z. omega arith))

module _ {m : List ℕ} (N : ℕ) {h : Head} (r : HeadOf m h) where
  pub wrong_5 : h.n ≢ N → Wrong m N Capacities
  wrong_5 n = wrong_by m N Capacities (judge_5 m N r.is (λ e. n (r.capacity ∙ e))) (λ z. omega arith)

  module _ (same : h.n ≡ N) where
    by_entries : judge_of m N ≡ entries_of N h.members h.entries.now
    by_entries = judge_entries_lem m N r.is (sym r.capacity ∙ same) ∙ sym (ap₂ (entries_of N) r.members r.entries)

    pub entries_there : Entries N h.entries.now
    entries_there =
        let i = head_is r.is in
        let c = cap_in_lem (cap_in m) i.capacity in
        let e : cap_in m ≡ N = sym r.capacity ∙ same in
        record {
          some = subst (λ (x : ℕ). 1 ≤ x) e c.0;
          most = subst (λ (x : ℕ). x ≤ max_cap) e c.1;
          few = subst (λ (x : ℕ). length h.entries.now ≤ layer_len x 0) e (omega (arith, ap length r.entries, length_chunks 12 (used_in m) (table_in m), i.few));
        }

    module _ {q : Result (Unit {0}) Refusal} (v : q ≡ judged (entries_of N h.members h.entries.now)) where
      pub wrong_entries : {e : Refusal} → q ≡ Err e → Wrong m N e
      wrong_entries f =
          let n = entries_of N h.members h.entries.now in
          let s = something n v f in
          record {
            wrong = λ z. s.0 (sym by_entries ∙ z);
            why = ap number s.1 ∙ number_numbered n (pos_of_ne-zero s.0) (omega (arith, entries_small N h.members h.entries.now)) ∙ sym by_entries;
          }

      pub taken : {u : Unit {0}} → q ≡ Ok u → Taken m N h.entries.now
      taken f = record { accepted = by_entries ∙ nothing (entries_of N h.members h.entries.now) v f; entries = r.entries }
