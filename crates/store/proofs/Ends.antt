-- Where the layers end as plain divisions, and what a caller learns from the store test.
use Rattle.std.proofs.Common.{◌≡◌, ℕ, zero, suc, ◌+◌, ◌-◌, ◌/◌, ◌%◌, ◌^◌, ◌<◌, ◌≤◌, Bool, true, false, cond, ◌&&◌, eqb, eqb-true, leb, IsErrAnd, ◌≢◌, List, [], ◌∷◌, map, length, get_or, take, drop, sym, refl, ap, ◌∙◌, subst, arith, length-drop, take_all, eq-eqb, ne_eqb, leb-true, true≢false, le-leb, ltb}
use Rattle.util.proofs.Same.{both}
use Rattle.store.specs.Build.{layer0}
use Rattle.store.specs.Layout.{header, top, max_cap, is_cap, words, room, span, layer_len, layer_end, layer_start, store_len, cap, is_store, StoreOf, folded, end_of, words_for, start_from, id_word_of, top_word}
use Rattle.std.specs.Prelude.{Result, Ok, Err}
use Rattle.util.specs.Outcome.{Outcome}
use Rattle.store.specs.Answer.{tested, tested_pair, refuses, number}
use Rattle.store.specs.declared.Refusal.{Refusal}
use Rattle.store.specs.declared.Refusal.TheVariants.{NoStore, Capacities}
use Rattle.store.specs.Word.{word}
use Rattle.store.proofs.Geometry.{is_store_lem, store_is, room_closed, end_top, end_step, end_past, within}
use Rattle.store.proofs.TopLayer.{top_low, top_high, top_one}
use Rattle.store.proofs.Words.{word_in}

-- "The length is exactly 2+L2+L1+L0: 5 at N=1 and 64, 6 at 65, 68 at 4,096, 70 at 4,097, 266,306 at 16,777,216."
lengths : map store_len (1 ∷ 64 ∷ 65 ∷ 4096 ∷ 4097 ∷ 16777216 ∷ []) ≡ 5 ∷ 5 ∷ 6 ∷ 68 ∷ 70 ∷ 266306 ∷ []
unfolding layer_end span room top
lengths = refl

-- ---- the ends

pub end_is : (N k : ℕ) → 1 ≤ N → N ≤ max_cap → end_of N k ≡ layer_end N k
unfolding end_of
end_is N k some most = let e : folded N ≡ N = omega arith in ap (λ (n : ℕ). layer_end n k) e

-- as the code computes them: a layer has a word more than all but the last id fill
module _ (m : ℕ) (most : suc m ≤ max_cap) where
  pub end_above : (k : ℕ) → 4 ≤ k → layer_end (suc m) k ≡ header
  end_above k h = end_past (suc m) k (omega (arith, top_high (suc m)))

  pub end3 : layer_end (suc m) 3 ≡ header + 1
  end3 = omega (arith, end_step (suc m) 3 (top_low (suc m)), end_above 4 (omega arith), room_closed (suc m) 4)

  pub end2 : layer_end (suc m) 2 ≡ header + 2 + m / 262144
  end2 = omega (arith, end_step (suc m) 2 (omega (arith, top_low (suc m))), end3, room_closed (suc m) 3)

  pub end1 : layer_end (suc m) 1 ≡ header + 2 + m / 262144 + m / 4096 + 1
  end1 = omega (arith, end_step (suc m) 1 (omega (arith, top_low (suc m))), end2, room_closed (suc m) 2)

  pub end0 : layer_end (suc m) 0 ≡ header + 2 + m / 262144 + m / 4096 + 1 + m / 64 + 1
  end0 = omega (arith, end_step (suc m) 0 (omega arith), end1, room_closed (suc m) 1)

pub length_is : (N : ℕ) → 1 ≤ N → N ≤ max_cap → store_len N ≡ header + 4 + (N - 1) / 262144 + (N - 1) / 4096 + (N - 1) / 64
length_is N some most = let e : N ≡ suc (N - 1) = omega arith in ap store_len e ∙ omega (arith, end0 (N - 1) (omega arith))

-- the same where the code has folded the number, and has one less of it
module _ (n m k : ℕ) (m-is : suc m ≡ folded n) where
  pub end_at : (e j : ℕ) → (suc m ≤ max_cap → layer_end (suc m) j ≡ e) → k ≡ j → e ≡ end_of n k
  unfolding end_of
  end_at e j is at =
      sym (is (omega (arith, m-is))) ∙ ap (layer_end (suc m)) (sym at) ∙ ap (λ (x : ℕ). layer_end x k) m-is

-- where a layer starts, by the length of its store
module _ (len n : ℕ) where
  pub start_low : (k : ℕ) {w r : ℕ} → k ≡ 0 → w ≡ words_for n → r < 2 ^ 64 → (r + w) % 2 ^ 64 ≡ len → r ≡ start_from len n k
  unfolding start_from words_for
  start_low k e w-is small sum = rw e (omega (arith, w-is, sum))

  pub start_mid : (j : ℕ) {k r : ℕ} → k ≡ suc j → r ≡ end_of n (suc (suc j)) → r ≡ start_from len n k
  unfolding start_from
  start_mid j e r-is = rw e r-is

  pub start_high : (k : ℕ) {r : ℕ} → 3 ≤ k → r ≡ end_of n 4 → r ≡ start_from len n k
  unfolding start_from end_of
  start_high zero h r-is = absurd (omega arith)
  start_high (suc k) h r-is =
      let e : folded n ≡ suc (folded n - 1) = omega arith in
      let above : (j : ℕ) → 4 ≤ j → layer_end (folded n) j ≡ header = λ j g. ap (λ (x : ℕ). layer_end x j) e ∙ end_above (folded n - 1) (omega arith) j g in
      r-is ∙ above 4 (omega arith) ∙ sym (above (suc (suc k)) (omega arith))

pub words_are : (n : ℕ) → 1 ≤ n → n ≤ max_cap → words_for n ≡ words n
unfolding words_for
words_are n some most = omega arith

-- a store is short enough for any sum of such numbers
pub length_small : {N : ℕ} → 1 ≤ N → N ≤ max_cap → store_len N ≤ 1000000
length_small {N} some most = omega (arith, length_is N some most)

pub store_small : {N : ℕ} {s : List ℕ} → StoreOf N s → length s ≤ 1000000
store_small z = omega (arith, z.long, length_small z.some z.most)

-- where a layer starts, by the store's length and as one
pub start_in_lem : {N len : ℕ} → 1 ≤ N → N ≤ max_cap → len ≡ store_len N → (k : ℕ) → start_from len N k ≡ layer_start N k
unfolding start_from
start_in_lem {N} {len} some most long zero = wrapped len (layer_len N 0) (words_are N some most ∙ sym (room_closed N 1)) (long ∙ end_step N 0 (omega arith)) (omega (arith, long, length_small some most))
  where
    wrapped : (l w : ℕ) → words_for N ≡ w → l ≡ layer_start N 0 + w → l ≤ 1000000 → (l + (2 ^ 64 - words_for N)) % 2 ^ 64 ≡ layer_start N 0
    wrapped l w e f g = omega arith
start_in_lem {N} some most long (suc k) = end_is N (suc (suc k)) some most

pub start_is : {N : ℕ} {s : List ℕ} → StoreOf N s → (k : ℕ) → start_from (length s) N k ≡ layer_start N k
start_is z = start_in_lem z.some z.most z.long

-- where the layer-0 word of an id stands
pub record IdWord (N : ℕ) (s : List ℕ) (i at : ℕ) : Type 0 where
  pub here : at ≡ layer_start N 0 + i / 64
  pub inside : at < length s
  pub word_is : get_or s at 0 ≡ word N s 0 (i / 64)

pub id-word : {N : ℕ} {s : List ℕ} → StoreOf N s → {i : ℕ} → i < N → {a : ℕ} → a ≡ layer_start N 0 → IdWord N s i (id_word_of a i)
id-word {N} {s} z {i} h {a} e =
    let l = end_step N 0 (omega arith) in
    let q : i / 64 < layer_len N 0 = omega (arith, room_closed N 1) in
    let here : id_word_of a i ≡ layer_start N 0 + i / 64 = omega (arith, z.long, store_small z, e, l, q) in
    record {
      here = here;
      inside = omega (arith, z.long, here, l, q);
      word_is = ap (λ (x : ℕ). get_or s x 0) here ∙ sym (word_in N s 0 (i / 64) q);
    }

-- ---- the store test

pub cap_in_lem : (N : ℕ) → is_cap N ≡ true → (1 ≤ N) × (N ≤ max_cap)
unfolding is_cap
cap_in_lem N h = let b = both (leb 1 N) (leb N max_cap) h in (leb-true 1 N b.0, leb-true N max_cap b.1)

pub capacity_some : (n : ℕ) → 0 < n → leb n max_cap ≡ is_cap n
unfolding is_cap
capacity_some n h = sym (rw (le-leb 1 n h))

pub capacity_zero : (n : ℕ) → n ≤ 0 → ltb 0 n ≡ is_cap n
unfolding is_cap
capacity_zero n h = let e : n ≡ 0 = omega (arith, h) in rw e

pub end_cap : (N k : ℕ) → is_cap N ≡ true → end_of N k ≡ layer_end N k
end_cap N k h = let b = cap_in_lem N h in end_is N k b.0 b.1

module _ (s : List ℕ) where
  pub capacity_none : is_cap (cap s) ≡ false → Err NoStore ≡ tested s
  unfolding is_store
  capacity_none h = sym (rw h)

  module _ (h : is_cap (cap s) ≡ true) where
    pub capacity_long : length s ≡ store_len (cap s) → Ok (cap s) ≡ tested s
    unfolding is_store
    capacity_long l = sym (rw (h, eq-eqb (length s) (store_len (cap s)) l))

    pub capacity_short : length s ≢ store_len (cap s) → Err NoStore ≡ tested s
    unfolding is_store
    capacity_short l = sym (rw (h, ne_eqb (length s) (store_len (cap s)) l))

-- its answer is a capacity exactly for a store
abbrev ok_of : Result ℕ Refusal → ℕ
ok_of (Ok n) = n
ok_of (Err e) = 0

abbrev err_of : Result ℕ Refusal → Refusal
err_of (Ok n) = NoStore
err_of (Err e) = e

abbrev is_ok_of : Result ℕ Refusal → Bool
is_ok_of (Ok n) = true
is_ok_of (Err e) = false

module _ {r : Result ℕ Refusal} (s : List ℕ) (e : r ≡ tested s) where
  pub some_store : {n : ℕ} → r ≡ Ok n → StoreOf n s
  some_store {n} h = go (is_store s) refl
    where
      go : (b : Bool) → is_store s ≡ b → StoreOf n s
      go true p = let t : tested s ≡ Ok (cap s) = rw p in let q : n ≡ cap s = ap ok_of (sym h ∙ e ∙ t) in subst (λ (x : ℕ). StoreOf x s) (sym q) (store_is p)
      go false p = let t : tested s ≡ Err NoStore = rw p in absurd (true≢false (ap is_ok_of (sym h ∙ e ∙ t)))

  pub no_store : {x : Refusal} → r ≡ Err x → is_store s ≡ false
  no_store h = go (is_store s) refl
    where
      go : (b : Bool) → is_store s ≡ b → is_store s ≡ false
      go true p = let t : tested s ≡ Ok (cap s) = rw p in absurd (true≢false (sym (ap is_ok_of (sym h ∙ e ∙ t))))
      go false p = p

  pub no_store_is : {x : Refusal} → r ≡ Err x → x ≡ NoStore
  no_store_is {x} h = let t : tested s ≡ Err NoStore = rw (no_store h) in ap err_of (sym h ∙ e ∙ t)

-- a refusal that a call hands on by `?`
pub passed : {A : Type 0} {r : Result A Refusal} {x : Refusal} → IsErrAnd r (λ y. y ≡ x) → r ≡ Err x
passed {r = Ok a} h = absurd h
passed {r = Err y} h = ap Err h

-- the test of two stores of one capacity, as the code makes it
module _ {r : Result ℕ Refusal} (s t : List ℕ) (e : r ≡ tested s) where
  pub pair_first : {x : Refusal} → r ≡ Err x → Err x ≡ tested_pair s t
  unfolding tested_pair
  pair_first h = let f = no_store s e h in sym (rw (f, no_store_is s e h))

  module _ {q : Result ℕ Refusal} (g : q ≡ tested t) {n : ℕ} (h : r ≡ Ok n) where
    pub pair_second : {x : Refusal} → q ≡ Err x → Err x ≡ tested_pair s t
    unfolding tested_pair
    pair_second k = sym (rw (is_store_lem (some_store s e h), no_store t g k, no_store_is t g k))

    module _ {m : ℕ} (k : q ≡ Ok m) where
      pub pair_apart : n ≢ m → Err Capacities ≡ tested_pair s t
      unfolding tested_pair
      pair_apart d =
          let y = some_store s e h in
          let z = some_store t g k in
          sym (rw (is_store_lem y, is_store_lem z, y.names, z.names, ne_eqb n m d))

      pub pair_same : n ≡ m → Ok n ≡ tested_pair s t
      unfolding tested_pair
      pair_same d =
          let y = some_store s e h in
          let z = some_store t g k in
          sym (rw (is_store_lem y, is_store_lem z, y.names, z.names, eq-eqb n m d))

-- what it says: both are stores of that capacity, or what a call answers that refuses 2 and then 5
module _ {r : Result ℕ Refusal} (s t : List ℕ) (e : r ≡ tested_pair s t) where
  pub both_stores : {n : ℕ} → r ≡ Ok n → StoreOf n s × StoreOf n t
  unfolding tested_pair
  both_stores {n} h = go (is_store s) refl (is_store t) refl (eqb (cap s) (cap t)) refl
    where
      go : (a : Bool) → is_store s ≡ a → (b : Bool) → is_store t ≡ b → (c : Bool) → eqb (cap s) (cap t) ≡ c → StoreOf n s × StoreOf n t
      go true p true q true d =
          let u : tested_pair s t ≡ Ok (cap s) = rw (p, q, d) in
          let v : cap s ≡ n = ap ok_of (sym (e ∙ u) ∙ h) in
          (subst (λ (x : ℕ). StoreOf x s) v (store_is p), subst (λ (x : ℕ). StoreOf x t) (sym (eqb-true (cap s) (cap t) d) ∙ v) (store_is q))
      go true p true q false d = let u : tested_pair s t ≡ Err Capacities = rw (p, q, d) in absurd (true≢false (ap is_ok_of (sym h ∙ e ∙ u)))
      go true p false q c d = let u : tested_pair s t ≡ Err NoStore = rw (p, q) in absurd (true≢false (ap is_ok_of (sym h ∙ e ∙ u)))
      go false p b q c d = let u : tested_pair s t ≡ Err NoStore = rw p in absurd (true≢false (ap is_ok_of (sym h ∙ e ∙ u)))

  pub pair_refused : {x : Refusal} → r ≡ Err x → {X : Type 0} (o : Outcome X) (m : X)
      → cond (is_store s && is_store t) (cond (eqb (cap s) (cap t)) o (refuses 5 m)) (refuses 2 m) ≡ refuses (number x) m
  unfolding tested_pair
  pair_refused {x} h o m = go (is_store s && is_store t) refl (eqb (cap s) (cap t)) refl
    where
      go : (a : Bool) → (is_store s && is_store t) ≡ a → (c : Bool) → eqb (cap s) (cap t) ≡ c → cond a (cond c o (refuses 5 m)) (refuses 2 m) ≡ refuses (number x) m
      go true p true d = let u : tested_pair s t ≡ Ok (cap s) = rw (p, d) in absurd (true≢false (sym (ap is_ok_of (sym h ∙ e ∙ u))))
      go true p false d =
          let u : tested_pair s t ≡ Err Capacities = rw (p, d) in
          ap (λ (y : Refusal). refuses (number y) m) (ap err_of (sym (e ∙ u) ∙ h))
      go false p c d =
          let u : tested_pair s t ≡ Err NoStore = rw p in
          ap (λ (y : Refusal). refuses (number y) m) (ap err_of (sym (e ∙ u) ∙ h))

-- ---- layer k as a part of its store: where it starts and ends, and that it lies inside

pub record Part (N : ℕ) (s : List ℕ) (k : ℕ) : Type 0 where
  pub starts : start_from (length s) N k ≡ layer_start N k
  pub ends : end_of N k ≡ layer_end N k
  pub size : layer_end N k ≡ layer_start N k + layer_len N k
  pub inside : layer_end N k ≤ length s

pub part : {N : ℕ} {s : List ℕ} → StoreOf N s → (k : ℕ) → k ≤ top N → Part N s k
part {N} z k h =
    record {
      starts = start_is z k;
      ends = end_is N k z.some z.most;
      size = end_step N k h;
      inside = omega (arith, within N k, z.long);
    }

-- layer 0 lent as the store's end
pub record Lent0 (N : ℕ) (s : List ℕ) (a : ℕ) : Type 0 where
  pub inside : a ≤ length s
  pub words : take (length s - a) (drop a s) ≡ layer0 N s
  pub long : length (layer0 N s) ≡ layer_len N 0

pub lent0 : {N : ℕ} {s : List ℕ} → StoreOf N s → {a : ℕ} → a ≡ start_from (length s) N 0 → Lent0 N s a
lent0 {N} {s} z {a} e =
    let p = part z 0 (omega arith) in
    let here : a ≡ layer_start N 0 = e ∙ p.starts in
    record {
      inside = omega (arith, here, p.size, p.inside);
      words = take_all (length s - a) (drop a s) (omega (arith, length-drop a s)) ∙ ap (λ (x : ℕ). drop x s) here;
      long = length-drop (layer_start N 0) s ∙ omega (arith, z.long, p.size);
    }

-- ---- the top word

pub top-word : {N : ℕ} {s : List ℕ} → StoreOf N s → top_word s ≡ word N s (top N) 0
top-word {N} {s} z =
    let e : header ≡ layer_start N (top N) + 0 = omega (arith, end_top N) in
    ap (λ (x : ℕ). get_or s x 0) e ∙ sym (word_in N s (top N) 0 (omega (arith, top_one N z.some z.most)))
