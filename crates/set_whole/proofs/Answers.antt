-- What each way out of the code answers is what the definition answers there.
use mathlib.Core.Bool.{Bool, true, false, cond, ◌&&◌}
use mathlib.Core.List.{List, [], ◌∷◌}
use mathlib.Core.Logic.{◌≢◌}
use mathlib.Core.Path.{◌≡◌, refl, sym, ap, ◌∙◌}
use Prim.Native.Nat.{ℕ, suc, ◌-◌, ◌≤◌}
use native.Mathlib.Omega.{arith}
use borrow.Author.Tests.{eq-eqb, ne_eqb, eqb-true}
use lib.Dec.{eqb}
use lib.Pointwise.{pointwise}
use Rattle.std.specs.Prelude.{Result, Ok, Err, IsErrAnd}
use lib.ListN.{length, set, replicate}
use Rattle.util.specs.Outcome.{Settled, settled}
use Rattle.util.specs.Word.{same}
use Rattle.store.specs.Answer.{asked_paper, did_paper, does, refuses, number, numbered, judged, tested}
use Rattle.store.specs.Build.{empty}
use Rattle.store.specs.Layout.{top, is_cap, store_len, StoreOf, end_of, top_word}
use Rattle.store.specs.Word.{word}
use Rattle.store.specs.declared.Refusal.{Refusal}
use Rattle.store.specs.declared.Refusal.TheVariants.{Capacity, NoStore, Capacities}
use Rattle.store.proofs.Exits.{no_store_out, refused_out, number_numbered}
use Rattle.store.proofs.Judged.{nothing}
use Rattle.store.proofs.Ends.{end_cap, top-word}
use Rattle.store.proofs.Geometry.{is_store_lem, after-header}
use Rattle.set_whole.specs.Calls.{open_refusal, open_of, clear_of, is_empty_of, equal_of}

-- zeros, with the capacity in word 0, are the empty store
pub empty_is : (N n : ℕ) → n ≡ store_len N → set (replicate n 0) 0 N ≡ empty N
empty_is N n h =
    let e : n ≡ suc (store_len N - 1) = omega (arith, after-header N 0) in
    ap (λ (x : ℕ). set (replicate x 0) 0 N) e

-- two lists are the same where they are as long and each pair is equal
pointwise_same : (s t : List ℕ) → pointwise eqb s t ≡ same s t
unfolding same
pointwise_same [] [] = refl
pointwise_same [] (b ∷ t) = refl
pointwise_same (a ∷ s) [] = refl
pointwise_same (a ∷ s) (b ∷ t) = ap (λ (x : Bool). eqb a b && x) (pointwise_same s t)

-- ---- open

module _ (N len : ℕ) where
  pub refuses_1 : is_cap N ≡ false → Err Capacity ≡ judged (open_refusal N len)
  unfolding open_refusal numbered
  refuses_1 h = rw h refl

  module _ (h : is_cap N ≡ true) where
    pub refuses_2 : len ≢ end_of N 0 → Err NoStore ≡ judged (open_refusal N len)
    unfolding open_refusal numbered
    refuses_2 n = rw (h, ne_eqb len (store_len N) (λ q. n (q ∙ sym (end_cap N 0 h)))) refl

    pub refuses_0 : len ≡ end_of N 0 → Ok tt ≡ judged (open_refusal N len)
    unfolding open_refusal
    refuses_0 l = rw (h, eq-eqb len (store_len N) (l ∙ end_cap N 0 h)) refl

-- where nothing stands in the way, the capacity is one and the slice has its length
pub can_open_lem : (N len : ℕ) → open_refusal N len ≡ 0 → (is_cap N ≡ true) × (len ≡ store_len N)
unfolding open_refusal
can_open_lem N len h = go (is_cap N) refl (eqb len (store_len N)) refl h
  where
    go : (a : Bool) → is_cap N ≡ a → (b : Bool) → eqb len (store_len N) ≡ b → cond {A = ℕ} a (cond b 0 2) 1 ≡ 0 → (is_cap N ≡ true) × (len ≡ store_len N)
    go true e true f q = (e, eqb-true len (store_len N) f)
    go true e false f q = absurd (omega (arith, q))
    go false e b f q = absurd (omega (arith, q))

pub few_refusals : (N len : ℕ) → open_refusal N len ≤ 2
unfolding open_refusal
few_refusals N len = go (is_cap N) (eqb len (store_len N))
  where
    go : (a b : Bool) → cond {A = ℕ} a (cond b 0 2) 1 ≤ 2
    go true true = omega arith
    go true false = omega arith
    go false b = omega arith

module _ (s : List ℕ) (N : ℕ) where
  pub open_refused : {r q : Result (Unit {0}) Refusal} {x : Refusal} → r ≡ judged (open_refusal N (length s)) → r ≡ Err x → IsErrAnd q (λ y. y ≡ x)
      → Settled did_paper (open_of s N) q s
  unfolding open_of
  open_refused e h o =
      let no : ℕ = open_refusal N (length s) in
      let p = refused_out no e h o in
      let n : number (numbered no) ≡ no = number_numbered no (omega (arith, p.0)) (omega (arith, few_refusals N (length s))) in
      rw p.1 (settled (rw (ne_eqb no 0 p.0) (ap (λ (m : ℕ). refuses m s) (sym n))))

  pub open_done : {r : Result (Unit {0}) Refusal} {u : Unit {0}} (t : List ℕ) → r ≡ judged (open_refusal N (length s)) → r ≡ Ok u
      → t ≡ set (replicate (length s) 0) 0 N → Settled did_paper (open_of s N) (Ok tt) t
  unfolding open_of
  open_done t j o e =
      let h = nothing (open_refusal N (length s)) j o in
      settled (rw h (ap does (sym (e ∙ empty_is N (length s) (can_open_lem N (length s) h).1))))

-- ---- clear, is_empty

module _ (s : List ℕ) {r : Result ℕ Refusal} {x : Refusal} (e : r ≡ tested s) (h : r ≡ Err x) where
  pub clear_2 : {q : Result (Unit {0}) Refusal} → IsErrAnd q (λ y. y ≡ x) → Settled did_paper (clear_of s) q s
  unfolding clear_of
  clear_2 o = let p = no_store_out s e h o in rw p.1 (settled (rw p.0))

  pub is_empty_2 : {q : Result Bool Refusal} → IsErrAnd q (λ y. y ≡ x) → Settled asked_paper (is_empty_of s) q tt
  unfolding is_empty_of
  is_empty_2 o = let p = no_store_out s e h o in rw p.1 (settled (rw p.0))

  pub equal_first_2 : {q : Result Bool Refusal} (t : List ℕ) → IsErrAnd q (λ y. y ≡ x) → Settled asked_paper (equal_of s t) q tt
  unfolding equal_of
  equal_first_2 t o = let p = no_store_out s e h o in rw p.1 (settled (rw p.0))

  pub equal_second_2 : {N : ℕ} {t : List ℕ} {q : Result Bool Refusal} → StoreOf N t → IsErrAnd q (λ y. y ≡ x) → Settled asked_paper (equal_of t s) q tt
  unfolding equal_of
  equal_second_2 z o = let p = no_store_out s e h o in rw p.1 (settled (rw (is_store_lem z, p.0)))

module _ {N : ℕ} {s : List ℕ} (z : StoreOf N s) where
  pub clear_done : (t : List ℕ) → t ≡ set (replicate (length s) 0) 0 N → Settled did_paper (clear_of s) (Ok tt) t
  unfolding clear_of
  clear_done t e = settled (rw (is_store_lem z, z.names) (ap does (sym (e ∙ empty_is N (length s) z.long))))

  pub is_empty_is : (w : ℕ) → w ≡ top_word s → Settled asked_paper (is_empty_of s) (Ok (eqb w 0)) tt
  unfolding is_empty_of
  is_empty_is w e = let q : word N s (top N) 0 ≡ w = sym (e ∙ top-word z) in settled (rw (is_store_lem z, z.names, q))

  -- ---- equal

  module _ {M : ℕ} {t : List ℕ} (y : StoreOf M t) where
    pub equal_5 : N ≢ M → Settled asked_paper (equal_of s t) (Err Capacities) tt
    unfolding equal_of
    equal_5 n = settled (rw (is_store_lem z, is_store_lem y, z.names, y.names, ne_eqb N M n))

    pub equal_is : N ≡ M → (r : Bool) → r ≡ pointwise eqb s t → Settled asked_paper (equal_of s t) (Ok r) tt
    unfolding equal_of
    equal_is e r q = settled (rw (is_store_lem z, is_store_lem y, z.names, y.names, eq-eqb N M e, ← pointwise_same s t, ← q))
