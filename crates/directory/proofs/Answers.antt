-- What each way out of the code answers is what the definition answers there.
use mathlib.Core.Bool.{Bool, true, false, cond, ◌&&◌, true≢false}
use mathlib.Core.List.{List, [], ◌∷◌}
use mathlib.Core.Logic.{◌≢◌}
use mathlib.Core.Path.{◌≡◌, refl, sym, ap, ap₂, ◌∙◌}
use Prim.Native.Nat.{ℕ, ◌≤◌, ◌<◌}
use native.Mathlib.Omega.{arith}
use borrow.Author.Tests.{eq-eqb, ne_eqb, eqb-true, leb-true, lt-ltb, le-ltb, ltb-true}
use lib.Dec.{leb, ltb, eqb}
use lib.ListN.{length, set, replicate}
use Rattle.std.specs.Prelude.{Result, Ok, Err, IsErrAnd}
use Rattle.util.specs.Outcome.{Outcome, Paper, Settled, settled}
use Rattle.util.proofs.Same.{both}
use Rattle.store.specs.Answer.{number, numbered, tested, judged, did_paper, number_paper, gives, does, refuses}
use Rattle.store.specs.Layout.{cap, is_store, StoreOf}
use Rattle.store.specs.declared.Refusal.{Refusal}
use Rattle.store.specs.declared.Refusal.TheVariants.{NoStore, Full, Owners, Item, Owner}
use Rattle.store.proofs.Ends.{some_store, passed}
use Rattle.store.proofs.Exits.{no_store_out, refused_out, number_numbered}
use Rattle.store.proofs.Geometry.{is_store_lem, store_is}
use Rattle.store.proofs.Judged.{nothing, something, judged-number}
use Rattle.set_edit.specs.Calls.{add_of, remove_of}
use Rattle.set_free.specs.Calls.{lowest_of, first_free_of}
use Rattle.set_free.proofs.Lowest.{lowest_found, lowest_none}
use Rattle.set_whole.specs.Calls.{open_refusal, open_of}
use Rattle.set_whole.proofs.Answers.{few_refusals}
use Rattle.directory.specs.Calls.{Directory, directory, owner_at, is_item, unless, room_refusal, item_refusal, return_refusal, directory_open_of, give_of, take_back_of}

-- ---- items

pub item_in : (x : ℕ) → is_item x ≡ true → (1 ≤ x) × (x ≤ 200)
unfolding is_item
item_in x h = let b = both (leb 1 x) (leb x 200) h in (leb-true 1 x b.0, leb-true x 200 b.1)

-- ---- what stands in the way

module _ (words bytes N : ℕ) (h : open_refusal N words ≡ 0) where
  room_0 : bytes ≡ N → 0 ≡ room_refusal words bytes N
  unfolding room_refusal
  room_0 e = rw (h, eq-eqb bytes N e)

  room_13 : bytes ≢ N → 13 ≡ room_refusal words bytes N
  unfolding room_refusal
  room_13 n = rw (h, ne_eqb bytes N n)

-- nothing does: the set opens, and there are N bytes
pub room_in : (words bytes N : ℕ) → room_refusal words bytes N ≡ 0 → (open_refusal N words ≡ 0) × (bytes ≡ N)
unfolding room_refusal
room_in words bytes N h = go (eqb (open_refusal N words) 0) refl (eqb bytes N) refl h
  where
    go : (a : Bool) → eqb (open_refusal N words) 0 ≡ a → (b : Bool) → eqb bytes N ≡ b → cond {A = ℕ} a (cond b 0 13) (open_refusal N words) ≡ 0
        → (open_refusal N words ≡ 0) × (bytes ≡ N)
    go true e true f q = (eqb-true (open_refusal N words) 0 e, eqb-true bytes N f)
    go true e false f q = absurd (omega (arith, q))
    go false e b f q = absurd (true≢false (sym (eq-eqb (open_refusal N words) 0 q) ∙ e))

-- a call for item x goes on: there is a store, one byte per chunk, and x is an item
pub record ForItem (d : Directory) (x : ℕ) : Type 0 where
  pub is : is_store d.store ≡ true
  pub long : length d.owners ≡ cap d.store
  pub item : is_item x ≡ true

module _ (s o : List ℕ) (x : ℕ) where
  judge_2 : is_store s ≡ false → 2 ≡ item_refusal (directory s o) x
  unfolding item_refusal
  judge_2 h = rw h

  module _ (h : is_store s ≡ true) where
    judge_13 : length o ≢ cap s → 13 ≡ item_refusal (directory s o) x
    unfolding item_refusal
    judge_13 n = rw (h, ne_eqb (length o) (cap s) n)

    module _ (l : length o ≡ cap s) where
      judge_14 : is_item x ≡ false → 14 ≡ item_refusal (directory s o) x
      unfolding item_refusal
      judge_14 i = rw (h, eq-eqb (length o) (cap s) l, i)

      pub judge_0 : is_item x ≡ true → 0 ≡ item_refusal (directory s o) x
      unfolding item_refusal
      judge_0 i = rw (h, eq-eqb (length o) (cap s) l, i)

pub for_item : (d : Directory) (x : ℕ) → item_refusal d x ≡ 0 → ForItem d x
unfolding item_refusal
for_item d x h = go (is_store d.store) refl (eqb (length d.owners) (cap d.store)) refl (is_item x) refl h
  where
    go : (a : Bool) → is_store d.store ≡ a → (b : Bool) → eqb (length d.owners) (cap d.store) ≡ b → (i : Bool) → is_item x ≡ i
        → cond {A = ℕ} a (cond b (cond i 0 14) 13) 2 ≡ 0 → ForItem d x
    go true e true f true g q = record { is = e; long = eqb-true (length d.owners) (cap d.store) f; item = g }
    go true e true f false g q = absurd (omega (arith, q))
    go true e false f i g q = absurd (omega (arith, q))
    go false e b f i g q = absurd (omega (arith, q))

module _ (d : Directory) (x c : ℕ) (h : item_refusal d x ≡ 0) where
  -- the last test alone is left
  return-last : return_refusal d x c ≡ cond (ltb c (length d.owners) && eqb (owner_at d c) x) 0 15
  unfolding return_refusal
  return-last = rw (h, (for_item d x h).long) refl

  return_past : length d.owners ≤ c → 15 ≡ return_refusal d x c
  return_past l = sym (return-last ∙ rw (le-ltb c (length d.owners) l) refl)

  module _ (l : c < length d.owners) where
    pub return_0 : owner_at d c ≡ x → 0 ≡ return_refusal d x c
    return_0 e = sym (return-last ∙ rw (lt-ltb c (length d.owners) l, eq-eqb (owner_at d c) x e) refl)

    pub return_15 : owner_at d c ≢ x → 15 ≡ return_refusal d x c
    return_15 n = sym (return-last ∙ rw (lt-ltb c (length d.owners) l, ne_eqb (owner_at d c) x n) refl)

-- a return goes on: also, the chunk has room and its byte is the item
pub record Returned (d : Directory) (x c : ℕ) : Type 0 where
  pub judged : ForItem d x
  pub below : c < cap d.store
  pub byte : owner_at d c ≡ x

pub returned : (d : Directory) (x c : ℕ) → return_refusal d x c ≡ 0 → Returned d x c
unfolding return_refusal
returned d x c h = go (eqb (item_refusal d x) 0) refl (ltb c (cap d.store) && eqb (owner_at d c) x) refl h
  where
    go : (a : Bool) → eqb (item_refusal d x) 0 ≡ a → (b : Bool) → (ltb c (cap d.store) && eqb (owner_at d c) x) ≡ b → cond {A = ℕ} a (cond b 0 15) (item_refusal d x) ≡ 0
        → Returned d x c
    go true e true f q =
        let k = both (ltb c (cap d.store)) (eqb (owner_at d c) x) f in
        record { judged = for_item d x (eqb-true (item_refusal d x) 0 e); below = ltb-true c (cap d.store) k.0; byte = eqb-true (owner_at d c) x k.1 }
    go true e false f q = absurd (omega (arith, q))
    go false e b f q = absurd (true≢false (sym (eq-eqb (item_refusal d x) 0 q) ∙ e))

-- ---- what the judges answer

by_number : (e : Refusal) {n : ℕ} → number e ≡ n → Err e ≡ judged n
by_number e h = sym (judged-number e) ∙ ap judged h

module _ (words bytes N : ℕ) {r : Result (Unit {0}) Refusal} (e : r ≡ judged (open_refusal N words)) where
  pub room_out : {x : Refusal} {q : Result (Unit {0}) Refusal} → r ≡ Err x → IsErrAnd q (λ y. y ≡ x) → q ≡ judged (room_refusal words bytes N)
  unfolding room_refusal
  room_out h o = let p = refused_out _ e h o in p.1 ∙ sym (rw (ne_eqb (open_refusal N words) 0 p.0, ne_eqb (open_refusal N words) 0 p.0))

  module _ {u : Unit {0}} (h : r ≡ Ok u) where
    pub room_owners : bytes ≢ N → Err Owners ≡ judged (room_refusal words bytes N)
    room_owners n = by_number Owners (room_13 words bytes N (nothing _ e h) n)

    pub room_none : bytes ≡ N → Ok tt ≡ judged (room_refusal words bytes N)
    room_none n = ap judged (room_0 words bytes N (nothing _ e h) n)

module _ (d : Directory) (x : ℕ) {r : Result ℕ Refusal} (e : r ≡ tested d.store) where
  pub item_out : {y : Refusal} {q : Result (Unit {0}) Refusal} → r ≡ Err y → IsErrAnd q (λ z. z ≡ y) → q ≡ judged (item_refusal d x)
  item_out h o = let p = no_store_out d.store e h o in p.1 ∙ by_number NoStore (judge_2 d.store d.owners x p.0)

  module _ {N : ℕ} (h : r ≡ Ok N) where
    here : StoreOf N d.store
    here = some_store d.store e h

    pub item_owners : length d.owners ≢ N → Err Owners ≡ judged (item_refusal d x)
    item_owners n = by_number Owners (judge_13 d.store d.owners x (is_store_lem here) (λ q. n (q ∙ here.names)))

    module _ (l : length d.owners ≡ N) where
      pub item_none : is_item x ≡ true → Ok tt ≡ judged (item_refusal d x)
      item_none i = ap judged (judge_0 d.store d.owners x (is_store_lem here) (l ∙ sym here.names) i)

      pub item_not : is_item x ≡ false → Err Item ≡ judged (item_refusal d x)
      item_not i = by_number Item (judge_14 d.store d.owners x (is_store_lem here) (l ∙ sym here.names) i)

module _ (d : Directory) (x c : ℕ) {r : Result (Unit {0}) Refusal} (e : r ≡ judged (item_refusal d x)) where
  pub return_out : {y : Refusal} {q : Result (Unit {0}) Refusal} → r ≡ Err y → IsErrAnd q (λ z. z ≡ y) → q ≡ judged (return_refusal d x c)
  unfolding return_refusal
  return_out h o = let p = refused_out _ e h o in p.1 ∙ sym (rw (ne_eqb (item_refusal d x) 0 p.0, ne_eqb (item_refusal d x) 0 p.0))

  module _ {u : Unit {0}} (h : r ≡ Ok u) where
    pub return_none : c < length d.owners → owner_at d c ≡ x → Ok tt ≡ judged (return_refusal d x c)
    return_none l q = ap judged (return_0 d x c (nothing _ e h) l q)

    pub return_other : c < length d.owners → owner_at d c ≢ x → Err Owner ≡ judged (return_refusal d x c)
    return_other l n = by_number Owner (return_15 d x c (nothing _ e h) l n)

    pub return_beyond : length d.owners ≤ c → Err Owner ≡ judged (return_refusal d x c)
    return_beyond l = by_number Owner (return_past d x c (nothing _ e h) l)

-- ---- the calls

-- what a judge refuses is the call's answer, and nothing changes
module _ {A : Type 0} (p : Paper (Result A Refusal)) (told : (e : Refusal) → p.numbers (Err e) ≡ number e ∷ []) where
  unless_out : (n : ℕ) (d : Directory) (o : Outcome Directory) {r : Result (Unit {0}) Refusal} {q : Result A Refusal} {x : Refusal}
      → n ≤ 15 → r ≡ judged n → r ≡ Err x → IsErrAnd q (λ y. y ≡ x) → Settled p (unless n d o) q d
  unless_out n d o few e h out =
      let z = something n e h in
      let w : number (numbered n) ≡ n = number_numbered n (omega (arith, z.0)) few in
      rw (passed out, z.1) (settled (rw (ne_eqb n 0 z.0) (ap (λ (l : List ℕ). record { numbers = l; lent = d }) (ap (λ (m : ℕ). m ∷ []) (sym w) ∙ sym (told (numbered n))))))

few_rooms : (words bytes N : ℕ) → room_refusal words bytes N ≤ 15
unfolding room_refusal
few_rooms words bytes N = go (eqb (open_refusal N words) 0) (eqb bytes N)
  where
    go : (a b : Bool) → cond {A = ℕ} a (cond b 0 13) (open_refusal N words) ≤ 15
    go true true = omega arith
    go true false = omega arith
    go false b = omega (arith, few_refusals N words)

few_items : (d : Directory) (x : ℕ) → item_refusal d x ≤ 15
unfolding item_refusal
few_items d x = go (is_store d.store) (eqb (length d.owners) (cap d.store)) (is_item x)
  where
    go : (a b i : Bool) → cond {A = ℕ} a (cond b (cond i 0 14) 13) 2 ≤ 15
    go true true true = omega arith
    go true true false = omega arith
    go true false i = omega arith
    go false b i = omega arith

few_returns : (d : Directory) (x c : ℕ) → return_refusal d x c ≤ 15
unfolding return_refusal
few_returns d x c = go (eqb (item_refusal d x) 0) (ltb c (cap d.store) && eqb (owner_at d c) x)
  where
    go : (a b : Bool) → cond {A = ℕ} a (cond b 0 15) (item_refusal d x) ≤ 15
    go true true = omega arith
    go true false = omega arith
    go false b = omega (arith, few_items d x)

module _ (d : Directory) (N : ℕ) {r : Result (Unit {0}) Refusal} (e : r ≡ judged (room_refusal (length d.store) (length d.owners) N)) where
  pub open_out : {q : Result (Unit {0}) Refusal} {x : Refusal} → r ≡ Err x → IsErrAnd q (λ y. y ≡ x) → Settled did_paper (directory_open_of d N) q d
  unfolding directory_open_of
  open_out h o = unless_out did_paper (λ e. refl) _ d _ (few_rooms (length d.store) (length d.owners) N) e h o

  pub open_done : {u : Unit {0}} → r ≡ Ok u → (t o : List ℕ) → t ≡ (open_of d.store N).lent → o ≡ replicate (length d.owners) 0
      → Settled did_paper (directory_open_of d N) (Ok tt) (directory t o)
  unfolding directory_open_of
  open_done h t o f g =
      let z = nothing _ e h in
      let l = (room_in (length d.store) (length d.owners) N z).1 in
      settled (rw z (ap does (ap₂ directory (sym f) (sym (g ∙ ap (λ (n : ℕ). replicate n 0) l)))))

module _ (d : Directory) (x : ℕ) {r : Result (Unit {0}) Refusal} (e : r ≡ judged (item_refusal d x)) where
  pub give_out : {q : Result ℕ Refusal} {y : Refusal} → r ≡ Err y → IsErrAnd q (λ z. z ≡ y) → Settled number_paper (give_of d x) q d
  unfolding give_of
  give_out h o = unless_out number_paper (λ e. refl) _ d _ (few_items d x) e h o

  module _ {u : Unit {0}} (went : r ≡ Ok u) where
    goes_on : ForItem d x
    goes_on = for_item d x (nothing _ e went)

    pub item_small : x < 256
    item_small = omega (arith, (item_in x goes_on.item).1)

    -- the lowest chunk is free, or none is
    module _ {c : ℕ} (low : c ≡ lowest_of d.store) where
      pub give_full : length d.owners ≤ c → Settled number_paper (give_of d x) (Err Full) d
      unfolding give_of
      give_full l =
          let f : first_free_of d.store ≡ refuses 12 tt = lowest_none d.store (store_is goes_on.is) (omega (arith, low, l, goes_on.long)) in
          settled (rw (nothing _ e went, f) refl)

      pub give_done : c < length d.owners → (t o : List ℕ) → t ≡ (add_of d.store c).lent → o ≡ set d.owners c x
          → Settled number_paper (give_of d x) (Ok c) (directory t o)
      unfolding give_of
      give_done l t o i j =
          let f : first_free_of d.store ≡ gives c tt = lowest_found d.store (store_is goes_on.is) (omega (arith, low, l, goes_on.long)) ∙ ap (λ (k : ℕ). gives k tt) (sym low) in
          settled (rw (nothing _ e went, f) (ap (gives _) (ap₂ directory (sym i) (sym j))))

module _ (d : Directory) (x c : ℕ) {r : Result (Unit {0}) Refusal} (e : r ≡ judged (return_refusal d x c)) where
  pub take_out : {q : Result (Unit {0}) Refusal} {y : Refusal} → r ≡ Err y → IsErrAnd q (λ z. z ≡ y) → Settled did_paper (take_back_of d x c) q d
  unfolding take_back_of
  take_out h o = unless_out did_paper (λ e. refl) _ d _ (few_returns d x c) e h o

  module _ {u : Unit {0}} (h : r ≡ Ok u) where
    pub take_inside : c < length d.owners
    take_inside = let k = returned d x c (nothing _ e h) in omega (arith, k.below, k.judged.long)

    pub take_done : (t o : List ℕ) → t ≡ (remove_of d.store c).lent → o ≡ set d.owners c 0 → Settled did_paper (take_back_of d x c) (Ok tt) (directory t o)
    unfolding take_back_of
    take_done t o f g = settled (rw (nothing _ e h) (ap does (ap₂ directory (sym f) (sym g))))
