-- What an arm of the match on an id's place knows.
use mathlib.Core.Bool.{Bool, true, false}
use mathlib.Core.List.{List}
use mathlib.Core.Logic.{◌⊎◌, inl, inr}
use mathlib.Core.Path.{◌≡◌, refl, subst}
use Prim.Native.Nat.{ℕ, ◌/◌, ◌<◌}
use native.Mathlib.Omega.{arith}
use borrow.Author.Tests.{ltb-true}
use lib.Dec.{ltb}
use lib.ListN.{length}
use Rattle.std.specs.Prelude.{Result, Ok, Err, IsErrAnd}
use Rattle.util.specs.Outcome.{Settled, settled, settles}
use Rattle.store.specs.Answer.{tested}
use Rattle.store.specs.Layout.{layer_start, start_from, id_word_of, cap, is_store, StoreOf}
use Rattle.store.specs.Word.{word}
use Rattle.store.specs.declared.Refusal.{Refusal}
use Rattle.store.specs.declared.Refusal.TheVariants.{NoStore, Id}
use Rattle.store.proofs.Ends.{some_store, id-word, start_is}
use Rattle.store.proofs.Exits.{no_store_out}
use Rattle.store.proofs.Geometry.{is_store_lem, store_is}
use Rattle.set_member.specs.Calls.{locate_of}
use Rattle.set_member.specs.Place.{place_paper, Inside, Outside}
use Rattle.set_member.specs.declared.Place.{Place}

-- ---- the ways out of `locate`

-- past both tests the id's word lies in the store
pub word_inside : (s : List ℕ) (n i : ℕ) → tested s ≡ Ok n → ltb i n ≡ true → id_word_of (start_from (length s) n 0) i < length s
word_inside s n i e h = let z = some_store s refl e in (id-word z (ltb-true i n h) (start_is z 0)).inside

module _ (s : List ℕ) (i : ℕ) where
  nowhere : is_store s ≡ false → Settled place_paper (locate_of s i) (Err NoStore) tt
  unfolding locate_of
  nowhere h = settled (rw h)

  pub is_nowhere : {r : Result ℕ Refusal} {q : Result Place Refusal} {x : Refusal} → r ≡ tested s → r ≡ Err x → IsErrAnd q (λ y. y ≡ x)
      → Settled place_paper (locate_of s i) q tt
  is_nowhere e h o = let p = no_store_out s e h o in rw p.1 (nowhere p.0)

  module _ {N : ℕ} (z : StoreOf N s) where
    pub is_in : {a w : ℕ} → ltb i N ≡ true → a ≡ layer_start N 0 → w ≡ word N s 0 (i / 64)
        → Settled place_paper (locate_of s i) (Ok (record { n = N; start = a; word = w })) tt
    unfolding locate_of
    is_in h f e = settled (rw (is_store_lem z, z.names, h, ← e, ← f))

    pub is_past : ltb i N ≡ false → Settled place_paper (locate_of s i) (Err Id) tt
    unfolding locate_of
    is_past h = settled (rw (is_store_lem z, z.names, h))

-- ---- and what they tell

-- the facts that a refusal stands for
abbrev pub Refused : List ℕ → ℕ → Refusal → Type 0
Refused s i e = ((e ≡ Id) × Outside s i) ⊎ ((e ≡ NoStore) × (is_store s ≡ false))

-- and those that an answer stands for
unfoldable Located : List ℕ → ℕ → Result Place Refusal → Type 0
Located s i (Ok p) = Inside s i p
Located s i (Err e) = Refused s i e

-- each place tells its facts: a promise settles, so it is the way out that fits the slice and the id
located : (s : List ℕ) (i : ℕ) {r : Result Place Refusal} → Settled place_paper (locate_of s i) r tt → Located s i r
unfolding Located
located s i {r} l = go (is_store s) refl (ltb i (cap s)) refl
  where
    at : {x : Result Place Refusal} → Settled place_paper (locate_of s i) x tt → Located s i x → Located s i r
    at m = subst (Located s i) (settles m l).0

    go : (b : Bool) → is_store s ≡ b → (f : Bool) → ltb i (cap s) ≡ f → Located s i r
    go true p true q = at (is_in s i (store_is p) q refl refl)
        (record { placed = record { store = store_is p; below = ltb-true _ _ q; layer = omega arith }; start_is = refl; word_is = refl })
    go true p false q = at (is_past s i (store_is p) q) (inl (refl, record { n = cap s; store = store_is p; past = q }))
    go false p f q = at (nowhere s i p) (inr (refl, p))

module _ (s : List ℕ) (i : ℕ) {r : Result Place Refusal} (l : Settled place_paper (locate_of s i) r tt) where
  pub inside : {p : Place} → r ≡ Ok p → Inside s i p
  unfolding Located
  inside e = subst (Located s i) e (located s i l)

  pub refused_at : {x : Refusal} → r ≡ Err x → Refused s i x
  unfolding Located
  refused_at e = subst (Located s i) e (located s i l)
