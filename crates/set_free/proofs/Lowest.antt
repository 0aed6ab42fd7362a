-- Layer 0 of a store is what the search reads; and what its answer says of the members.
use mathlib.Core.Bool.{Bool, false, cond}
use mathlib.Core.List.Memᴰ
use mathlib.Core.List.{List, [], ◌∷◌, Memᴰ}
use mathlib.Core.Logic.{◌↔◌, ◌≢◌, ◌⊎◌, inl, inr, ⊎_elim}
use mathlib.Core.Path.{◌≡◌, refl, sym, ap, ◌∙◌, subst}
use Prim.Native.Nat.{ℕ, suc, ◌+◌, ◌-◌, ◌/◌, ◌%◌, ◌≤◌, ◌<◌}
use native.Mathlib.Decide.{ℕ_discrete}
use native.Mathlib.Omega.{arith}
use lib.ListN.{length, take, drop}
use Rattle.util.specs.Outcome.{Settled, settled}
use Rattle.util.specs.Word.{bit, places, Rising}
use Rattle.util.proofs.Places.{places_same, places_none, places_in_lem, in_places, places_rising}
use Rattle.store.specs.Answer.{number_paper, tested, gives, refuses, refusal_number, value_of}
use Rattle.store.specs.Build.{layer0}
use Rattle.store.specs.Layout.{words, cap, is_store, StoreOf, start_from}
use Rattle.store.specs.Word.{on, Member, Words64}
use Rattle.store.specs.declared.Refusal.{Refusal}
use Rattle.store.specs.declared.Refusal.TheVariants.{Full}
use Rattle.std.specs.Prelude.{Result, Ok, Err, IsErrAnd, Option, unwrap_or, slice_get}
use Rattle.store.proofs.Exits.{no_store_out}
use Rattle.store.proofs.Build.{word-layer0}
use Rattle.store.proofs.Ends.{lent0}
use Rattle.store.proofs.Geometry.{is_store_lem, store_is, room_closed}
use Rattle.store.proofs.Words.{on_lt}
use Rattle.set_free.specs.Calls.{search_start, free_from, first_or, lowest_of, first_of, first_free_of, LowestFree}
use Rattle.set_free.specs.Steps.{free_at, free_in, Small}

-- ---- layer 0, as the code lends it

module _ {N : ℕ} {s : List ℕ} (z : StoreOf N s) {a : ℕ} (e : a ≡ start_from (length s) N 0) where
  pub lent_small : {first : ℕ} → first / 64 < words N → Small (take (length s - a) (drop a s)) N first
  lent_small h =
      let l = lent0 z e in
      let size : length (take (length s - a) (drop a s)) ≡ words N = ap length l.words ∙ l.long ∙ room_closed N 1 in
      record { room = omega (arith, size); most = z.most; first_in = omega (arith, size); long = omega (arith, size, z.most) }

  -- the same ids are free there
  pub free_same : Words64 s → free_in (take (length s - a) (drop a s)) N search_start ≡ free_from (cap s) s search_start
  unfolding free_from on
  free_same small =
      ap (λ (x : List ℕ). free_in x N search_start) (lent0 z e).words ∙ ap (λ (n : ℕ). free_in (layer0 n s) n search_start) (sym z.names)
      ∙ places_same (free_at (layer0 (cap s) s)) (λ i. 1 - on (cap s) s 0 i) search_start (cap s - search_start)
      (λ i a b. ap (λ (w : ℕ). 1 - bit w (i % 64)) (word-layer0 s (store_is (is_store_lem z)) small (i / 64)))

pub lowest_0 : (s : List ℕ) → is_store s ≡ false → 0 ≡ lowest_of s
unfolding lowest_of
lowest_0 s h = rw h

pub no_search : (s : List ℕ) → is_store s ≡ false → first_free_of s ≡ refuses 2 tt
unfolding first_free_of
no_search s h = rw h

pub free_2 : (s : List ℕ) {r q : Result ℕ Refusal} {x : Refusal} → r ≡ tested s → r ≡ Err x → IsErrAnd q (λ y. y ≡ x) → Settled number_paper (first_free_of s) q tt
free_2 s e h o = let p = no_store_out s e h o in rw p.1 (settled (no_search s p.0))

-- ---- what the answer says of the members

rising_above : (c : ℕ) (l : List ℕ) (j : ℕ) → Rising c l → Memᴰ j l → c ≤ j
rising_above c [] j r m = absurd (Memᴰ.not-nil m)
rising_above c (x ∷ l) j r m =
    ⊎_elim (λ (e : j ≡ x). omega (arith, r.0)) (λ t. let u = rising_above (suc x) l j r.1 t in omega (arith, r.0)) (Memᴰ.cases_cons m)

-- the first number of the list is the lowest at which f is not 0
places-head : (f : ℕ → ℕ) (b n x : ℕ) (l : List ℕ) → places f b n ≡ x ∷ l
    → (b ≤ x) × (x < b + n) × (f x ≢ 0) × ((j : ℕ) → b ≤ j → j < x → f j ≡ 0)
places-head f b n x l e =
    let i = places_in_lem f b n x (subst (Memᴰ x) (sym e) (Memᴰ.head refl)) in
    let r = subst (Rising b) e (places_rising f b n) in (
      i.0,
      i.1,
      i.2,
      λ j a u. zero_at j (λ s. omega (arith, rising_above x (x ∷ l) j (omega arith, r.1) (subst (Memᴰ j) e (in_places f b n j a (omega (arith, i.1)) s)))),
    )
  where
    zero_at : (j : ℕ) → (f j ≢ 0 → ⊥) → f j ≡ 0
    zero_at j n = go (ℕ_discrete (f j) 0)
      where
        go : Dec (f j ≡ 0) → f j ≡ 0
        go (yes z) = z
        go (no z) = absurd (n z)

module _ (s : List ℕ) (is : StoreOf (cap s) s) where
  abbrev free : ℕ → ℕ
  free i = 1 - on (cap s) s 0 i

  held : (j : ℕ) → j < cap s → free j ≡ 0 → Member s j
  held j l e = record { below = l; held = omega (arith, e, on_lt (cap s) s 0 j) }

  pub answer_is : first_free_of s ≡ first_of (free_from (cap s) s search_start)
  unfolding first_free_of
  answer_is = ap (λ (b : Bool). cond b (first_of (free_from (cap s) s search_start)) (refuses 2 tt)) (is_store_lem is)

  -- where the lowest is below N the search answers it, and else refuses by 12
  lowest_list : lowest_of s ≡ first_or (cap s) (free_from (cap s) s search_start)
  unfolding lowest_of
  lowest_list = ap (λ (b : Bool). cond b (first_or (cap s) (free_from (cap s) s search_start)) 0) (is_store_lem is)

  pub lowest_found : lowest_of s < cap s → first_free_of s ≡ gives (lowest_of s) tt
  lowest_found l = go (free_from (cap s) s search_start) answer_is lowest_list
    where
      go : (x : List ℕ) → first_free_of s ≡ first_of x → lowest_of s ≡ first_or (cap s) x → first_free_of s ≡ gives (lowest_of s) tt
      go [] e f = absurd (omega (arith, f))
      go (i ∷ x) e f = e ∙ ap (λ (j : ℕ). gives j tt) (sym f)

  pub lowest_none : cap s ≤ lowest_of s → first_free_of s ≡ refuses 12 tt
  unfolding free_from
  lowest_none l = go (free_from (cap s) s search_start) refl answer_is lowest_list
    where
      go : (x : List ℕ) → free_from (cap s) s search_start ≡ x → first_free_of s ≡ first_of x → lowest_of s ≡ first_or (cap s) x → first_free_of s ≡ refuses 12 tt
      go [] q e f = e
      go (i ∷ x) q e f = absurd (omega (arith, f, (places-head free search_start (cap s - search_start) i x q).1))

  -- the search finds an id, or refuses by 12
  pub free_told : ((i : ℕ) × (first_free_of s ≡ gives i tt)) ⊎ (first_free_of s ≡ refuses 12 tt)
  free_told = go (free_from (cap s) s search_start) answer_is
    where
      go : (l : List ℕ) → first_free_of s ≡ first_of l → ((i : ℕ) × (first_free_of s ≡ gives i tt)) ⊎ (first_free_of s ≡ refuses 12 tt)
      go [] e = inr e
      go (i ∷ l) e = inl (i, e)

  -- THE ANSWER is below N and not a member, and every smaller id from the first on is a member
  pub free_found : (i : ℕ) → first_free_of s ≡ gives i tt → LowestFree s i
  unfolding free_from
  free_found i e = go (places free search_start (cap s - search_start)) refl (sym answer_is ∙ e)
    where
      go : (l : List ℕ) → places free search_start (cap s - search_start) ≡ l → first_of l ≡ gives i tt → LowestFree s i
      go [] q o = absurd (let z : 12 ≡ 0 = ap refusal_number o in omega arith)
      go (x ∷ l) q o =
          let z : x ≡ i = ap value_of o in
          let h = places-head free search_start (cap s - search_start) x l q in
          record {
            from = omega (arith, h.0);
            below = omega (arith, h.1);
            free = λ m. h.2 (ap free z ∙ omega (arith, m.held));
            lowest = λ j a u. held j (omega (arith, h.1)) (h.3 j a (omega arith));
          }

  -- REFUSAL 12 is given exactly if all ids from the first on are members
  pub free_none : (first_free_of s ≡ refuses 12 tt) ↔ ((j : ℕ) → search_start ≤ j → j < cap s → Member s j)
  unfolding free_from
  free_none = (
    λ e j a u. go (places free search_start (cap s - search_start)) refl (sym answer_is ∙ e) j a u,
    λ h. answer_is ∙ ap first_of (places_none free search_start (cap s - search_start) (λ j a u. omega (arith, (h j a (omega arith)).held))),
  )
    where
      go : (l : List ℕ) → places free search_start (cap s - search_start) ≡ l → first_of l ≡ refuses 12 tt
          → (j : ℕ) → search_start ≤ j → j < cap s → Member s j
      go [] q o j a u = at (ℕ_discrete (free j) 0)
        where
          at : Dec (free j ≡ 0) → Member s j
          at (yes z) = held j u z
          at (no z) =
              absurd (Memᴰ.not-nil (subst (Memᴰ j) q (in_places free search_start (cap s - search_start) j a (omega arith) z)))
      go (x ∷ l) q o j a u = absurd (let z : 0 ≡ 12 = ap refusal_number o in omega arith)

-- ---- what the code finds is the lowest, and that is the answer

module _ {N : ℕ} {s : List ℕ} (z : StoreOf N s) where
  own_store : StoreOf (cap s) s
  own_store = store_is (is_store_lem z)

  -- N in place of none
  pub lowest_is : {a : ℕ} {r : Option ℕ} {x : ℕ} → a ≡ start_from (length s) N 0 → Words64 s
      → r ≡ slice_get (free_in (take (length s - a) (drop a s)) N search_start) 0 → x ≡ unwrap_or r N → x ≡ lowest_of s
  lowest_is {a} {r} {x} a_is small e x-is =
      let f : r ≡ slice_get (free_from (cap s) s search_start) 0 = e ∙ ap (λ (l : List ℕ). slice_get l 0) (free_same z a_is small) in
      x-is ∙ ap (λ (o : Option ℕ). unwrap_or o N) f ∙ go (free_from (cap s) s search_start) ∙ sym (lowest_list s own_store)
    where
      go : (l : List ℕ) → unwrap_or (slice_get l 0) N ≡ first_or (cap s) l
      go [] = sym z.names
      go (i ∷ l) = refl

  module _ {r : ℕ} (e : r ≡ lowest_of s) where
    pub free_at_lem : r < N → Settled number_paper (first_free_of s) (Ok r) tt
    free_at_lem l = settled (lowest_found s own_store (omega (arith, e, z.names)) ∙ ap (λ (i : ℕ). gives i tt) (sym e))

    pub free_12 : N ≤ r → Settled number_paper (first_free_of s) (Err Full) tt
    free_12 l = settled (lowest_none s own_store (omega (arith, e, z.names)))
