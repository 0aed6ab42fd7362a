-- What a caller wants: when `contains_set` says yes.
use mathlib.Core.Bool.{Bool, true, ◌&&◌}
use mathlib.Core.List.Memᴰ
use mathlib.Core.List.{List, [], ◌∷◌, Memᴰ}
use mathlib.Core.Logic.{◌↔◌, ⊎_elim}
use mathlib.Core.Path.{◌≡◌, refl, sym, ap, ap₂, subst}
use Prim.Native.Nat.{ℕ}
use Rattle.util.specs.Outcome.{Settled, settles}
use Rattle.util.proofs.Same.{both}
use Rattle.store.specs.Answer.{asked_paper}
use Rattle.store.specs.Layout.{cap, is_store}
use Rattle.store.specs.Word.{Member, Sound, Words64}
use Rattle.std.specs.Prelude.{Ok}
use Rattle.store.proofs.Geometry.{store_is}
use Rattle.store.proofs.Members.{members_are}
use Rattle.set_member.specs.Calls.{is_member}
use Rattle.set_member.proofs.Tested.{is_member_lem}
use Rattle.walk.specs.declared.Cursor.{Cursor}
use Rattle.walk_laws.specs.Calls.{Ask}
use Rattle.walk_laws.specs.Walks.{walk_on}
use Rattle.walk_laws.proofs.Store.{walk_defined, ids_members}
use Rattle.walk_batches.specs.Steps.{walked}
use Rattle.set_superset.specs.Calls.{all_held, contains_set_of}
use Rattle.set_superset.proofs.Answers.{said_is}
use Rattle.set_superset.proofs.Held.{said}

-- the test of a list of ids
held_each : (s l : List ℕ) → (all_held s l ≡ true) ↔ ((i : ℕ) → Memᴰ i l → Member s i)
unfolding all_held
held_each s [] = (λ e i m. absurd (Memᴰ.not-nil m), λ h. refl)
held_each s (x ∷ l) =
    let ih = held_each s l in (
      λ e i m.
          let b = both (is_member s x) (all_held s l) e in
          ⊎_elim (λ (q : i ≡ x). subst (Member s) (sym q) ((is_member_lem s x).0 b.0)) (λ (q : Memᴰ i l). ih.0 b.1 i q) (Memᴰ.cases_cons m),
      λ h. ap₂ (λ (a b : Bool). a && b) ((is_member_lem s x).1 (h x (Memᴰ.head refl))) (ih.1 (λ i m. h i (Memᴰ.tail m))),
    )

-- ---- stores of one capacity, sound or not

module _ (s t : List ℕ) (is : is_store s ≡ true) (it : is_store t ≡ true) (e : cap s ≡ cap t) where
  yes_held : Settled asked_paper (contains_set_of s t) (Ok true) tt ↔ (all_held s (walked t) ≡ true)
  yes_held = (
    λ y. sym (ap said (settles {r' = Ok (all_held s (walked t))} y (said_is (store_is is) (store_is it) (all_held s (walked t)) e refl)).0),
    λ h. said_is (store_is is) (store_is it) true e (sym h),
  )

  -- it says yes exactly if every id that a walk of the other store hands out, however it is cut into calls, is a member of this one
  pub contains_walked : Words64 t → (c : Cursor) (q : List Ask) → (walk_on t c q).over ≡ true
      → Settled asked_paper (contains_set_of s t) (Ok true) tt ↔ ((i : ℕ) → Memᴰ i (walk_on t c q).members → Member s i)
  contains_walked small c q o =
      let h = held_each s (walked t) in
      subst (λ (l : List ℕ). Settled asked_paper (contains_set_of s t) (Ok true) tt ↔ ((i : ℕ) → Memᴰ i l → Member s i)) (sym (walk_defined t it small c q o).0)
      (λ y. h.0 (yes_held.0 y), λ m. yes_held.1 (h.1 m))

  -- where the other store is sound: exactly if every member of it is a member of this one
  pub contains_members : Words64 t → Sound (cap t) t → Settled asked_paper (contains_set_of s t) (Ok true) tt ↔ ((i : ℕ) → Member t i → Member s i)
  contains_members small z =
      let h = held_each s (walked t) in
      let q = ids_members t it small z in (
        λ y i m. h.0 (yes_held.0 y) i (subst (Memᴰ i) (sym q) ((members_are t i).1 m)),
        λ m. yes_held.1 (h.1 (λ i x. m i ((members_are t i).0 (subst (Memᴰ i) q x)))),
      )
