-- What a caller learns from a judge's answer.
use Rattle.std.proofs.Common.{◌≡◌, ◌≢◌, ℕ, Bool, true, false, sym, refl, ap, ◌∙◌, true≢false}
use Rattle.std.proofs.lemmas.Bool.{eqb-true}
use Rattle.std.specs.Prelude.{Result, Ok, Err, ◌==◌}
use Rattle.store.specs.Answer.{number, judged, numbered, refused}
use Rattle.store.specs.declared.Refusal.{Refusal}
use Rattle.store.specs.declared.Refusal.TheVariants.{Capacity, NoStore, Id, Layer, Capacities, Formula, Cursor, Buffer, Header, Entry, Members, Full, Owners, Item, Owner}

abbrev is_ok : Result (Unit {0}) Refusal → Bool
is_ok (Ok u) = true
is_ok (Err e) = false

abbrev err_of : Result (Unit {0}) Refusal → Refusal
err_of (Ok u) = NoStore
err_of (Err e) = e

module _ {r : Result (Unit {0}) Refusal} (n : ℕ) (e : r ≡ judged n) where
  -- nothing stands in the way
  pub nothing : {u : Unit {0}} → r ≡ Ok u → n ≡ 0
  nothing h = go (n == 0) refl
    where
      go : (b : Bool) → (n == 0) ≡ b → n ≡ 0
      go true p = eqb-true n 0 p
      go false p = let t : judged n ≡ refused n = rw p in absurd (true≢false (ap is_ok (sym h ∙ e ∙ t)))

  -- the refusal of a number that is not 0
  pub something : {x : Refusal} → r ≡ Err x → (n ≢ 0) × (x ≡ numbered n)
  something {x} h = go (n == 0) refl
    where
      go : (b : Bool) → (n == 0) ≡ b → (n ≢ 0) × (x ≡ numbered n)
      go true p = let t : judged n ≡ Ok tt = rw p in absurd (true≢false (sym (ap is_ok (sym h ∙ e ∙ t))))
      go false p =
          let t : judged n ≡ refused n = rw p in
          (λ z. absurd (true≢false (rw z at p)), ap err_of (sym h ∙ e ∙ t))

-- a refusal is what its number is judged as
pub judged-number : (e : Refusal) → judged (number e) ≡ Err e
unfolding numbered
judged-number e = elim e as (λ x. judged (number x) ≡ Err x) [ Capacity ↦ refl | NoStore ↦ refl | Id ↦ refl | Layer ↦ refl | Capacities ↦ refl | Formula ↦ refl | Cursor ↦ refl | Buffer ↦ refl | Header ↦ refl | Entry ↦ refl | Members ↦ refl | Full ↦ refl | Owners ↦ refl | Item ↦ refl | Owner ↦ refl ]
