-- What a caller learns from a judge that answers the capacity.
use mathlib.Core.Bool.{Bool, true, false}
use mathlib.Core.List.{List}
use mathlib.Core.Logic.{◌≢◌}
use mathlib.Core.Path.{◌≡◌, refl, ap, ◌∙◌}
use Prim.Native.Nat.{ℕ}
use borrow.Author.Tests.{eqb-true, eqb-false}
use lib.Dec.{eqb}
use Rattle.std.proofs.Common.{Result, Ok, Err, IsErrAnd}
use Rattle.std.proofs.lemmas.Result.{err_from_is_err_and}
use Rattle.store.specs.Answer.{numbered, refused}
use Rattle.store.specs.Layout.{cap}
use Rattle.store.specs.declared.Refusal.{Refusal}
use Rattle.formula_codes.specs.Formula.{sized}
use Rattle.formula_codes.specs.Tree.{nth}

module _ (ss : List (List ℕ)) (m : ℕ) where
  -- nothing stands in the way, and the answer is the capacity of store 0
  pub sized_passed : {n : ℕ} → Ok n ≡ sized ss m → (m ≡ 0) × (n ≡ cap (nth ss 0))
  sized_passed {n} e = go (eqb m 0) refl
    where
      go : (b : Bool) → eqb m 0 ≡ b → (m ≡ 0) × (n ≡ cap (nth ss 0))
      go true p = let t : Ok n ≡ Ok (cap (nth ss 0)) = e ∙ rw p in (eqb-true m 0 p, cc)
      go false p = let t : Ok n ≡ refused m = e ∙ rw p in absurd cc

  pub sized_refused : {x : Refusal} → Err x ≡ sized ss m → (m ≢ 0) × (x ≡ numbered m)
  sized_refused {x} e = go (eqb m 0) refl
    where
      go : (b : Bool) → eqb m 0 ≡ b → (m ≢ 0) × (x ≡ numbered m)
      go true p = let t : Err x ≡ Ok (cap (nth ss 0)) = e ∙ rw p in absurd cc
      go false p = let t : Err x ≡ refused m = e ∙ rw p in (eqb-false m 0 p, cc)

  -- the same at the exit of a `?`: the call answers that refusal
  pub sized_out : {A : Type 0} {x : Refusal} {q : Result A Refusal} → Err x ≡ sized ss m → IsErrAnd q (λ y. y ≡ x) → (m ≢ 0) × (q ≡ refused m)
  sized_out {q = q} e o = let p = err_from_is_err_and q o in let z = sized_refused e in (z.0, p.1 ∙ ap Err (p.2 ∙ z.1))
