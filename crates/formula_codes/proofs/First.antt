-- The refusal that comes first, of two answers and of three slices.
use mathlib.Core.Bool.{Bool, true, false, cond}
use mathlib.Core.List.{List}
use mathlib.Core.Logic.{◌⊎◌, inl, inr}
use mathlib.Core.Path.{◌≡◌, refl, ap, ◌∙◌}
use Prim.Native.Nat.{ℕ}
use lib.Dec.{eqb}
use lib.ListN.{length}
use Rattle.store.specs.Answer.{judged, numbered}
use Rattle.store.specs.Layout.{cap, is_store}
use Rattle.formula_codes.specs.Check.{beside_of, sooner}
use Rattle.formula_codes.specs.Steps.{first_refusal}

-- none, 2 or 5
abbrev pub Few : ℕ → Type 0
Few n = (n ≡ 0) ⊎ ((n ≡ 2) ⊎ (n ≡ 5))

pub beside_few : (N : ℕ) (s : List ℕ) → Few (beside_of N s)
unfolding beside_of
beside_few N s = go (eqb (length s) 0) (is_store s) (eqb (cap s) N)
  where
    go : (x y z : Bool) → Few (cond x 0 (cond y (cond z 0 5) 2))
    go true y z = inl refl
    go false true true = inl refl
    go false true false = inr (inr refl)
    go false false z = inr (inl refl)

module _ (a b : ℕ) where
  sooner_cases : Few a → Few b → (first_refusal (judged a) (judged b) ≡ judged (sooner a b)) × Few (sooner a b)
  unfolding sooner numbered
  sooner_cases (inl p) (inl q) = rw (p, q) (refl, inl refl)
  sooner_cases (inl p) (inr (inl q)) = rw (p, q) (refl, inr (inl refl))
  sooner_cases (inl p) (inr (inr q)) = rw (p, q) (refl, inr (inr refl))
  sooner_cases (inr (inl p)) (inl q) = rw (p, q) (refl, inr (inl refl))
  sooner_cases (inr (inl p)) (inr (inl q)) = rw (p, q) (refl, inr (inl refl))
  sooner_cases (inr (inl p)) (inr (inr q)) = rw (p, q) (refl, inr (inl refl))
  sooner_cases (inr (inr p)) (inl q) = rw (p, q) (refl, inr (inr refl))
  sooner_cases (inr (inr p)) (inr (inl q)) = rw (p, q) (refl, inr (inl refl))
  sooner_cases (inr (inr p)) (inr (inr q)) = rw (p, q) (refl, inr (inr refl))

-- the answers of three slices beside a store
pub sooner_three : (N : ℕ) (b c d : List ℕ)
    → first_refusal (first_refusal (judged (beside_of N b)) (judged (beside_of N c))) (judged (beside_of N d)) ≡ judged (sooner (sooner (beside_of N b) (beside_of N c)) (beside_of N d))
sooner_three N b c d =
    let p = sooner_cases (beside_of N b) (beside_of N c) (beside_few N b) (beside_few N c) in
    ap (λ x. first_refusal x (judged (beside_of N d))) p.0 ∙ (sooner_cases (sooner (beside_of N b) (beside_of N c)) (beside_of N d) p.1 (beside_few N d)).0
