-- The test of two lists, both ways, and the Bool laws that tests go by.
use mathlib.Core.Bool.{Bool, true, false, ◌&&◌, true≢false}
use mathlib.Core.List.{List, [], ◌∷◌}
use mathlib.Core.Path.{◌≡◌, refl, sym, ap₂}
use Prim.Native.Nat.{ℕ}
use borrow.Author.Tests.{eq-eqb, eqb-true}
use lib.Dec.{eqb}
use Rattle.util.specs.Word.{same}

pub both : (a b : Bool) → (a && b) ≡ true → (a ≡ true) × (b ≡ true)
both true b e = (refl, e)
both false b e = absurd (true≢false (sym e))

pub same_refl : (s : List ℕ) → same s s ≡ true
unfolding same
same_refl [] = refl
same_refl (a ∷ s) = rw (eq-eqb a a refl) (same_refl s)

pub same_eq : (s t : List ℕ) → same s t ≡ true → s ≡ t
unfolding same
same_eq [] [] e = refl
same_eq [] (b ∷ t) e = absurd (true≢false (sym e))
same_eq (a ∷ s) [] e = absurd (true≢false (sym e))
same_eq (a ∷ s) (b ∷ t) e = let k = both (eqb a b) (same s t) e in ap₂ (λ (x : ℕ) (l : List ℕ). x ∷ l) (eqb-true a b k.0) (same_eq s t k.1)
