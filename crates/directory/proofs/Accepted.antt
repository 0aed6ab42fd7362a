-- An accepted call, taken apart: what stood in no way of it, and what it does.
use mathlib.Core.Bool.{true}
use mathlib.Core.List.{List}
use mathlib.Core.Logic.{◌≢◌, ⊎_elim}
use mathlib.Core.Path.{◌≡◌, refl, sym, ap, ◌∙◌, subst}
use Prim.Native.Nat.{ℕ}
use native.Mathlib.Decide.{ℕ_discrete}
use native.Mathlib.Omega.{arith}
use borrow.Author.Tests.{eq-eqb, ne_eqb}
use Rattle.util.specs.Outcome.{Outcome}
use Rattle.store.specs.Answer.{gives, refuses, refusal_number, value_of}
use Rattle.store.specs.Layout.{is_store}
use Rattle.store.proofs.Geometry.{store_is}
use Rattle.set_free.specs.Calls.{first_free_of, LowestFree}
use Rattle.set_free.proofs.Lowest.{free_told, free_found}
use Rattle.directory.specs.Calls.{Directory, unless, item_refusal, return_refusal, give_of, take_back_of}
use Rattle.directory.proofs.Answers.{for_item, Returned, returned}

-- what holds of the refused, and of the accepted where nothing stands in the way, holds of the call
pub by_unless : (Q : Outcome Directory → Type 0) (r : ℕ) (d : Directory) (o : Outcome Directory) → (r ≢ 0 → Q (refuses r d)) → (r ≡ 0 → Q o)
    → Q (unless r d o)
by_unless Q r d o stays goes = go (ℕ_discrete r 0)
  where
    go : Dec (r ≡ 0) → Q (unless r d o)
    go (yes e) = rw (eq-eqb r 0 e) (goes e)
    go (no n) = rw (ne_eqb r 0 n) (stays n)

-- a search that does not refuse has found the lowest free id
pub found_lowest : (s : List ℕ) → is_store s ≡ true → refusal_number (first_free_of s) ≡ 0 → LowestFree s (value_of (first_free_of s))
found_lowest s h z = ⊎_elim found full (free_told s (store_is h))
  where
    found : (i : ℕ) × (first_free_of s ≡ gives i tt) → LowestFree s (value_of (first_free_of s))
    found g = subst (LowestFree s) (sym (ap value_of g.1)) (free_found s (store_is h) g.0 g.1)

    full : first_free_of s ≡ refuses 12 tt → LowestFree s (value_of (first_free_of s))
    full g = absurd (omega (arith, sym z ∙ ap refusal_number g))

-- "GIVE TAKES THE LOWEST FREE CHUNK", in every store: it was no member, and every lower one from the search's first on is
pub give_lowest : (d : Directory) (x : ℕ) → refusal_number (give_of d x) ≡ 0 → LowestFree d.store (value_of (give_of d x))
unfolding give_of
give_lowest d x =
    by_unless Q (item_refusal d x) d _ (λ n e. absurd (n e))
    (λ j. by_unless Q (refusal_number (first_free_of d.store)) d _ (λ n e. absurd (n e)) (λ z e. found_lowest d.store (for_item d x j).is z))
  where
    Q : Outcome Directory → Type 0
    Q o = refusal_number o ≡ 0 → LowestFree d.store (value_of o)

-- "return needs the item that owns it"
pub return_owned : (d : Directory) (x c : ℕ) → refusal_number (take_back_of d x c) ≡ 0 → Returned d x c
unfolding take_back_of
return_owned d x c =
    by_unless (λ o. refusal_number o ≡ 0 → Returned d x c) (return_refusal d x c) d _ (λ n e. absurd (n e)) (λ z e. returned d x c z)

-- a refused give changes nothing
pub give_keeps : (d : Directory) (x : ℕ) → refusal_number (give_of d x) ≢ 0 → (give_of d x).lent ≡ d
unfolding give_of
give_keeps d x =
    by_unless Q (item_refusal d x) d _ (λ n e. refl) (λ j. by_unless Q (refusal_number (first_free_of d.store)) d _ (λ n e. refl) (λ z e. absurd (e refl)))
  where
    Q : Outcome Directory → Type 0
    Q o = refusal_number o ≢ 0 → o.lent ≡ d
