-- What a call answers at the exit of a `?` on the store test or on a judge.
use Rattle.std.proofs.Common.{Bool, ◌≡◌, ◌≢◌, ℕ, zero, suc, ◌≤◌, ◌==◌, ◌&&◌, true, refl, arith, List, false, ap, ◌∙◌, IsErrAnd, Result, Err}
use native.Mathlib.Decide.{ℕ_discrete}
use denote.Enum.Declared.{tag_of}
use Rattle.std.proofs.lemmas.Bool.{eqb-true}
use Rattle.std.proofs.lemmas.Result.{err_from_is_err_and}
use Rattle.util.proofs.Same.{both}
use Rattle.store.specs.Answer.{number, numbered, tested, judged, refused}
use Rattle.store.specs.Layout.{is_store}
use Rattle.store.specs.contracts.Refusal.{the_type}
use Rattle.store.specs.declared.Refusal.{Refusal}
use Rattle.store.specs.declared.Refusal.TheVariants.{NoStore}
use Rattle.store.proofs.Ends.{no_store, no_store_is}
use Rattle.store.proofs.Judged.{something}

module _ {A : Type 0} {x : Refusal} {q : Result A Refusal} where
  -- the slice is no store, and the call says so
  pub no_store_out : {r : Result ℕ Refusal} (s : List ℕ) → r ≡ tested s → r ≡ Err x → IsErrAnd q (λ y. y ≡ x) → (is_store s ≡ false) × (q ≡ Err NoStore)
  no_store_out s e h o = let p = err_from_is_err_and q o in (no_store s e h, p.1 ∙ ap Err (p.2 ∙ no_store_is s e h))

  -- something stands in the way, and the call says what
  pub refused_out : {r : Result (Unit {0}) Refusal} (n : ℕ) → r ≡ judged n → r ≡ Err x → IsErrAnd q (λ y. y ≡ x) → (n ≢ 0) × (q ≡ refused n)
  refused_out n e h o = let p = err_from_is_err_and q o in let z = something n e h in (z.0, p.1 ∙ ap Err (p.2 ∙ z.1))

-- an arm behind one for a refusal tells by tags that it is another
pub tag_is : {x : Refusal} (e : Refusal) → x ≡ e → tag_of the_type x ≡ tag_of the_type e
tag_is e h = ap (tag_of the_type) h

-- ---- the refusal of a number of the tables has that number

named : ℕ → Bool
named zero = true
named (suc k) = (number (numbered (suc k)) == suc k) && named k

all_named : named 15 ≡ true
unfolding named numbered
all_named = refl

named_at : (k : ℕ) → named k ≡ true → (n : ℕ) → 1 ≤ n → n ≤ k → number (numbered n) ≡ n
unfolding named
named_at zero e n a b = absurd (omega arith)
named_at (suc k) e n a b =
    let p = both (number (numbered (suc k)) == suc k) (named k) e in
    go (λ l. named_at k p.1 n a l) (eqb-true _ _ p.0) (ℕ_discrete n (suc k))
  where
    go : (n ≤ k → number (numbered n) ≡ n) → number (numbered (suc k)) ≡ suc k → Dec (n ≡ suc k) → number (numbered n) ≡ n
    go below here (yes q) = rw q here
    go below here (no q) = below (omega arith)

pub number_numbered : (n : ℕ) → 1 ≤ n → n ≤ 15 → number (numbered n) ≡ n
number_numbered = named_at 15 all_named
