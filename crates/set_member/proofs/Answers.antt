-- What each way out of `contains` answers is what the definition answers there.
use mathlib.Core.Bool.{Bool, false}
use mathlib.Core.List.{List}
use mathlib.Core.Logic.{◌≢◌, inl, inr}
use mathlib.Core.Path.{◌≡◌, ap, ◌∙◌}
use Prim.Native.Nat.{ℕ, ◌/◌, ◌%◌}
use native.Mathlib.Omega.{arith}
use borrow.Author.Tests.{lt-ltb}
use lib.Dec.{eqb}
use Rattle.std.specs.Prelude.{Ok, Err}
use Rattle.util.specs.Outcome.{Settled, settled}
use Rattle.util.specs.Word.{bit}
use Rattle.store.specs.Answer.{asked_paper}
use Rattle.store.specs.Word.{word, on}
use Rattle.store.specs.declared.Refusal.{Refusal}
use Rattle.store.specs.declared.Refusal.TheVariants.{NoStore, Id}
use Rattle.store.proofs.Exits.{tag_is}
use Rattle.store.proofs.Geometry.{is_store_lem}
use Rattle.set_member.specs.Calls.{holds, contains_of}
use Rattle.set_member.specs.Place.{Inside, Outside}
use Rattle.set_member.specs.declared.Place.{Place}
use Rattle.set_member.proofs.Places.{Refused}

-- the code's test of the id's bit in its word
pub has_is : (N : ℕ) (s : List ℕ) (i w : ℕ) (r : Bool) → w ≡ word N s 0 (i / 64) → r ≡ eqb (bit w (i % 64)) 1 → r ≡ holds N s i
unfolding on
has_is N s i w r e q = q ∙ ap (λ (x : ℕ). eqb (bit x (i % 64)) 1) e

module _ {s : List ℕ} {i : ℕ} where
  contains_past : Outside s i → Settled asked_paper (contains_of s i) (Ok false) tt
  unfolding contains_of
  contains_past o = settled (rw (is_store_lem o.store, o.store.names, o.past))

  -- refused for the id, or for another reason, which is that the slice is no store
  pub contains_no : {x : Refusal} → Refused s i x → x ≡ Id → Settled asked_paper (contains_of s i) (Ok false) tt
  contains_no (inl p) h = contains_past p.1
  contains_no (inr p) h = absurd (omega (arith, tag_is Id h, tag_is NoStore p.0))

  pub contains_2 : {x : Refusal} → Refused s i x → x ≢ Id → Settled asked_paper (contains_of s i) (Err x) tt
  unfolding contains_of
  contains_2 (inl p) n = absurd (n p.0)
  contains_2 (inr p) n = rw p.0 (settled (rw p.1))

  pub contains_is : {p : Place} → Inside s i p → {r : Bool} → r ≡ eqb (bit p.word (i % 64)) 1 → Settled asked_paper (contains_of s i) (Ok r) tt
  unfolding contains_of
  contains_is {p} z {r} e =
      let h : r ≡ holds p.n s i = has_is p.n s i p.word r z.word_is e in
      settled (rw (is_store_lem z.placed.store, z.placed.store.names, lt-ltb i p.n z.placed.below, ← h))
