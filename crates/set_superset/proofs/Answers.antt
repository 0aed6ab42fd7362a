-- What each way out of `contains_set` answers is what the definition answers there.
use Rattle.std.proofs.Common.{◌≡◌, ◌≢◌, ℕ, Bool, List, Result, Ok, Err, IsErrAnd, sym, ap, ◌∙◌, eq-eqb, ne_eqb}
use Rattle.util.specs.Outcome.{Settled, settled}
use Rattle.store.specs.Answer.{asked_paper, says, tested}
use Rattle.store.specs.Layout.{cap, StoreOf}
use Rattle.store.specs.declared.Refusal.{Refusal}
use Rattle.store.specs.declared.Refusal.TheVariants.{Capacities}
use Rattle.store.proofs.Exits.{no_store_out}
use Rattle.store.proofs.Geometry.{is_store_lem}
use Rattle.walk_batches.specs.Steps.{walked}
use Rattle.set_superset.specs.Calls.{all_held, contains_set_of}

module _ (s : List ℕ) {r : Result ℕ Refusal} {q : Result Bool Refusal} {x : Refusal} (e : r ≡ tested s) (h : r ≡ Err x) (o : IsErrAnd q (λ y. y ≡ x)) where
  pub first_2 : (t : List ℕ) → Settled asked_paper (contains_set_of s t) q tt
  unfolding contains_set_of
  first_2 t = let p = no_store_out s e h o in rw p.1 (settled (rw p.0))

  pub second_2 : {N : ℕ} {t : List ℕ} → StoreOf N t → Settled asked_paper (contains_set_of t s) q tt
  unfolding contains_set_of
  second_2 z = let p = no_store_out s e h o in rw p.1 (settled (rw (is_store_lem z, p.0)))

module _ {N : ℕ} {s : List ℕ} (z : StoreOf N s) {M : ℕ} {t : List ℕ} (y : StoreOf M t) where
  pub differ_5 : N ≢ M → Settled asked_paper (contains_set_of s t) (Err Capacities) tt
  unfolding contains_set_of
  differ_5 n = settled (rw (is_store_lem z, is_store_lem y, ne_eqb (cap s) (cap t) (λ e. n (sym z.names ∙ e ∙ y.names))))

  pub said_is : (r : Bool) → N ≡ M → r ≡ all_held s (walked t) → Settled asked_paper (contains_set_of s t) (Ok r) tt
  unfolding contains_set_of
  said_is r e q =
      settled (rw (is_store_lem z, is_store_lem y, eq-eqb (cap s) (cap t) (z.names ∙ e ∙ sym y.names)) (ap (λ (b : Bool). says b tt) (sym q)))
