-- The ids of a list that a store has as members: by what `contains` says of each, and by parts of the list.
use Rattle.std.proofs.Common.{◌≡◌, ℕ, Bool, true, false, ◌&&◌, List, [], ◌∷◌, ◌++◌, Result, Ok, Err, refl, ap, ◌∙◌}
use mathlib.Core.Bool.{beq}
use Rattle.std.specs.Result.{result_eq}
use Rattle.std.specs.List.{list_all}
use Rattle.util.specs.Outcome.{Settled, settled, settles}
use Rattle.store.specs.Answer.{asked_paper}
use Rattle.store.specs.Layout.{is_store}
use Rattle.store.specs.declared.Refusal.{Refusal}
use Rattle.set_member.specs.Calls.{is_member, contains_of}
use Rattle.set_superset.specs.Calls.{all_held}

-- the value of an answer; no for a refusal
abbrev pub said : Result Bool Refusal → Bool
said (Ok b) = b
said (Err e) = false

-- to be equal to yes is to be yes
beq_yes : (b : Bool) → beq b true ≡ b
beq_yes true = refl
beq_yes false = refl

-- on a store `contains` answers yes exactly where the id is a member
pub contains_yes : (s : List ℕ) → is_store s ≡ true → (same : Refusal → Refusal → Bool) (i : ℕ) (r : Result Bool Refusal) (b : Bool) → Settled asked_paper (contains_of s i) r tt
    → b ≡ result_eq beq same r (Ok true) → b ≡ is_member s i
unfolding contains_of
contains_yes s h same i r b a e = rw (settles {r' = Ok (is_member s i)} a (settled (rw h))).0 at e ∙ beq_yes (is_member s i)

pub held_all : (s l : List ℕ) → list_all (is_member s) l ≡ all_held s l
unfolding all_held
held_all s [] = refl
held_all s (i ∷ l) = ap (λ (b : Bool). is_member s i && b) (held_all s l)

and_assoc : (a b c : Bool) → (a && (b && c)) ≡ ((a && b) && c)
and_assoc true b c = refl
and_assoc false b c = refl

-- a batch, and what comes after it
pub held_append : (s x y : List ℕ) → all_held s (x ++ y) ≡ (all_held s x && all_held s y)
unfolding all_held
held_append s [] y = refl
held_append s (i ∷ x) y = ap (λ (b : Bool). is_member s i && b) (held_append s x y) ∙ and_assoc (is_member s i) (all_held s x) (all_held s y)
