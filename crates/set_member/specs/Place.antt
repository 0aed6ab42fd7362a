-- Where an id stands: on paper, and as the facts that a call on an id goes on from.
use Rattle.std.specs.Prelude.{false, List, [], ◌∷◌, ◌≡◌, refl, ℕ, ◌/◌, ◌≤◌, ◌<◌, ltb, slice_index, Result, Ok, Err}
use Rattle.std.proofs.Common.{ap}
use Rattle.util.specs.Outcome.{Paper}
use Rattle.store.specs.Answer.{number, numbered_number, refused}
use Rattle.store.specs.declared.Refusal.{Refusal}
use Rattle.store.specs.Layout.{top, layer_start, StoreOf}
use Rattle.store.specs.Word.{word}
use Rattle.set_member.specs.declared.Place.{Place}

-- In a store: 0, its capacity, where its layer 0 starts, the word. Else what stands in the way has its refusal's number: 3, "an id at or past N"; 2, no store.
abbrev place : Result Place Refusal → List ℕ
place (Ok p) = 0 ∷ p.n ∷ p.start ∷ p.word ∷ []
place (Err e) = number e ∷ []

abbrev placed : List ℕ → Result Place Refusal
placed [] = refused 0
placed (n ∷ []) = refused n
placed (n ∷ v ∷ l) = Ok (record { n = v; start = slice_index l 0; word = slice_index l 1 })

abbrev pub place_paper : Paper (Result Place Refusal)
place_paper = record {
  numbers = place;
  answer = placed;
  same = λ r. elim r as (λ x. placed (place x) ≡ x) [ Ok p ↦ refl | Err e ↦ ap Err (numbered_number e) ];
}

-- s is a store of capacity N, with room for id i, and k is the number of a layer
pub record Placed (s : List ℕ) (N i k : ℕ) : Type 0 where
  pub store : StoreOf N s
  pub below : i < N
  pub layer : k ≤ top N

-- the same for layer 0, by the place of id i there
pub record Inside (s : List ℕ) (i : ℕ) (p : Place) : Type 0 where
  pub placed : Placed s p.n i 0
  pub start_is : p.start ≡ layer_start p.n 0
  pub word_is : p.word ≡ word p.n s 0 (i / 64)

-- a store of some capacity, with no room for id i
pub record Outside (s : List ℕ) (i : ℕ) : Type 0 where
  pub n : ℕ
  pub store : StoreOf n s
  pub past : ltb i n ≡ false
