-- The answers that calls share, on paper. Document 01: "Each returns its number and zeros elsewhere": an answer's first number is the
-- refusal's, 0 for none, and its value stands second; a refusal is its number alone, and reads 0 elsewhere.
use Rattle.std.specs.Prelude.{◌≡◌, ℕ, Bool, true, false, cond, ◌&&◌, List, [], ◌∷◌, ◌==◌, slice_index, Result, Ok, Err, refl}
use Rattle.std.proofs.Common.{ap}
use Rattle.util.specs.Outcome.{Outcome, Paper}
use Rattle.store.specs.Layout.{cap, is_store}
use Rattle.store.specs.declared.Refusal.{Refusal}
use Rattle.store.specs.declared.Refusal.TheVariants.{Capacity, NoStore, Id, Layer, Capacities, Formula, Cursor, Buffer, Header, Entry, Members, Full, Owners, Item, Owner}

-- outcomes: a value, yes or no as 1 or 0, done as 0; and a refusal
abbrev pub gives : {X : Type 0} → ℕ → X → Outcome X
gives v x = record { numbers = 0 ∷ v ∷ []; lent = x }

abbrev pub says : {X : Type 0} → Bool → X → Outcome X
says b x = gives (cond b 1 0) x

abbrev pub does : {X : Type 0} → X → Outcome X
does x = gives 0 x

abbrev pub refuses : {X : Type 0} → ℕ → X → Outcome X
refuses n x = record { numbers = n ∷ []; lent = x }

-- an outcome's refusal, 0 for none, and its value
abbrev pub refusal_number : {X : Type 0} → Outcome X → ℕ
refusal_number o = slice_index o.numbers 0

abbrev pub value_of : {X : Type 0} → Outcome X → ℕ
value_of o = slice_index o.numbers 1

-- ---- refusals by number

-- the tables "Refusals by number" of document 01, and those of document 02
abbrev pub number : Refusal → ℕ
number Capacity = 1
number NoStore = 2
number Id = 3
number Layer = 4
number Capacities = 5
number Formula = 6
number Cursor = 7
number Buffer = 8
number Header = 9
number Entry = 10
number Members = 11
number Full = 12
number Owners = 13
number Item = 14
number Owner = 15

-- the refusal of a number
abbrev nth_refusal : List Refusal → ℕ → Refusal
nth_refusal [] n = Owner
nth_refusal (e ∷ l) n = cond (number e == n) e (nth_refusal l n)

abbrev pub refusals : List Refusal
refusals = Capacity ∷ NoStore ∷ Id ∷ Layer ∷ Capacities ∷ Formula ∷ Cursor ∷ Buffer ∷ Header ∷ Entry ∷ Members ∷ Full ∷ Owners ∷ Item ∷ Owner ∷ []

unfoldable pub numbered : ℕ → Refusal
numbered = nth_refusal refusals

pub numbered_number : (e : Refusal) → numbered (number e) ≡ e
unfolding numbered
numbered_number e = elim e as (λ x. numbered (number x) ≡ x) [ Capacity ↦ refl | NoStore ↦ refl | Id ↦ refl | Layer ↦ refl | Capacities ↦ refl | Formula ↦ refl | Cursor ↦ refl | Buffer ↦ refl | Header ↦ refl | Entry ↦ refl | Members ↦ refl | Full ↦ refl | Owners ↦ refl | Item ↦ refl | Owner ↦ refl ]

abbrev pub refused : {A : Type 0} → ℕ → Result A Refusal
refused n = Err (numbered n)

-- ---- a value or a refusal, on paper

abbrev pub on_paper : {A : Type 0} → (A → ℕ) → Result A Refusal → List ℕ
on_paper to (Ok a) = 0 ∷ to a ∷ []
on_paper to (Err e) = number e ∷ []

-- read off the numbers
abbrev read_back : {A : Type 0} → (ℕ → A) → List ℕ → Result A Refusal
read_back from [] = refused 0
read_back from (n ∷ []) = refused n
read_back from (n ∷ v ∷ l) = Ok (from v)

-- yes or no
abbrev pub asked_paper : Paper (Result Bool Refusal)
asked_paper = record {
  numbers = on_paper (λ b. cond b 1 0);
  answer = read_back (λ v. v == 1);
  same = λ r. elim r as (λ x. read_back (λ v. v == 1) (on_paper (λ b. cond b 1 0) x) ≡ x) [ Ok b ↦ ap Ok (elim b as (λ x. (cond x 1 0 == 1) ≡ x) [ true ↦ refl | false ↦ refl ]) | Err e ↦ ap Err (numbered_number e) ];
}

-- done
abbrev pub did_paper : Paper (Result (Unit {0}) Refusal)
did_paper = record {
  numbers = on_paper (λ _. 0);
  answer = read_back (λ _. tt);
  same = λ r. elim r as (λ x. read_back (λ _. tt) (on_paper (λ _. 0) x) ≡ x) [ Ok u ↦ refl | Err e ↦ ap Err (numbered_number e) ];
}

-- a number: an id, a word, a length, a capacity
abbrev pub number_paper : Paper (Result ℕ Refusal)
number_paper = record {
  numbers = on_paper (λ n. n);
  answer = read_back (λ n. n);
  same = λ r. elim r as (λ x. read_back (λ n. n) (on_paper (λ n. n) x) ≡ x) [ Ok n ↦ refl | Err e ↦ ap Err (numbered_number e) ];
}

-- what the store test answers
abbrev pub tested : List ℕ → Result ℕ Refusal
tested s = cond (is_store s) (Ok (cap s)) (Err NoStore)

-- what the test of two stores of one capacity answers: "capacities differ" is said of two stores
unfoldable pub tested_pair : List ℕ → List ℕ → Result ℕ Refusal
tested_pair s t = cond (is_store s && is_store t) (cond (cap s == cap t) (Ok (cap s)) (Err Capacities)) (Err NoStore)

-- what a judge answers, by the number of what stands in the way, 0 being nothing
abbrev pub judged : ℕ → Result (Unit {0}) Refusal
judged n = cond (n == 0) (Ok tt) (refused n)
