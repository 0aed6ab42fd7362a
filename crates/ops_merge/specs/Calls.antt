-- What or, and, xor in place do. Document 01: "Two stores of equal capacity; the first becomes union, intersection or symmetric
-- difference, sound, the second is unchanged."
use Rattle.std.specs.Prelude.{Bool, true, cond, ◌&&◌, ◌≡◌, ℕ, eqb, length, Result}
use mathlib.Core.List.{List, zip_with}
use Rattle.util.specs.Outcome.{Outcome, Settled}
use Rattle.store.specs.Answer.{did_paper, does, refuses}
use Rattle.store.specs.Build.{build, layer0}
use Rattle.store.specs.Layout.{cap, is_store, StoreOf}
use Rattle.store.specs.Word.{Sound}
use Rattle.store.specs.declared.Refusal.{Refusal}
use Rattle.ops_word.specs.Op.{op_word}

-- the layer-0 words, each with the other's at its place
abbrev pub merged_words : ℕ → List ℕ → List ℕ → List ℕ
merged_words op s t = zip_with (op_word op) (layer0 (cap s) s) (layer0 (cap s) t)

-- the sound store that they make
unfoldable pub merged_of : ℕ → List ℕ → List ℕ → List ℕ
merged_of op s t = build (cap s) (merged_words op s t)

-- two stores of equal capacity
unfoldable pub mergeable : List ℕ → List ℕ → Bool
mergeable s t = (is_store s && is_store t) && eqb (cap s) (cap t)

-- the same as facts
pub record BothStores (s t : List ℕ) : Type 0 where
  pub first : StoreOf (cap s) s
  pub second : StoreOf (cap s) t
  pub caps : cap t ≡ cap s

-- refusals 2, then 5: "capacities differ"
unfoldable pub assign_of : ℕ → List ℕ → List ℕ → Outcome (List ℕ)
assign_of op s t = cond (is_store s && is_store t) (cond (eqb (cap s) (cap t)) (does (merged_of op s t)) (refuses 5 s)) (refuses 2 s)

-- where the call goes through, both stores are sound
abbrev pub BothSound : List ℕ → List ℕ → Type 0
BothSound s t = mergeable s t ≡ true → (Sound (cap s) s) × (Sound (cap t) t)

-- The promise. The answer, the length and word 0 are fixed for every input, and the second store is lent to be read only. Everything is
-- settled but where the call goes through with an unsound store: "Where either store is unsound, only word 0, the unchanged second
-- store and safety are promised: this is an entry in the list of exceptions."
pub record Assigned (op : ℕ) (s t : List ℕ) (r : Result (Unit {0}) Refusal) (u : List ℕ) : Type 0 where
  pub answer : did_paper.numbers r ≡ (assign_of op s t).numbers
  pub long : length u ≡ length s
  pub names : cap u ≡ cap s
  pub whole : BothSound s t → Settled did_paper (assign_of op s t) r u
