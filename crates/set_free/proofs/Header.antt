-- CHUNK 0 IS THE HEADER: what follows from where the search begins.
use mathlib.Core.Bool.{Bool, true, false}
use mathlib.Core.List.{List}
use mathlib.Core.Logic.{◌≢◌, ◌↔◌}
use mathlib.Core.Path.{◌≡◌, refl, sym, ap, ◌∙◌}
use Prim.Native.Nat.{ℕ, ◌+◌, ◌-◌, ◌≤◌, ◌<◌}
use native.Mathlib.Omega.{arith}
use Rattle.util.specs.Word.{places}
use Rattle.util.proofs.Places.{places_same}
use Rattle.store.specs.Answer.{gives, refuses, refusal_number}
use Rattle.store.specs.Layout.{is_store, StoreOf}
use Rattle.store.specs.Word.{on, Member}
use Rattle.store.proofs.Geometry.{is_store_lem, store_is}
use Rattle.store.proofs.Members.{bits_agree}
use Rattle.set_free.specs.Calls.{search_start, free_from, first_of, first_free_of}
use Rattle.set_free.proofs.Lowest.{no_search, answer_is, free_found, free_none}

-- the search never answers 0, whatever slice it is lent
pub never_header : (s : List ℕ) → first_free_of s ≢ gives 0 tt
never_header s e = go (is_store s) refl
  where
    go : (b : Bool) → is_store s ≡ b → ⊥
    go true h = omega (arith, (free_found s (store_is h) 0 e).from)
    go false h = omega (arith, ap refusal_number (sym (no_search s h) ∙ e))

-- "a capacity of 1 is always full"
pub one_is_full : {s : List ℕ} → StoreOf 1 s → first_free_of s ≡ refuses 12 tt
one_is_full {s} z = (free_none s (store_is (is_store_lem z))).1 (λ j a u. absurd (omega (arith, z.names)))

-- WHETHER 0 IS A MEMBER does not matter: stores of one capacity that have the same members from 1 on are searched alike
pub header_unseen : {N : ℕ} {s t : List ℕ} → StoreOf N s → StoreOf N t → ((i : ℕ) → 1 ≤ i → Member s i ↔ Member t i) → first_free_of s ≡ first_free_of t
unfolding free_from
header_unseen {N} {s} {t} y z same =
    by_bits y ∙ ap first_of (places_same (free s) (free t) search_start (N - search_start) alike) ∙ sym (by_bits z)
  where
    free : List ℕ → ℕ → ℕ
    free u i = 1 - on N u 0 i

    by_bits : {u : List ℕ} → StoreOf N u → first_free_of u ≡ first_of (places (free u) search_start (N - search_start))
    by_bits {u} x = answer_is u (store_is (is_store_lem x)) ∙ ap (λ (n : ℕ). first_of (free_from n u search_start)) x.names

    alike : (i : ℕ) → search_start ≤ i → i < search_start + (N - search_start) → free s i ≡ free t i
    alike i a b = ap (λ (x : ℕ). 1 - x) (bits_agree y.names z.names (omega arith) (same i a))
