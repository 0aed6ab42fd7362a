-- What a C caller is told of a layer: it is where the layer stands, and no layer of a store is empty.
use mathlib.Core.Bool.{Bool, true, false}
use mathlib.Core.List.{List}
use mathlib.Core.Path.{◌≡◌, refl, sym, ap₂, ◌∙◌}
use Prim.Native.Nat.{ℕ, suc, ◌-◌, ◌≤◌}
use native.Mathlib.Omega.{arith}
use lib.ListN.{length}
use Rattle.store.specs.Layout.{top, layer_len, cap, is_store, StoreOf, end_of, start_from}
use Rattle.store.proofs.Ends.{part}
use Rattle.store.proofs.Geometry.{is_store_lem, store_is, room_falls}
use Rattle.set_layers.specs.Calls.{layer_part}
use Rattle.export_answer.specs.declared.Part.{Part}
use Rattle.export_layers.specs.Parts.{part_of, part_words}

-- ---- the ways out of the code

abbrev at : ℕ → ℕ → Part
at a n = record { start = a; length = n }

pub span_none : (s : List ℕ) (k : ℕ) → is_store s ≡ false → at 0 0 ≡ part_of s k
unfolding part_of
span_none s k h = sym (rw h)

pub span_is : {N : ℕ} {s : List ℕ} → StoreOf N s → (k a e : ℕ) → k ≤ top N → a ≡ start_from (length s) N k → e ≡ end_of N k → at a (e - a) ≡ part_of s k
unfolding part_of
span_is {N} {s} z k a e h a_is e_is =
    let p = part z k h in
    let n : e - a ≡ layer_len N k = omega (arith, a_is, p.starts, e_is, p.ends, p.size) in
    ap₂ at (a_is ∙ p.starts) n ∙ sym (rw (is_store_lem z, z.names))

-- ---- the words that are told are the layer

pub part_words_lem : (s : List ℕ) (k : ℕ) → part_words s (part_of s k) ≡ layer_part s k
unfolding part_of layer_part
part_words_lem s k = go (is_store s) refl
  where
    go : (b : Bool) → is_store s ≡ b → part_words s (part_of s k) ≡ layer_part s k
    go true h = rw h
    go false h = rw h

-- "an empty part stands for refusal 2, since no layer of a store is empty"
pub part_some : (s : List ℕ) (k : ℕ) → is_store s ≡ true → 1 ≤ (part_of s k).length
unfolding part_of
part_some s k h = rw h (room_falls (cap s) (suc k) (store_is h).some).0
