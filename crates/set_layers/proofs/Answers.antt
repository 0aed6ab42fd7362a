-- What each way out of the code answers is what the definition answers there.
use mathlib.Core.Bool.{false}
use mathlib.Core.List.{List, []}
use mathlib.Core.Path.{◌≡◌, sym, ap, ap₂, ◌∙◌}
use Prim.Native.Nat.{ℕ, ◌+◌, ◌-◌, ◌*◌, ◌≤◌, ◌<◌}
use native.Mathlib.Omega.{arith}
use borrow.Author.Tests.{le-leb, lt-leb, lt-ltb, le-ltb}
use lib.ListN.{length, get_or, take, drop}
use denote.Ref.{Bor}
use Rattle.util.specs.Outcome.{Settled, settled}
use Rattle.std.specs.Prelude.{Result, Ok, Err, IsErrAnd}
use Rattle.store.specs.Answer.{number_paper, tested}
use Rattle.store.specs.Layout.{top, layer_len, layer_start, is_store, StoreOf, end_of, start_from, top_word}
use Rattle.store.specs.Word.{layer_at, word}
use Rattle.store.specs.declared.Refusal.{Refusal}
use Rattle.store.specs.declared.Refusal.TheVariants.{Layer}
use Rattle.store.proofs.Ends.{part, top-word}
use Rattle.store.proofs.Exits.{no_store_out}
use Rattle.store.proofs.Geometry.{is_store_lem}
use Rattle.set_layers.specs.Calls.{word_of, layer_part, part_start, OwnPart}

pub part_none : (s r : Bor (List ℕ)) (k : ℕ) → is_store s.now ≡ false → r.now ≡ [] → r.ref_ptr ≡ s.ref_ptr → OwnPart s r k
unfolding layer_part part_start
part_none s r k h e p =
    let z : part_start s.now k ≡ 0 = rw h in
    let q : s.ref_ptr.1 ≡ part_start s.now k * 8 + s.ref_ptr.1 = omega (arith, z) in
    record { words = e ∙ sym (rw h); place = p ∙ ap (λ (x : ℕ). (s.ref_ptr.0, x)) q }

-- the part that the code cuts out is the layer
pub part_is : {N : ℕ} (s r : Bor (List ℕ)) → StoreOf N s.now → (k a e : ℕ) → k ≤ top N → a ≡ start_from (length s.now) N k → e ≡ end_of N k
    → r.now ≡ take (e - a) (drop a s.now) → r.ref_ptr ≡ (s.ref_ptr.0, a * 8 + s.ref_ptr.1) → OwnPart s r k
unfolding layer_part part_start
part_is {N} s r z k a e h a_is e_is words_are place_is =
    let p = part z k h in
    let n : e - a ≡ layer_len N k = omega (arith, a_is, p.starts, e_is, p.ends, p.size) in
    record {
      words = words_are ∙ ap₂ (λ (x y : ℕ). take x (drop y s.now)) n (a_is ∙ p.starts) ∙ sym (rw (is_store_lem z) (ap (λ (x : ℕ). layer_at x s.now k) z.names));
      place = place_is ∙ ap (λ (x : ℕ). (s.ref_ptr.0, x * 8 + s.ref_ptr.1)) (a_is ∙ p.starts ∙ sym (rw (is_store_lem z) (ap (λ (x : ℕ). layer_start x k) z.names)));
    }

module _ {N : ℕ} {s : List ℕ} (z : StoreOf N s) where
  pub word_4 : (k i : ℕ) → top N < k → Settled number_paper (word_of s k i) (Err Layer) tt
  unfolding word_of
  word_4 k i h = settled (rw (is_store_lem z, z.names, lt-leb k (top N) h))

  -- a word below the top, and the top word, which stands behind the header
  pub word_is : (k i w : ℕ) → k < top N → w ≡ get_or (layer_part s k) i 0 → Settled number_paper (word_of s k i) (Ok w) tt
  unfolding word_of layer_part word
  word_is k i w h e =
      let q : w ≡ get_or (layer_at N s k) i 0 = e ∙ rw (is_store_lem z, z.names) in
      settled (rw (is_store_lem z, z.names, le-leb k (top N) (omega arith), lt-ltb k (top N) h, ← q))

  pub word-top : (k i w : ℕ) → k ≡ top N → w ≡ top_word s → Settled number_paper (word_of s k i) (Ok w) tt
  unfolding word_of
  word-top k i w h e =
      let q : w ≡ word N s k 0 = e ∙ top-word z ∙ ap (λ (x : ℕ). word N s x 0) (sym h) in
      settled (rw (is_store_lem z, z.names, le-leb k (top N) (omega arith), le-ltb k (top N) (omega arith), ← q))

pub word_2 : (s : List ℕ) (k i : ℕ) {r q : Result ℕ Refusal} {x : Refusal} → r ≡ tested s → r ≡ Err x → IsErrAnd q (λ y. y ≡ x)
    → Settled number_paper (word_of s k i) q tt
unfolding word_of
word_2 s k i e h o = let p = no_store_out s e h o in rw p.1 (settled (rw p.0))
