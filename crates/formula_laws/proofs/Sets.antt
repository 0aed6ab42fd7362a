-- The members of a formula by ordinary set algebra.
use mathlib.Core.List.{List, Memᴰ}
use mathlib.Core.Logic.{◌≢◌, ◌⊎◌, inl, inr, ⊎_elim, ◌↔◌}
use mathlib.Core.Path.{◌≡◌, refl, sym, ap, ap₂, ◌∙◌}
use Prim.Native.Nat.{ℕ, zero, suc, ◌-◌, ◌/◌, ◌%◌, ◌^◌, ◌≤◌, ◌<◌, min, max}
use native.Mathlib.Decide.{ℕ_discrete, dec_lt}
use native.Mathlib.Omega.{arith}
use lib.Bits.{differ}
use lib.ListN.{length, get_or-eq_default}
use Rattle.util.specs.Word.{bit, flip, Rising}
use Rattle.util.proofs.Bits.{bit_lt, bit_of_zero, bit-bit_and, bit-bit_or, bit-bit_xor, bit-flip}
use Rattle.util.proofs.Places.{places_same, places_in_lem, in_places, places_rising}
use Rattle.store.specs.Layout.{top, max_cap, room, layer_len, cap}
use Rattle.store.specs.Word.{word, on, Member, Sound}
use Rattle.store.proofs.TopLayer.{top_covers}
use Rattle.store.proofs.Words.{on_lt, word_in, word_out, word_lt}
use Rattle.ops_word.specs.Op.{op_word}
use Rattle.walk_laws.specs.Under.{all_ids}
use Rattle.walk_laws.specs.Walks.{on_at}
use Rattle.walk_laws.proofs.Members.{ids_below}
use Rattle.formula_codes.specs.Tree.{Tree, existing, xor_in, joined, not_in, value, nth, tree_word}
use Rattle.formula_codes.specs.Tree.Tree.{store, both, either, one_of, inverse, every}
use Rattle.formula_codes.proofs.Accepted.{Beside}
use Rattle.formula_laws.specs.Members.{Among, held_by, formula_members}
use Rattle.formula_laws.specs.Sides.{Sounds}
use Rattle.formula_laws.proofs.Cuts.{cut_in}
use Rattle.formula_laws.proofs.Trees.{tree_bounded, tree_clear, tree_past}

-- ---- the bits of layer 0 are the members

module _ (N : ℕ) (ss : List (List ℕ)) (bounded : (c k i : ℕ) → word N (nth ss c) k i < 2 ^ 64) where
  abbrev lw : Tree → ℕ → ℕ → ℕ
  lw = tree_word N ss

  pub tree_held : (e : Tree) (i : ℕ) → i < N → on_at (tree_word N ss e) 0 i ≡ held_by N ss e i
  unfolding tree_word value joined xor_in op_word not_in on_at on held_by room
  tree_held (store c) i h = refl
  tree_held (both a b) i h = bit-bit_and (lw a 0 (i / 64)) (lw b 0 (i / 64)) (i % 64) ∙ ap₂ min (tree_held a i h) (tree_held b i h)
  tree_held (either a b) i h = bit-bit_or (lw a 0 (i / 64)) (lw b 0 (i / 64)) (i % 64) ∙ ap₂ max (tree_held a i h) (tree_held b i h)
  tree_held (one_of a b) i h = bit-bit_xor (lw a 0 (i / 64)) (lw b 0 (i / 64)) (i % 64) ∙ ap₂ differ (tree_held a i h) (tree_held b i h)
  tree_held (inverse a) i h =
      let w = lw a 0 (i / 64) in
      let x : bit (flip w) (i % 64) ≡ 1 - bit w (i % 64) = bit-flip w (i % 64) (tree_bounded N ss bounded a 0 (i / 64)) (omega arith) in
      bit-bit_and (existing N (i / 64)) (flip w) (i % 64) ∙ omega (arith, x, cut_in N i h, bit_lt w (i % 64)) ∙ ap (λ (y : ℕ). 1 - y) (tree_held a i h)
  tree_held every i h = cut_in N i h

-- ---- ordinary set algebra

-- a slice that is not lent has no word, and is sound
pub word_none : (N : ℕ) (s : List ℕ) → length s ≡ 0 → (k i : ℕ) → word N s k i ≡ 0
word_none N s e k i = go (dec_lt i (layer_len N k))
  where
    go : Dec (i < layer_len N k) → word N s k i ≡ 0
    go (yes h) = word_in N s k i h ∙ get_or-eq_default s 0 (omega arith)
    go (no h) = word_out N s k i (omega arith)

pub on_none : (N : ℕ) (s : List ℕ) → length s ≡ 0 → (k p : ℕ) → on N s k p ≡ 0
unfolding on
on_none N s e k p = ap (λ (w : ℕ). bit w (p % 64)) (word_none N s e k (p / 64)) ∙ bit_of_zero (p % 64)

pub sound_none : (N : ℕ) (s : List ℕ) → length s ≡ 0 → Sound N s
sound_none N s e = record {
  layers = record {
    inside = λ k p h q. absurd (omega (arith, q, on_none N s e k p));
    exact = λ k q h. (λ o. absurd (omega (arith, o, on_none N s e (suc k) q)), λ n. absurd (n (word_none N s e k q)));
  };
}

-- a bit that is on exactly if something holds, and the bits made of two such
module _ {A B : Type 0} {x y : ℕ} (p : (x ≡ 1) ↔ A) (q : (y ≡ 1) ↔ B) (l : x < 2) (m : y < 2) where
  off_left : x ≡ 0 → A → ⊥
  off_left e a = omega (arith, e, p.1 a)

  off_right : y ≡ 0 → B → ⊥
  off_right e b = omega (arith, e, q.1 b)

  both-on : (min x y ≡ 1) ↔ (A × B)
  both-on = (λ e. (p.0 (omega arith), q.0 (omega arith)), λ t. omega (arith, p.1 t.0, q.1 t.1))

  either_on : (max x y ≡ 1) ↔ (A ⊎ B)
  either_on = (λ e. go (ℕ_discrete x 1) e, λ t. ⊎_elim (λ (a : A). omega (arith, p.1 a)) (λ (b : B). omega (arith, q.1 b)) t)
    where
      go : Dec (x ≡ 1) → max x y ≡ 1 → A ⊎ B
      go (yes d) e = inl (p.0 d)
      go (no d) e = inr (q.0 (omega arith))

  one_on : (differ x y ≡ 1) ↔ ((A × (B → ⊥)) ⊎ ((A → ⊥) × B))
  one_on = (λ e. go (ℕ_discrete x 1) (ℕ_discrete y 1) e, λ t. ⊎_elim (λ (s : A × (B → ⊥)). left s) (λ (s : (A → ⊥) × B). right s) t)
    where
      at : (v w : ℕ) → x ≡ v → y ≡ w → differ x y ≡ differ v w
      at v w d e = ap₂ differ d e

      go : Dec (x ≡ 1) → Dec (y ≡ 1) → differ x y ≡ 1 → (A × (B → ⊥)) ⊎ ((A → ⊥) × B)
      go (yes d) (yes e) o = absurd (omega (arith, o, at 1 1 d e))
      go (yes d) (no e) o = inl (p.0 d, off_right (omega arith))
      go (no d) (yes e) o = inr (off_left (omega arith), q.0 e)
      go (no d) (no e) o = absurd (omega (arith, o, at 0 0 (omega arith) (omega arith)))

      left : A × (B → ⊥) → differ x y ≡ 1
      left s = let n : y ≢ 1 = λ e. s.1 (q.0 e) in at 1 0 (p.1 s.0) (omega (arith, n))

      right : (A → ⊥) × B → differ x y ≡ 1
      right s = let n : x ≢ 1 = λ e. s.0 (p.0 e) in at 0 1 (omega (arith, n)) (q.1 s.1)

not_on : {A : Type 0} {x : ℕ} → (x ≡ 1) ↔ A → x < 2 → (1 - x ≡ 1) ↔ (A → ⊥)
not_on {A} {x} p l = (λ e a. omega (arith, e, p.1 a), λ n. let m : x ≢ 1 = λ e. n (p.0 e) in omega (arith, m))

module _ (N : ℕ) (ss : List (List ℕ)) (fit : (c : ℕ) → Beside N (nth ss c)) where
  pub held_lt : (e : Tree) (i : ℕ) → held_by N ss e i < 2
  unfolding held_by
  held_lt (store c) i = on_lt N (nth ss c) 0 i
  held_lt (both a b) i = omega (arith, held_lt a i)
  held_lt (either a b) i = omega (arith, held_lt a i, held_lt b i)
  held_lt (one_of a b) i = go (held_by N ss a i) (held_by N ss b i) (held_lt a i) (held_lt b i)
    where
      go : (x y : ℕ) → x < 2 → y < 2 → differ x y < 2
      go zero y p q = q
      go (suc zero) zero p q = omega arith
      go (suc zero) (suc y) p q = omega arith
      go (suc (suc x)) y p q = absurd (omega arith)
  held_lt (inverse a) i = omega arith
  held_lt every i = omega arith

  -- a store that is named is a store of capacity N, or nothing is lent there
  on-member : (c i : ℕ) → i < N → (on N (nth ss c) 0 i ≡ 1) ↔ Member (nth ss c) i
  on-member c i h = go (nth ss c) (fit c) (ℕ_discrete (length (nth ss c)) 0)
    where
      go : (s : List ℕ) → Beside N s → Dec (length s ≡ 0) → (on N s 0 i ≡ 1) ↔ Member s i
      go s f (yes e) = (
        λ q. absurd (omega (arith, q, on_none N s e 0 i)),
        λ m. let n : cap s ≡ 0 = get_or-eq_default s 0 (omega arith) in absurd (omega (arith, m.below, n)),
      )
      go s f (no n) =
          let z : cap s ≡ N = (f.lent n).names in (
            λ q. record { below = omega (arith, z); held = ap (λ (x : ℕ). on x s 0 i) z ∙ q },
            λ m. ap (λ (x : ℕ). on x s 0 i) (sym z) ∙ m.held,
          )

  -- AN ID below N is held exactly if ordinary set algebra says so.
  pub held_among : (e : Tree) (i : ℕ) → i < N → (held_by N ss e i ≡ 1) ↔ Among ss e i
  unfolding held_by
  held_among (store c) i h = on-member c i h
  held_among (both a b) i h = both-on (held_among a i h) (held_among b i h) (held_lt a i) (held_lt b i)
  held_among (either a b) i h = either_on (held_among a i h) (held_among b i h) (held_lt a i) (held_lt b i)
  held_among (one_of a b) i h = one_on (held_among a i h) (held_among b i h) (held_lt a i) (held_lt b i)
  held_among (inverse a) i h = not_on (held_among a i h) (held_lt a i)
  held_among every i h = (λ q. tt, λ m. refl)

  -- THE MEMBERS: those ids, each once, rising.
  pub tree_members_are : (e : Tree) (i : ℕ) → Memᴰ i (formula_members N ss e) ↔ ((i < N) × Among ss e i)
  tree_members_are e i = (
    λ m. let t = places_in_lem (held_by N ss e) 0 N i m in let h : i < N = omega (arith, t.1) in (h, (held_among e i h).0 (omega (arith, t.2, held_lt e i))),
    λ t. in_places (held_by N ss e) 0 N i (omega arith) (omega (arith, t.0)) (λ z. omega (arith, z, (held_among e i t.0).1 t.1)),
  )

pub tree_rises : (N : ℕ) (ss : List (List ℕ)) (e : Tree) → Rising 0 (formula_members N ss e)
tree_rises N ss e = places_rising (held_by N ss e) 0 N

-- WHAT A WALK HANDS OUT by the definition is the members, over sound stores.
pub tree_ids : (N : ℕ) (ss : List (List ℕ)) → N ≤ max_cap → Sounds N ss → (e : Tree) → all_ids (tree_word N ss e) (top N) ≡ formula_members N ss e
tree_ids N ss most z e =
    ids_below (tree_word N ss e) (top N) N (tree_clear N ss z.sound e) (top_covers N most) (tree_past N ss z.sound e)
    ∙ places_same (on_at (tree_word N ss e) 0) (held_by N ss e) 0 N (λ i l u. tree_held N ss (λ c. word_lt N (nth ss c) (z.words c)) e i (omega arith))
