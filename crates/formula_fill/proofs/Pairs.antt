-- Two stores and what joins them: the words that are joined are the formula's.
use mathlib.Core.List.{List, [], ◌∷◌}
use mathlib.Core.Path.{◌≡◌, refl, sym, ap, ap₂, ◌∙◌}
use Prim.Native.Nat.{ℕ, ◌<◌}
use native.Mathlib.Decide.{ℕ_discrete, dec_lt}
use native.Mathlib.Omega.{arith}
use borrow.Author.Tests.{lt-ltb}
use lib.ListN.{length, get_or}
use Rattle.store.specs.Layout.{top_most, layer_len, cap, is_store, is_cap}
use Rattle.store.specs.Word.{layer_at, word}
use Rattle.store.proofs.Geometry.{is_store_lem}
use Rattle.store.proofs.Words.{word_in, word_out}
use Rattle.set_layers.specs.Calls.{layer_part}
use Rattle.formula_codes.specs.Codes.{code_kind, trees, tree_of}
use Rattle.formula_codes.specs.Tree.{joined, nth, value, tree_word}
use Rattle.formula_codes.proofs.Accepted.{Beside}
use Rattle.formula_ask.specs.Calls.{formula_words}
use Rattle.formula_pair.specs.Pair.{pair_words}
use Rattle.formula_pair_codes.specs.Pairs.{Pair}

three : (cs : List ℕ) → length cs ≡ 3 → cs ≡ get_or cs 0 0 ∷ get_or cs 1 0 ∷ get_or cs 2 0 ∷ []
three [] h = absurd (omega arith)
three (a ∷ []) h = absurd (omega arith)
three (a ∷ b ∷ []) h = absurd (omega arith)
three (a ∷ b ∷ c ∷ []) h = refl
three (a ∷ b ∷ c ∷ d ∷ cs) h = absurd (omega arith)

-- ---- the words of a slice

-- of one that is not lent
word_none : (N k i : ℕ) → word N [] k i ≡ 0
word_none N k i = go (dec_lt i (layer_len N k))
  where
    go : Dec (i < layer_len N k) → word N [] k i ≡ 0
    go (yes h) = word_in N [] k i h
    go (no h) = word_out N [] k i (omega arith)

-- a slice beside store 0 has in its layers the words that the formula reads
beside_words : {N : ℕ} (s : List ℕ) → Beside N s → (k i : ℕ) → k < top_most → get_or (layer_part s k) i 0 ≡ word N s k i
unfolding layer_part word is_store is_cap
beside_words {N} [] b k i h = sym (word_none N k i)
beside_words (x ∷ s) b k i h =
    let z = b.lent (λ e. omega (arith, e)) in
    ap (λ (l : List ℕ). get_or l i 0) (rw (is_store_lem z) (ap (λ (n : ℕ). layer_at n (x ∷ s) k) z.names))

-- ---- the words of a pair

pair_tree : (ss : List (List ℕ)) (cs : List ℕ) (N k i : ℕ) → Pair cs
    → tree_word N ss (tree_of cs) k i ≡ joined (get_or cs 2 0) k (word N (nth ss (get_or cs 0 0)) k i) (word N (nth ss (get_or cs 1 0)) k i)
unfolding tree_word tree_of trees code_kind value
pair_tree ss cs N k i p = ap (λ (x : List ℕ). tree_word N ss (tree_of x) k i) (three cs p.three) ∙ go (ℕ_discrete e 16) (ℕ_discrete e 17)
  where
    c : ℕ
    c = get_or cs 0 0

    d : ℕ
    d = get_or cs 1 0

    e : ℕ
    e = get_or cs 2 0

    go : Dec (e ≡ 16) → Dec (e ≡ 17) → tree_word N ss (tree_of (c ∷ d ∷ e ∷ [])) k i ≡ joined e k (word N (nth ss c) k i) (word N (nth ss d) k i)
    go (yes q) o = rw (lt-ltb c 4 p.first, lt-ltb d 4 p.second, q)
    go (no n) (yes q) = rw (lt-ltb c 4 p.first, lt-ltb d 4 p.second, q)
    go (no n) (no o) = let q : e ≡ 18 = omega (arith, p.joins, p.known) in rw (lt-ltb c 4 p.first, lt-ltb d 4 p.second, q)

-- where nothing is refused, the words of the two stores, joined, are the formula's
pub pair_words_lem : (ss : List (List ℕ)) (cs : List ℕ) → ((x : ℕ) → Beside (cap (nth ss 0)) (nth ss x)) → Pair cs → (k i : ℕ) → k < top_most
    → pair_words (get_or cs 2 0) (nth ss (get_or cs 0 0)) (nth ss (get_or cs 1 0)) k i ≡ formula_words ss cs k i
pair_words_lem ss cs beside p k i h =
    ap₂ (joined (get_or cs 2 0) k)
    (beside_words (nth ss (get_or cs 0 0)) (beside (get_or cs 0 0)) k i h)
    (beside_words (nth ss (get_or cs 1 0)) (beside (get_or cs 1 0)) k i h)
    ∙ sym (pair_tree ss cs (cap (nth ss 0)) k i p)
