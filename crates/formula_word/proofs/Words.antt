-- The word that the code evaluates is the definition's; and where nothing is refused it is the word of the tree.
use mathlib.Core.Bool.{Bool, true, false, cond}
use mathlib.Core.List.{List, [], ◌∷◌, map}
use mathlib.Core.Path.{◌≡◌, refl, sym, ap, ◌∙◌, subst}
use Prim.Native.Nat.{ℕ, zero, suc, ◌+◌, ◌%◌, ◌≤◌, ◌<◌}
use native.Mathlib.Omega.{arith}
use borrow.Author.Tests.{ltb-true, ltb-false}
use lib.Dec.{ltb}
use lib.ListN.{length, get_or, get_or-eq_default}
use Rattle.std.proofs.lemmas.List.{length-map}
use Rattle.store.specs.Layout.{top, max_cap, room, layer_len, store_len, cap, end_of, top_most}
use Rattle.store.specs.Word.{word}
use Rattle.store.proofs.Ends.{end_is}
use Rattle.store.proofs.Geometry.{end_step}
use Rattle.store.proofs.TopLayer.{top_high}
use Rattle.store.proofs.Words.{word_in, word_out}
use Rattle.formula_codes.specs.Check.{check_of}
use Rattle.formula_codes.specs.Codes.{tree_of, cuts_in}
use Rattle.formula_codes.specs.Formula.{slices}
use Rattle.formula_codes.specs.declared.Formula.{Formula}
use Rattle.formula_codes.specs.Tree.{existing, four, nth, tree_word}
use Rattle.formula_codes.proofs.Accepted.{Accepted, accepted, formula_one, four_slices}
use Rattle.formula_place.specs.Spots.{words_in, places_in, place_of}
use Rattle.formula_word.specs.Machine.{evaluated, begun, word_at, machine_word}
use Rattle.formula_word.proofs.Held.{leaves_value}
use Rattle.formula_word.proofs.Uncut.{uncut}

-- the bits that exist are looked up only where some code looks at them
pub word_cut_is : (ss : List (List ℕ)) (cs : List ℕ) (N layer i : ℕ) {at cut r : ℕ} {x : Bool} → at ≡ place_of N (layer % suc top_most) i → x ≡ cuts_in cs
    → cut ≡ cond x (existing (places_in N (layer % suc top_most)) i) 0 → r ≡ word_at ss cs (layer % suc top_most) cut at → r ≡ machine_word N ss cs layer i
unfolding word_at machine_word
word_cut_is ss cs N layer i {at} {cut} {r} {x} e x-is cut-is r-is = r-is ∙ rw (← e) (go x x-is cut-is)
  where
    exists : ℕ
    exists = existing (places_in N (layer % suc top_most)) i

    go : (x : Bool) → x ≡ cuts_in cs → cut ≡ cond x exists 0 → word_at ss cs (layer % suc top_most) cut at ≡ word_at ss cs (layer % suc top_most) exists at
    go true x-is cut-is = ap (λ (y : ℕ). word_at ss cs (layer % suc top_most) y at) cut-is
    go false x-is cut-is = uncut (layer % suc top_most) cut exists (map (λ s. get_or s at 0) ss) cs begun (sym x-is)

-- a word of each of a list of slices, and of one by its number
each : (f : List ℕ → ℕ) (ss : List (List ℕ)) (c : ℕ) → f [] ≡ 0 → get_or (map f ss) c 0 ≡ f (nth ss c)
each f [] c z = sym z
each f (s ∷ ss) zero z = refl
each f (s ∷ ss) (suc c) z = each f ss c z

-- ---- the words

module _ (N k : ℕ) (some : 1 ≤ N) (most : N ≤ max_cap) (low : k ≤ top N) where
  words_are : words_in N k ≡ layer_len N k
  unfolding words_in
  words_are = omega (arith, end_is N k some most, end_is N (suc k) some most, end_step N k low)

  -- the word at its place, of a slice that is a store or not lent
  leaf_is : (s : List ℕ) (i : ℕ) → length s ≤ store_len N → get_or s (place_of N k i) 0 ≡ word N s k i
  unfolding place_of
  leaf_is s i h = go (ltb i (words_in N k)) refl
    where
      go : (x : Bool) → ltb i (words_in N k) ≡ x → get_or s (cond x (end_of N (suc k) + i) (end_of N 0)) 0 ≡ word N s k i
      go true p =
          ap (λ (y : ℕ). get_or s (y + i) 0) (end_is N (suc k) some most) ∙ sym (word_in N s k i (subst (λ (y : ℕ). i < y) words_are (ltb-true i (words_in N k) p)))
      go false p =
          get_or-eq_default s 0 (omega (arith, h, end_is N 0 some most)) ∙ sym (word_out N s k i (subst (λ (y : ℕ). y ≤ i) words_are (ltb-false i (words_in N k) p)))

places_are : (N k : ℕ) → 1 ≤ N → N ≤ max_cap → k ≤ top N → places_in N k ≡ room N k
unfolding places_in room
places_are N zero some most low = refl
places_are N (suc k) some most low = words_are N k some most (omega arith)

-- THE WORD of a formula over stores of capacity N is the tree's.
pub machine_tree : (a b c d cs : List ℕ) (k i : ℕ) → Accepted a b c d cs → k ≤ top (cap a)
    → machine_word (cap a) (four a b c d) cs k i ≡ tree_word (cap a) (four a b c d) (tree_of cs) k i
unfolding machine_word word_at tree_word tree_of
machine_tree a b c d cs k i g low =
    let N = cap a in
    let ss = four a b c d in
    let m : k % suc top_most ≡ k = omega (arith, top_high (cap a)) in
    let z = g.first in
    let w : ℕ → ℕ = λ x. word N (nth ss x) k i in
    let leaf : (x : ℕ) → get_or (map (λ s. get_or s (place_of N k i) 0) ss) x 0 ≡ w x =
    λ x. each (λ s. get_or s (place_of N k i) 0) ss x refl ∙ leaf_is N k z.some z.most low (nth ss x) i (g.beside x).short in
    ap (λ (j : ℕ). evaluated j (existing (places_in N j) i) (map (λ s. get_or s (place_of N j i) 0) ss) cs begun) m
    ∙ ap (λ (p : ℕ). evaluated k (existing p i) (map (λ s. get_or s (place_of N k i) 0) ss) cs begun) (places_are N k z.some z.most low)
    ∙ leaves_value w k (existing (room N k) i) (map length ss) (map (λ s. get_or s (place_of N k i) 0) ss) cs leaf begun []
    (record { size = refl; few = omega arith; here = refl; tops = tt }) (formula_one ss cs g.formula)

-- the same of a formula as it is lent
pub machine_lent : (f : Formula) (k i : ℕ) → length f.stores ≡ 4 → let ss = slices f in check_of ss f.codes.now ≡ 0 → k ≤ top (cap (nth ss 0))
    → machine_word (cap (nth ss 0)) ss f.codes.now k i ≡ tree_word (cap (nth ss 0)) ss (tree_of f.codes.now) k i
machine_lent f k i l e low =
    let ss = slices f in
    let q = four_slices ss (length-map f.stores (λ s. s.now) ∙ l) in
    rw q (machine_tree (nth ss 0) (nth ss 1) (nth ss 2) (nth ss 3) f.codes.now k i (accepted (nth ss 0) (nth ss 1) (nth ss 2) (nth ss 3) f.codes.now (rw q at e)) low)
