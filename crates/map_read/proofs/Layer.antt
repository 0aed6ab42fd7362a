-- The store with a new layer 0: cleared, its layer 0 put back as a part, and the summaries rebuilt.
use Rattle.std.proofs.Common.{◌≡◌, ℕ, suc, ◌+◌, ◌-◌, ◌≤◌, List, [], ◌∷◌, ◌++◌, length, get_or, set, take, drop, replicate, Result, Ok, Err, refl, sym, ap, ◌∙◌, arith, append-nil, length-set, length-drop, length-append, length-take-le, take_all, drop_at, get_or-take}
use Rattle.std.proofs.Math.ListN.{length-replicate, get_or-append}
use Rattle.std.proofs.Math.Seq.{drop-length}
use Rattle.std.proofs.lemmas.List.{drop-replicate}
use borrow.Rule.Slice.PartMut.{mid_of, put_mid, Post-is}
use Rattle.util.specs.Outcome.{Outcome, Settled}
use Rattle.store.specs.Answer.{did_paper, does}
use Rattle.store.specs.Build.{build, layer0, empty}
use Rattle.store.specs.Layout.{layer_len, layer_start, store_len, start_from, StoreOf}
use Rattle.store.specs.declared.Refusal.{Refusal}
use Rattle.store.proofs.Build.{store_empty}
use Rattle.store.proofs.Ends.{part}
use Rattle.store.proofs.Geometry.{is_store_lem, after-header}
use Rattle.set_whole.specs.Calls.{clear_of}
use Rattle.summary.specs.Calls.{rebuild_of}
use Rattle.map_read.specs.Judge.{used_in, table_in, map_words, number_in, word_in}
use Rattle.map_read.specs.Steps.{entries_in, filled}
use Rattle.map_read.proofs.Entries.{fill_all}

-- what the two calls answer and leave of a store
done_is : {X : Type 0} {o : Outcome X} {x y : X} {r : Result (Unit {0}) Refusal} → o ≡ does y → Settled did_paper o r x → (r ≡ Ok tt) × (x ≡ y)
done_is {X} {o} {x} {y} {r} e c = (
  sym (did_paper.same r) ∙ ap did_paper.answer (c.answer ∙ ap (λ (p : Outcome X). p.numbers) e),
  c.memory ∙ ap (λ (p : Outcome X). p.lent) e,
)

module _ {N : ℕ} {s t : List ℕ} {r : Result (Unit {0}) Refusal} (z : StoreOf N s) where
  pub cleared : Settled did_paper (clear_of s) r t → (r ≡ Ok tt) × (t ≡ empty N)
  unfolding clear_of
  cleared c = let e : clear_of s ≡ does (empty N) = rw (is_store_lem z, z.names) in done_is e c

  pub clears : Settled did_paper (clear_of s) r t → {e : Refusal} → r ≡ Err e → ⊥
  clears c w = let d : r ≡ Ok tt = (cleared c).0 in cc

  pub rebuilt : Settled did_paper (rebuild_of s) r t → (r ≡ Ok tt) × (t ≡ build N (layer0 N s))
  unfolding rebuild_of
  rebuilt c = let e : rebuild_of s ≡ does (build N (layer0 N s)) = rw (is_store_lem z, z.names) in done_is e c

-- the cleared store is one
pub store_here : {N : ℕ} {s t : List ℕ} → StoreOf N s → t ≡ empty N → StoreOf N t
store_here z e = rw e (store_empty _ z.some z.most)

pub length_filled : (ws : List ℕ) (es : List (List ℕ)) → length (filled ws es) ≡ length ws
length_filled ws [] = refl
length_filled ws (e ∷ es) = length_filled (set ws (number_in e) (word_in e)) es ∙ length-set ws (number_in e) (word_in e)

-- ---- layer 0 of a cleared store, lent from a to e, and back

module _ {N : ℕ} {s : List ℕ} (z : StoreOf N s) {a : ℕ} (start : a ≡ start_from (length s) N 0) where
  start_is : a ≡ layer_start N 0
  start_is = start ∙ (part z 0 (omega arith)).starts

  size : length s ≡ a + layer_len N 0
  size = let p = part z 0 (omega arith) in omega (arith, start_is, p.size, z.long)

  pub start_in_lem : a ≤ length s
  start_in_lem = omega (arith, size)

  module _ (e : s ≡ empty N) where
    pub lent_zeros : mid_of a (length s - a) s ≡ replicate (layer_len N 0) 0
    lent_zeros =
        let q : a ≡ suc (a - 1) = omega (arith, start_is, after-header N 1) in
        take_all (length s - a) (drop a s) (omega (arith, length-drop a s))
        ∙ ap (drop a) e
        ∙ ap (λ (k : ℕ). drop k (empty N)) q
        ∙ drop-replicate (a - 1) (store_len N - 1) 0
        ∙ ap (λ (k : ℕ). replicate {A = ℕ} k 0) left
      where
        left : store_len N - 1 - (a - 1) ≡ layer_len N 0
        left = omega (arith, size, z.long, start_is, after-header N 1)

  module _ (ys : List ℕ) (long : length ys ≡ layer_len N 0) where
    front : length (take a s) ≡ a
    front = length-take-le a s start_in_lem

    put_back : put_mid a (length s - a) s ys ≡ take a s ++ ys
    put_back =
        ap (λ (x : List ℕ). take a s ++ (ys ++ x)) (Post-is a (length s) s start_in_lem ∙ drop-length s)
        ∙ ap (λ (x : List ℕ). take a s ++ x) (append-nil ys)

    pub layer0_back : layer0 N (put_mid a (length s - a) s ys) ≡ ys
    layer0_back = ap (λ (x : ℕ). drop x (put_mid a (length s - a) s ys)) (sym start_is) ∙ ap (drop a) put_back ∙ drop_at (take a s) ys a front

    pub store_back : StoreOf N (put_mid a (length s - a) s ys)
    store_back =
        record {
          some = z.some;
          most = z.most;
          long = ap length put_back ∙ length-append (take a s) ys ∙ omega (arith, front, long, size, z.long);
          names =
              ap (λ (x : List ℕ). get_or x 0 0) put_back
              ∙ get_or-append (take a s) ys 0 0 (omega (arith, front, start_is, after-header N 1))
              ∙ get_or-take a s 0 0 (omega (arith, start_is, after-header N 1)) ∙ z.names;
        }

  -- the layer is put over the cleared store, and the layers above are rebuilt
  module _ (e : s ≡ empty N) (es : List (List ℕ)) {ys : List ℕ} (over : ys ≡ filled (mid_of a (length s - a) s) es) where
    over_zeros : ys ≡ filled (replicate (layer_len N 0) 0) es
    over_zeros = over ∙ ap (λ (l : List ℕ). filled l es) (lent_zeros e)

    long : length ys ≡ layer_len N 0
    long = ap length over_zeros ∙ length_filled (replicate (layer_len N 0) 0) es ∙ length-replicate {A = ℕ} (layer_len N 0) 0

    pub replaced : {t : List ℕ} {r : Result (Unit {0}) Refusal} → Settled did_paper (rebuild_of (put_mid a (length s - a) s ys)) r t
        → (r ≡ Ok tt) × (t ≡ build N (filled (replicate (layer_len N 0) 0) es))
    replaced c = let d = rebuilt (store_back ys long) c in (d.0, d.1 ∙ ap (build N) (layer0_back ys long ∙ over_zeros))

-- ---- a map's words

pub words_are_filled : (N : ℕ) (m : List ℕ) → map_words N m ≡ filled (replicate (layer_len N 0) 0) (entries_in m)
unfolding map_words
words_are_filled N m = fill_all (replicate (layer_len N 0) 0) (used_in m) (table_in m)

pub length-words : (N : ℕ) (m : List ℕ) → length (map_words N m) ≡ layer_len N 0
length-words N m = ap length (words_are_filled N m) ∙ length_filled (replicate (layer_len N 0) 0) (entries_in m) ∙ length-replicate {A = ℕ} (layer_len N 0) 0
