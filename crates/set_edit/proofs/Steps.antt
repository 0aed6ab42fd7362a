-- What the code of the private steps writes is the definition's edit, layer by layer.
use mathlib.Core.Bool.{Bool, true, false, not, true≢false}
use mathlib.Core.List.{List}
use mathlib.Core.Logic.{◌≢◌, ◌⊎◌, inl, inr, ⊎_elim}
use mathlib.Core.Path.{◌≡◌, refl, sym, ap, ◌∙◌}
use Prim.Native.Nat.{ℕ, zero, suc, ◌+◌, ◌-◌, ◌/◌, ◌%◌, ◌*◌, ◌^◌, ◌≤◌, ◌<◌}
use native.Mathlib.Nat.{eq-or-lt_of_le, le_of_suc-le-suc}
use native.Mathlib.Decide.{ℕ_discrete}
use native.Mathlib.Omega.{arith}
use borrow.Author.Tests.{ne_eqb}
use lib.Dec.{eqb}
use lib.ListN.{length, set}
use Rattle.util.specs.Word.{change}
use Rattle.store.specs.Layout.{top, layer_start, cap, start_from, StoreOf}
use Rattle.store.specs.Word.{word, anc, put}
use Rattle.store.proofs.Geometry.{store_kept}
use Rattle.store.proofs.TopLayer.{top_high}
use Rattle.store.proofs.Words.{word-put-same}
use Rattle.set_member.specs.Place.{Placed}
use Rattle.set_member.proofs.Spots.{spot, ranged}
use Rattle.set_edit.specs.Edit.{edit, edits, word_left, climb, reach}
use Rattle.set_edit.specs.Steps.{Edited, Begun, Climbing, Ended}
use Rattle.set_edit.proofs.Edits.{length-edits, cap-edits, word-edits-same}
use Rattle.set_edit.proofs.Moves.{climb-on, climb_stop, climb-top}

-- which of the two is asked, by a const parameter as the logic holds it
abbrev pub asked : ℕ → Bool
asked n = not (eqb n 0)

asked_off : (n : ℕ) → asked n ≡ false → n ≡ 0
asked_off n e = go (ℕ_discrete n 0)
  where
    go : Dec (n ≡ 0) → n ≡ 0
    go (yes z) = z
    go (no z) = absurd (true≢false (sym (ap not (ne_eqb n 0 z)) ∙ e))

-- what holds where it is no clearing, or the word is 0
pub kept_none : {n r : ℕ} → ((n ≡ 0) × (r ≡ 0)) ⊎ (n ≢ 0) → asked n ≡ false → r ≡ 0
kept_none (inl p) e = p.1
kept_none {n} (inr h) e = absurd (h (asked_off n e))

-- a layer number is a small number
pub layer_lt : {s : List ℕ} {N i k : ℕ} → Placed s N i k → k < 4
layer_lt {N = N} p = omega (arith, p.layer, top_high N)

-- the word over an id lies in the store, at the code's numbers
pub word_inside : {s : List ℕ} {N i k : ℕ} → StoreOf N s → i < N → k ≤ top N → start_from (length s) N k + i / 2 ^ (6 * (k + 1)) < length s
word_inside z h l = (ranged (record { store = z; below = h; layer = l }) _ _ refl refl).inside

-- what the code writes over an id in layer k: a is where the layer starts, q the word in it, b the id's place
module _ {s : List ℕ} {N i k : ℕ} (p : Placed s N i k) {a q : ℕ} (a_is : a ≡ layer_start N k) (q-is : q ≡ anc i k / 64) where
  pub edited : (on : Bool) {w : ℕ} {t : List ℕ} → w ≡ change on (word N s k (anc i k / 64)) (anc i k % 64) → t ≡ set s (a + q) w → Edited on s N i k t w
  unfolding edit put
  edited on {w} {t} w-is t-is =
      let m : t ≡ edit on N s k (anc i k) = t-is ∙ (λ j. set s (a_is j + q-is j) (w-is j)) in
      record {
        memory = m;
        answer = w-is ∙ sym (ap (λ (x : List ℕ). word N x k (anc i k / 64)) m
            ∙ word-put-same N s p.store.long k (anc i k / 64) (change on (word N s k (anc i k / 64)) (anc i k % 64)) p.layer (spot p).in_layer);
      }

-- ---- a run of steps: the m lowest layers are edited

module _ (on : Bool) {s : List ℕ} {N i k : ℕ} {t : List ℕ} (g : Begun on s N i k t) (h : k ≤ top N) where
  -- the next step may be made
  pub placed : Placed t N i k
  placed =
      record {
        store = store_kept g.placed.store (ap length g.memory ∙ length-edits on N s i k) (ap cap g.memory ∙ cap-edits on N s i k);
        below = g.placed.below;
        layer = h;
      }

  module _ {u : List ℕ} {r : ℕ} (d : Edited on t N i k u r) where
    -- and makes it one more
    pub one_more_lem : Begun on s N i (suc k) u
    unfolding edits
    one_more_lem = record { placed = g.placed; memory = d.memory ∙ ap (λ (x : List ℕ). edit on N x k (anc i k)) g.memory }

    -- the word that it leaves
    pub leaves : r ≡ change on (word N s k (anc i k / 64)) (anc i k % 64)
    leaves =
        d.answer ∙ ap (λ (x : List ℕ). word N x k (anc i k / 64)) one_more_lem.memory
        ∙ word-edits-same on N s i g.placed.store.long g.placed.below (suc k) k (omega arith) (omega arith)

-- before the first, and when layer 0 is written
module _ (on : Bool) {s : List ℕ} {N i : ℕ} (p : Placed s N i 0) where
  pub none_yet : Begun on s N i 0 s
  unfolding edits
  none_yet = record { placed = p; memory = refl }

  pub first : {u : List ℕ} {r : ℕ} → Edited on s N i 0 u r → Begun on s N i 1 u
  first d = one_more_lem on none_yet (omega arith) d

-- ---- the way up: where bits are cleared, the layers below k kept none

climb_past : (N : ℕ) (s : List ℕ) (i k d : ℕ) → ((j : ℕ) → j < k → word_left N s i j ≡ 0) → climb N s i 0 (k + d) ≡ climb N s i k d
climb_past N s i zero d h = let e : 0 + d ≡ d = omega arith in ap (climb N s i 0) e
climb_past N s i (suc k) d h =
    let e : suc k + d ≡ k + suc d = omega arith in
    ap (climb N s i 0) e ∙ climb_past N s i k (suc d) (λ j l. h j (omega arith)) ∙ climb-on N s i k d (h k (omega arith))

-- where it ends: all layers are set, or the climb is over
reach_top : (set : Bool) (N : ℕ) (s : List ℕ) (i : ℕ) → (set ≡ false → (j : ℕ) → j < suc (top N) → word_left N s i j ≡ 0) → suc (top N) ≡ reach set N s i
unfolding reach
reach_top true N s i h = refl
reach_top false N s i h =
    let f : top N ≡ top N + 0 = omega arith in
    sym (ap (climb N s i 0) f ∙ climb_past N s i (top N) 0 (λ j l. h refl j (omega arith)) ∙ climb-top N s i (top N))

reach_kept : (set : Bool) (N : ℕ) (s : List ℕ) (i k : ℕ) → k ≤ top N → set ≡ false → (set ≡ false → (j : ℕ) → j < k → word_left N s i j ≡ 0)
    → word_left N s i k ≢ 0 → suc k ≡ reach set N s i
unfolding reach
reach_kept true N s i k l e h n = absurd (true≢false e)
reach_kept false N s i k l e h n =
    let e : top N ≡ k + (top N - k) = omega arith in
    sym (ap (climb N s i 0) e ∙ climb_past N s i k (top N - k) (h refl) ∙ climb_stop N s i k (top N - k) n)

module _ {set : Bool} {s : List ℕ} {N i k : ℕ} {t : List ℕ} (g : Climbing set s N i k t) where
  -- there is no layer left
  pub reached : {r : ℕ} → k ≡ suc (top N) → r ≡ suc (top N) → Ended set s N i (reach set N s i) t r
  reached e r-is =
      let c = reach_top set N s i (λ f j l. g.zeros f j (omega arith)) in
      record { memory = g.begun.memory ∙ ap (edits set N s i) (e ∙ c); layers = r-is ∙ c }

  module _ (h : k ≤ top N) {u : List ℕ} {r : ℕ} (d : Edited set t N i k u r) where
    left_is : set ≡ false → r ≡ word_left N s i k
    unfolding word_left
    left_is e = leaves set g.begun h d ∙ ap (λ (b : Bool). change b (word N s k (anc i k / 64)) (anc i k % 64)) e

    -- the next layer is written, where one is cleared because the word keeps no bit
    pub climb-more : (set ≡ false → r ≡ 0) → Climbing set s N i (suc k) u
    climb-more z = record { begun = one_more_lem set g.begun h d; zeros = below }
      where
        below : set ≡ false → (j : ℕ) → j < suc k → word_left N s i j ≡ 0
        below f j l = ⊎_elim (λ (e : j ≡ k). ap (word_left N s i) e ∙ sym (left_is f) ∙ z f) (λ (e : j < k). g.zeros f j e) (eq-or-lt_of_le (le_of_suc-le-suc l))

    -- a word that is cleared keeps one
    pub climb_ends : set ≡ false → r ≢ 0 → Ended set s N i (reach set N s i) u (suc k)
    climb_ends f n =
        let c = reach_kept set N s i k h f g.zeros (λ z. n (left_is f ∙ z)) in
        record { memory = (one_more_lem set g.begun h d).memory ∙ ap (edits set N s i) c; layers = c }

pub climb_none : (set : Bool) {s : List ℕ} {N i : ℕ} → Placed s N i 0 → Climbing set s N i 0 s
climb_none set p = record { begun = none_yet set p; zeros = λ f j l. absurd (omega arith) }
