-- What each way out of the public calls answers is what the definition answers there.
use Rattle.store.proofs.TopLayer.{top_is}
use mathlib.Core.Bool.{Bool, false, true, cond}
use mathlib.Core.List.{List}
use mathlib.Core.Logic.{◌≢◌}
use mathlib.Core.Path.{◌≡◌, refl, sym, ap, ◌∙◌, ap₂, subst}
use Prim.Native.Nat.{ℕ, zero, suc, ◌<◌}
use native.Mathlib.Omega.{arith}
use borrow.Author.Tests.{ne_eqb}
use lib.Dec.{eqb}
use lib.ListN.{get_or}
use Rattle.util.specs.Outcome.{Settled, settled, settles}
use Rattle.std.specs.Prelude.{Result, Err}
use Rattle.std.specs.Borrow.{Bor}
use Rattle.store.specs.Answer.{numbered}
use Rattle.store.specs.declared.Refusal.{Refusal}
use Rattle.store.specs.declared.Refusal.TheVariants.{NoStore}
use Rattle.store.specs.Layout.{top, cap, is_store, StoreOf, top_most, top_word}
use Rattle.store.specs.Word.{layer_at, word}
use Rattle.store.proofs.Ends.{top-word}
use Rattle.store.proofs.Geometry.{is_store_lem, store_is}
use Rattle.set_layers.specs.Calls.{layer_part}
use Rattle.walk.specs.Calls.{step_paper, written, refused as step_refused, fits, start_in, next_in, Fine}
use Rattle.walk.specs.Checked.{Checked}
use Rattle.walk.specs.Layers.{layer_words, LayersOf}
use Rattle.walk.specs.Steps.{refusal_of, refusal_on}
use Rattle.walk.specs.Walk.{start_at, next}
use Rattle.walk.specs.declared.Cursor.{Cursor}
use Rattle.walk.specs.declared.Next.TheVariants.{Paused, Refused}
use Rattle.walk.specs.declared.Step.{Step}
use Rattle.walk.specs.declared.over.Layers.{Layers}
use Rattle.walk.specs.declared.over.Ready.{Ready}
use Rattle.walk.proofs.Cursors.{fine_of}
use Rattle.walk.proofs.Turns.{next-same}

-- a step that meets a call's promise is the definition's: the paper reads it back
pub the_step : (a : Step) {r : Step} → Settled step_paper (written a) r tt → r ≡ a
the_step a h = (settles h (record { answer = refl; memory = refl })).0

-- a step that the definition answers
pub answered : {a r : Step} → r ≡ a → Settled step_paper (written a) r tt
answered e = settled (ap written (sym e))

pub start_2 : (s : List ℕ) (c : Cursor) → is_store s ≡ false → record { cursor = c; reads = 0; answer = Refused NoStore } ≡ start_in s c
unfolding start_in numbered
start_2 s c h = sym (rw h)

-- ---- what a walk is refused for

pub fine_judged : (n : ℕ) (c : Cursor) → refusal_of n (fits (top n) c) ≡ 0 → Fine top_most c.prefix
unfolding refusal_of
fine_judged n c h = subst (λ (t : ℕ). Fine t c.prefix) (top_is n) (fine_of (top n) c.prefix (go (eqb n 0) (fits (top n) c) h))
  where
    go : (x y : Bool) → ◌≡◌ {A = ℕ} (cond x 2 (cond y 0 7)) 0 → y ≡ true
    go true y h = absurd (omega (arith, h))
    go false true h = refl
    go false false h = absurd (omega (arith, h))

module _ (s : List ℕ) (c : Cursor) where
  -- on a slice that is no store, and on a store as on its capacity
  pub refusal_none : {r : Result Ready Refusal} → (is_store s ≡ false) × (r ≡ Err NoStore) → Checked (refusal_on s c) c r
  unfolding refusal_on numbered
  refusal_none {r} h =
      let e : refusal_on s c ≡ 2 = rw h.0 in
      subst (λ (n : ℕ). Checked n c r) (sym e) (subst (Checked 2 c) (sym h.1) ((λ (z : 2 ≡ 0). absurd (omega arith)), refl))

  pub refusal_some : (r : Result Ready Refusal) {n : ℕ} → StoreOf n s → Checked (refusal_of n (fits (top n) c)) c r → Checked (refusal_on s c) c r
  unfolding refusal_on refusal_of
  refusal_some r {n} z h =
      let k : n ≢ 0 = (λ e. absurd (omega (arith, e, z.some))) in
      let e : refusal_on s c ≡ refusal_of n (fits (top n) c) = rw (is_store_lem z, z.names, ne_eqb n 0 k) refl in
      subst (λ (m : ℕ). Checked m c r) (sym e) h

  pub was_taken : refusal_on s c ≡ 0 → StoreOf (cap s) s × (fits (top (cap s)) c ≡ true)
  unfolding refusal_on
  was_taken = go (is_store s) refl (fits (top (cap s)) c)
    where
      go : (x : Bool) → is_store s ≡ x → (y : Bool) → ◌≡◌ {A = ℕ} (cond x (cond y 0 7) 2) 0 → StoreOf (cap s) s × (y ≡ true)
      go true e true h = (store_is e, refl)
      go true e false h = absurd (omega (arith, h))
      go false e y h = absurd (omega (arith, h))

  -- next refused, by the number that was found
  pub next-refused : (b : ℕ) → refusal_on s c ≢ 0 → step_refused (refusal_on s c) c ≡ next_in s c b
  unfolding refusal_on next_in
  next-refused b = go (is_store s) (fits (top (cap s)) c)
    where
      a : Step
      a = next (word (cap s) s) (top (cap s)) b c

      go : (x y : Bool) → ◌≢◌ {A = ℕ} (cond x (cond y 0 7) 2) 0 → step_refused (cond x (cond y 0 7) 2) c ≡ cond x (cond y a (step_refused 7 c)) (step_refused 2 c)
      go true true h = absurd (h refl)
      go true false h = refl
      go false y h = refl

pub next_runs : {N : ℕ} {s : List ℕ} → StoreOf N s → (c : Cursor) (b : ℕ) → fits (top N) c ≡ true → next (word N s) (top N) b c ≡ next_in s c b
unfolding next_in
next_runs z c b h = sym (rw (is_store_lem z, z.names, h))

-- the words of the three layers of a store are those of the store
part_at : {N : ℕ} {s : List ℕ} → StoreOf N s → (k : ℕ) {l : List ℕ} → l ≡ layer_part s k → (i : ℕ) → get_or l i 0 ≡ word N s k i
unfolding layer_part word
part_at {N} {s} z k e i =
    let is : layer_part s k ≡ layer_at N s k = rw (is_store_lem z) (ap (λ (x : ℕ). layer_at x s k) z.names) in
    ap (λ (x : List ℕ). get_or x i 0) (e ∙ is)

pub lent_words : {N : ℕ} {s : Bor (List ℕ)} {l : Layers} → StoreOf N s.now → LayersOf s l → (k i : ℕ) → k < top_most → layer_words l k i ≡ word N s.now k i
lent_words z e zero i h = part_at z 0 e.l0.words i
lent_words z e (suc zero) i h = part_at z 1 e.l1.words i
lent_words z e (suc (suc zero)) i h = part_at z 2 e.l2.words i
lent_words z e (suc (suc (suc k))) i h = absurd (omega arith)

-- next over them, where nothing is refused
pub next_lent : (s : Bor (List ℕ)) (c : Cursor) {d : Cursor} {l : Layers} → (refusal_on s.now c ≡ 0) × (d ≡ c) → LayersOf s l → (b : ℕ)
    → next (layer_words l) top_most b d ≡ next_in s.now c b
next_lent s c {d} {l} h e b =
    let z = was_taken s.now c h.0 in
    ap (next (layer_words l) top_most b) h.1
    ∙ next-same (layer_words l) (word (cap s.now) s.now) top_most (lent_words z.0 e) b c
    ∙ ap (λ (t : ℕ). next (word (cap s.now) s.now) t b c) (sym (top_is (cap s.now))) ∙ next_runs z.0 c b z.1

module _ {N : ℕ} {s : List ℕ} (z : StoreOf N s) (c : Cursor) where
  -- the start on a store
  pub started_is : start_in s c ≡ record { cursor = start_at (top N) (word N s (top N) 0); reads = 1; answer = Paused }
  unfolding start_in
  started_is = rw (is_store_lem z, z.names)

  pub start_runs : (w : ℕ) → w ≡ top_word s → record { cursor = start_at top_most w; reads = 1; answer = Paused } ≡ start_in s c
  start_runs w h =
      ap₂ (λ (t x : ℕ). record { cursor = start_at t x; reads = 1; answer = Paused }) (sym (top_is N)) (h ∙ top-word z) ∙ sym started_is
