-- What a fill does, by the lowest layer with a mask; and the turns and ends of its loop.
use Rattle.store.proofs.TopLayer.{top_is}
use mathlib.Core.Bool.{Bool, false, true, cond, true≢false}
use mathlib.Core.List.{List, [], ◌∷◌, ◌++◌, append_assoc, append-nil}
use mathlib.Core.Logic.{◌≢◌}
use mathlib.Core.Path.{◌≡◌, refl, sym, ap, ap₂, ◌∙◌, subst}
use Prim.Native.Nat.{ℕ, zero, suc, ◌+◌, ◌-◌, ◌≤◌, ◌<◌, ◌%◌, ◌^◌}
use native.Mathlib.Nat.{add_assoc, add-zero, zero-add}
use native.Mathlib.Omega.{arith}
use lib.ListN.{length, get_or, set, drop, length-append, length-set}
use lib.Seq.{drop-cons, set_at}
use Rattle.util.specs.Outcome.{Outcome, Settled, settled, settles}
use Rattle.store.specs.Answer.{numbered}
use Rattle.store.specs.Layout.{top, cap, is_store, StoreOf, top_most}
use Rattle.store.specs.Word.{word}
use Rattle.store.proofs.Geometry.{is_store_lem}
use Rattle.std.specs.Borrow.{Bor}
use Rattle.walk.specs.Calls.{Fine, fits}
use Rattle.walk.specs.Layers.{layer_words, LayersOf}
use Rattle.walk.specs.Steps.{refusal_on, is_reading, Going}
use Rattle.walk.specs.Walk.{Kind, low_layer, kind, first_bit, place_at, handed, more, next}
use Rattle.walk.specs.Walk.Kind.{gives, reads, done}
use Rattle.walk.specs.declared.Cursor.{Cursor}
use Rattle.walk.specs.declared.over.Layers.{Layers}
use Rattle.walk.specs.declared.Next.{Next}
use Rattle.walk.specs.declared.Next.TheVariants.{Member, Paused, End, Refused}
use Rattle.walk.specs.declared.Step.{Step}
use Rattle.walk.proofs.Answers.{was_taken, lent_words}
use Rattle.walk.proofs.Cursors.{Low, low_found, low_stop, low_at, reading_low, resting_low, id_cut}
use Rattle.walk.proofs.Turns.{next-gives, next_done, next-paused, next-same}
use Rattle.walk_fill.specs.Fill.{Filled, after, stopped, go_on, fill_from, rest_of, batch, batch_paper, filled, fill_in}
use Rattle.walk_fill.specs.Steps.{Filling}
use Rattle.walk_fill.specs.declared.Batch.{Batch}
use Rattle.walk_fill.specs.declared.Stop.{Stop}
use Rattle.walk_fill.specs.declared.Stop.TheVariants.{Full, Paused as StopPaused, End as StopEnd, Refused as StopRefused}

-- k reads more before a call's answer
go_more : (k : ℕ) (o : Next) (r : ℕ) (c : Cursor) (f : Cursor → Filled) → go_on o (k + r) c f ≡ after [] k (go_on o r c f)
go_more k (Member v) r c f = ap (λ (x : ℕ). record { ids = v ∷ (f c).ids; reads = x; cursor = (f c).cursor; stop = (f c).stop }) (add_assoc k r (f c).reads)
go_more k Paused r c f = refl
go_more k End r c f = refl
go_more k (Refused n) r c f = refl

after-after : (l m : List ℕ) (r s : ℕ) (f : Filled) → after l r (after m s f) ≡ after (l ++ m) (r + s) f
after-after l m r s f =
    ap₂ (λ (x : List ℕ) (y : ℕ). record { ids = x; reads = y; cursor = f.cursor; stop = f.stop }) (sym (append_assoc l m f.ids)) (sym (add_assoc r s f.reads))

module _ (lw : ℕ → ℕ → ℕ) (t : ℕ) (c : Cursor) (m : ℕ) where
  by_answer : (b : ℕ) (a : Step) → next lw t b c ≡ a → fill_from lw t (suc m) b c ≡ go_on a.answer a.reads a.cursor (fill_from lw t m (b - a.reads))
  unfolding fill_from
  by_answer b a e = ap (λ (x : Step). go_on x.answer x.reads x.cursor (fill_from lw t m (b - x.reads))) e

  fill_member : Low c.masks 0 (suc t) 0 → (b : ℕ) → fill_from lw t (suc m) b c ≡ after (place_at t c 0 ∷ []) 0 (fill_from lw t m b (handed c))
  fill_member low b =
      let z : b - 0 ≡ b = omega arith in
      by_answer b _ (next-gives lw t c low b) ∙ ap (λ (x : ℕ). after (place_at t c 0 ∷ []) 0 (fill_from lw t m x (handed c))) z

  fill_done : Low c.masks 0 (suc t) (suc t) → (b : ℕ) → fill_from lw t (suc m) b c ≡ stopped StopEnd 0 c
  fill_done low b = by_answer b _ (next_done lw t c low b)

  fill_paused : is_reading (kind t c) ≡ true → fill_from lw t (suc m) 0 c ≡ stopped StopPaused 0 c
  fill_paused want =
      let e = reading_low t c want in
      let i : low_layer t c ≡ suc (low_layer t c - 1) = omega (arith, e) in
      by_answer 0 _ (next-paused lw t c (low_layer t c - 1) (omega (arith, e)) (subst (Low c.masks 0 (suc t)) i (low_found c.masks 0 (suc t))))

  -- what is left once k words are read
  fill_sunk : (b k : ℕ) (d : Cursor) → k ≤ b → next lw t b c ≡ more k (next lw t (b - k) d) → fill_from lw t (suc m) b c ≡ after [] k (fill_from lw t (suc m) (b - k) d)
  unfolding fill_from
  fill_sunk b k d h same =
      let a = next lw t (b - k) d in
      let e : b - (k + a.reads) ≡ (b - k) - a.reads = omega arith in
      by_answer b _ same
      ∙ ap (λ (x : ℕ). go_on a.answer (k + a.reads) a.cursor (fill_from lw t m x)) e
      ∙ go_more k a.answer a.reads a.cursor (fill_from lw t m ((b - k) - a.reads))

-- why it rests, by the kind
pub rest_paused : (x : Kind) → is_reading x ≡ true → rest_of x ≡ StopPaused
rest_paused gives e = absurd (true≢false (sym e))
rest_paused (reads j) e = refl
rest_paused done e = absurd (true≢false (sym e))

pub rest_end : (x : Kind) → is_reading x ≡ false → rest_of x ≡ StopEnd
rest_end gives e = refl
rest_end (reads j) e = absurd (true≢false e)
rest_end done e = refl

-- ---- the loop

pub fill_start : (lw : ℕ → ℕ → ℕ) (t b : ℕ) (c : Cursor) (out : List ℕ) → Fine t c.prefix → Filling lw t b c out c 0 0 out
fill_start lw t b c out f =
    let x : length out - 0 ≡ length out = omega arith in
    let y : b - 0 ≡ b = omega arith in
    let a = fill_from lw t (length out) b c in
    record {
      spent = omega arith;
      fine = f;
      long = refl;
      ids = [];
      counted = refl;
      inside = omega arith;
      here = refl;
      same = ap (λ (n : ℕ). record { ids = a.ids; reads = n; cursor = a.cursor; stop = a.stop }) (sym (zero-add a.reads))
          ∙ ap₂ (λ (n d : ℕ). after [] 0 (fill_from lw t n d c)) (sym x) (sym y);
    }

module _ {lw : ℕ → ℕ → ℕ} {t b : ℕ} {c₀ : Cursor} {out₀ : List ℕ} {c : Cursor} {r k : ℕ} {out : List ℕ} (g : Filling lw t b c₀ out₀ c r k out) where
  -- an end: nothing is left to hand out
  ends : (e : Stop) → fill_from lw t (length out₀ - k) (b - r) c ≡ stopped e 0 c
      → Settled batch_paper (filled (fill_from lw t (length out₀) b c₀) out₀) (record { cursor = c; reads = r; count = k; stop = e }) out
  ends e left =
      let w : fill_from lw t (length out₀) b c₀ ≡ record { ids = g.ids; reads = r; cursor = c; stop = e } =
      g.same ∙ ap (after g.ids r) left
      ∙ ap₂ (λ (x : List ℕ) (n : ℕ). record { ids = x; reads = n; cursor = c; stop = e }) (append-nil g.ids) (add-zero r) in
      settled (ap (λ (f : Filled). filled f out₀) w
      ∙ ap₂ (λ (n : ℕ) (x : List ℕ). record { numbers = batch_paper.numbers (record { cursor = c; reads = r; count = n; stop = e }); lent = x }) g.counted
      (ap (λ (n : ℕ). g.ids ++ drop n out₀) g.counted ∙ sym g.here))

  pub fill_full : length out ≤ k → Settled batch_paper (filled (fill_from lw t (length out₀) b c₀) out₀) (record { cursor = c; reads = r; count = k; stop = Full }) out
  unfolding fill_from
  fill_full h =
      let z : length out₀ - k ≡ 0 = omega (arith, g.long) in
      ends Full (ap (λ (n : ℕ). fill_from lw t n (b - r) c) z)

  module _ (h : k < length out) where
    room : length out₀ - k ≡ suc (length out₀ - suc k)
    room = omega (arith, g.long)

    -- no member is at hand: nothing is left, or a word is wanted and the budget is spent
    pub fill_rest : get_or c.masks 0 0 ≡ 0 → (is_reading (kind t c) ≡ true → r ≡ b)
        → Settled batch_paper (filled (fill_from lw t (length out₀) b c₀) out₀) (record { cursor = c; reads = r; count = k; stop = rest_of (kind t c) }) out
    fill_rest z p = go (is_reading (kind t c)) refl
      where
        go : (x : Bool) → is_reading (kind t c) ≡ x
            → Settled batch_paper (filled (fill_from lw t (length out₀) b c₀) out₀) (record { cursor = c; reads = r; count = k; stop = rest_of (kind t c) }) out
        go true e =
            let n : b - r ≡ 0 = omega (arith, p e) in
            subst (λ (x : Stop). Settled batch_paper (filled (fill_from lw t (length out₀) b c₀) out₀) (record { cursor = c; reads = r; count = k; stop = x }) out) (sym (rest_paused (kind t c) e))
            (ends StopPaused (ap₂ (λ (x y : ℕ). fill_from lw t x y c) room n ∙ fill_paused lw t c (length out₀ - suc k) e))
        go false e =
            subst (λ (x : Stop). Settled batch_paper (filled (fill_from lw t (length out₀) b c₀) out₀) (record { cursor = c; reads = r; count = k; stop = x }) out) (sym (rest_end (kind t c) e))
            (ends StopEnd (ap (λ (n : ℕ). fill_from lw t n (b - r) c) room ∙ fill_done lw t c (length out₀ - suc k) (low_at (sym (resting_low t c e z))) (b - r)))

    -- a member written
    fill_again : get_or c.masks 0 0 ≢ 0 → (d : Cursor) (v : ℕ) → d ≡ handed c → v ≡ place_at t c 0 → Filling lw t b c₀ out₀ d r (k + 1) (set out k v)
    unfolding handed
    fill_again some d v d_is v-is =
        let low = low_at (sym (low_stop c.masks 0 t some)) in
        let m : length out₀ - suc k ≡ length out₀ - (k + 1) = omega arith in
        let s : suc k ≡ k + 1 = omega arith in
        let l : k < length out₀ = omega (arith, g.long) in
        record {
          spent = g.spent;
          fine = subst (λ (x : Cursor). Fine t x.prefix) (sym d_is) g.fine;
          long = length-set out k v ∙ g.long;
          ids = g.ids ++ (v ∷ []);
          counted = length-append g.ids (v ∷ []) ∙ ap (λ (n : ℕ). n + 1) g.counted;
          inside = omega arith;
          here = ap (λ (x : List ℕ). set x k v) (g.here ∙ ap (λ (x : List ℕ). g.ids ++ x) (drop-cons out₀ k 0 l))
              ∙ set_at g.ids (get_or out₀ k 0) (drop (suc k) out₀) v k g.counted
              ∙ sym (append_assoc g.ids (v ∷ []) (drop (suc k) out₀))
              ∙ ap (λ (n : ℕ). (g.ids ++ (v ∷ [])) ++ drop n out₀) s;
          same = g.same
              ∙ ap (after g.ids r) (ap (λ (n : ℕ). fill_from lw t n (b - r) c) room ∙ fill_member lw t c (length out₀ - suc k) low (b - r))
              ∙ after-after g.ids (place_at t c 0 ∷ []) r 0 (fill_from lw t (length out₀ - suc k) (b - r) (handed c))
              ∙ ap₂ (λ (x : ℕ) (n : ℕ). after (g.ids ++ (x ∷ [])) n (fill_from lw t (length out₀ - suc k) (b - r) (handed c))) (sym v-is) (add-zero r)
              ∙ ap₂ (λ (n : ℕ) (x : Cursor). after (g.ids ++ (v ∷ [])) r (fill_from lw t n (b - r) x)) m (sym d_is);
        }

    -- the member at hand is written, and the cursor goes on behind it
    pub fill_handed : t ≤ top_most → get_or c.masks 0 0 ≢ 0 → {d : Cursor} {q : ℕ} {out' : List ℕ}
        → (q ≡ place_at t c 0) × (0 < get_or c.masks 0 0 → first_bit c 0 < 64) → out' ≡ set out k (q % 2 ^ 32) → d ≡ handed c
        → Filling lw t b c₀ out₀ d r (k + 1) out'
    fill_handed few some {d} p w e =
        subst (Filling lw t b c₀ out₀ d r (k + 1)) (sym (w ∙ ap (λ (x : ℕ). set out k (x % 2 ^ 32)) p.0))
        (fill_again some d (place_at t c 0 % 2 ^ 32) e (id_cut t c few g.fine some p.1))

    -- words read
    pub fill_down : {d : Cursor} {n : ℕ} → Going lw t b r c d n → Filling lw t b c₀ out₀ d n k out
    fill_down {d} {n} w =
        let x : (b - r) - (n - r) ≡ b - n = omega (arith, w.from, w.spent) in
        let y : r + (n - r) ≡ n = omega (arith, w.from) in
        let m = length out₀ - suc k in
        record {
          spent = w.spent;
          fine = w.fine;
          long = g.long;
          ids = g.ids;
          counted = g.counted;
          inside = g.inside;
          here = g.here;
          same = g.same
              ∙ ap (after g.ids r) (ap (λ (z : ℕ). fill_from lw t z (b - r) c) room
              ∙ fill_sunk lw t c m (b - r) (n - r) d (omega (arith, w.spent)) (w.same ∙ ap (λ (z : ℕ). more (n - r) (next lw t z d)) (sym x)))
              ∙ after-after g.ids [] r (n - r) (fill_from lw t (suc m) ((b - r) - (n - r)) d)
              ∙ ap₂ (λ (l : List ℕ) (z : ℕ). after l z (fill_from lw t (suc m) ((b - r) - (n - r)) d)) (append-nil g.ids) y
              ∙ ap₂ (λ (u z : ℕ). after g.ids n (fill_from lw t u z d)) (sym room) x;
        }

-- ---- layer words that agree below the top make the same fill

module _ (lw lw' : ℕ → ℕ → ℕ) (t : ℕ) (same : (k i : ℕ) → k < t → lw k i ≡ lw' k i) where
  pub fill_same : (m b : ℕ) (c : Cursor) → fill_from lw t m b c ≡ fill_from lw' t m b c
  unfolding fill_from
  fill_same zero b c = refl
  fill_same (suc m) b c =
      let a = next lw' t b c in
      ap (λ (x : Step). go_on x.answer x.reads x.cursor (fill_from lw t m (b - x.reads))) (next-same lw lw' t same b c)
      ∙ on a.answer a.reads a.cursor (fill_same m (b - a.reads) a.cursor)
    where
      on : (o : Next) (r : ℕ) (d : Cursor) → fill_from lw t m (b - r) d ≡ fill_from lw' t m (b - r) d
          → go_on o r d (fill_from lw t m (b - r)) ≡ go_on o r d (fill_from lw' t m (b - r))
      on (Member v) r d e = ap (after (v ∷ []) r) e
      on Paused r d e = refl
      on End r d e = refl
      on (Refused n) r d e = refl

-- ---- the call

pub fill_runs : {N : ℕ} {s : List ℕ} → StoreOf N s → (c : Cursor) (b m : ℕ) → fits (top N) c ≡ true → fill_from (word N s) (top N) m b c ≡ fill_in s c b m
unfolding fill_in
fill_runs z c b m h = sym (rw (is_store_lem z, z.names, h))

-- over the layers of a store, where nothing is refused
pub fill_lent : (s : Bor (List ℕ)) (c : Cursor) {d : Cursor} {l : Layers} → (refusal_on s.now c ≡ 0) × (d ≡ c) → LayersOf s l → (b m : ℕ)
    → fill_from (layer_words l) top_most m b d ≡ fill_in s.now c b m
fill_lent s c {d} {l} h e b m =
    let z = was_taken s.now c h.0 in
    let lw = word (cap s.now) s.now in
    ap (fill_from (layer_words l) top_most m b) h.1
    ∙ fill_same (layer_words l) lw top_most (lent_words z.0 e) m b c
    ∙ ap (λ (t : ℕ). fill_from lw t m b c) (sym (top_is (cap s.now))) ∙ fill_runs z.0 c b m z.1

-- a refusal, by the number that was found
pub fill_refused : (s : List ℕ) (c : Cursor) (b : ℕ) (out : List ℕ) {r : Batch} → refusal_on s c ≢ 0
    → r ≡ record { cursor = c; reads = 0; count = 0; stop = StopRefused (numbered (refusal_on s c)) } → Settled batch_paper (filled (fill_in s c b (length out)) out) r out
unfolding refusal_on fill_in
fill_refused s c b out {r} h is =
    settled (ap (λ (x : Filled). filled x out) (sym (go (is_store s) (fits (top (cap s)) c) h)) ∙ ap (λ (x : Batch). record { numbers = batch_paper.numbers x; lent = out }) (sym is))
  where
    f : Filled
    f = fill_from (word (cap s) s) (top (cap s)) (length out) b c

    go : (x y : Bool) → ◌≢◌ {A = ℕ} (cond x (cond y 0 7) 2) 0
        → stopped (StopRefused (numbered (cond x (cond y 0 7) 2))) 0 c ≡ cond x (cond y f (stopped (StopRefused (numbered 7)) 0 c)) (stopped (StopRefused (numbered 2)) 0 c)
    go true true h = absurd (h refl)
    go true false h = refl
    go false y h = refl

-- a fill that the definition answers
pub fill_answered : {a f : Filled} (out : List ℕ) {x : List ℕ} {r : Batch} → a ≡ f → Settled batch_paper (filled a out) r x → Settled batch_paper (filled f out) r x
fill_answered out {x = x} {r = r} h s = subst (λ (y : Filled). Settled batch_paper (filled y out) r x) h s

pub as_batch : {o : Outcome (List ℕ)} {r q : Batch} {x : List ℕ} → r ≡ q → Settled batch_paper o q x → Settled batch_paper o r x
as_batch {o} {x = x} e s = subst (λ (y : Batch). Settled batch_paper o y x) (sym e) s

-- a batch that meets a call's promise is the definition's: the paper reads it back
pub the_batch : (f : Filled) (out : List ℕ) {r : Batch} {x : List ℕ} → Settled batch_paper (filled f out) r x → r ≡ batch f
the_batch f out h = (settles h (record { answer = refl; memory = refl })).0
