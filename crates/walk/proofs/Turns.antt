-- What next does, by the lowest layer with a mask; and the turns and ends of a loop that has made r reads of a budget b.
use Rattle.store.specs.Layout.{top_most}
use mathlib.Core.Bool.{Bool, true, false, cond, true≢false}
use mathlib.Core.Logic.{◌≢◌}
use mathlib.Core.Path.{◌≡◌, refl, sym, ap, ap₂, ◌∙◌, subst}
use Prim.Native.Nat.{ℕ, zero, suc, ◌+◌, ◌-◌, ◌%◌, ◌≤◌, ◌<◌}
use native.Mathlib.Nat.{add_assoc, add-zero, zero-add}
use native.Mathlib.Omega.{arith}
use borrow.Author.Tests.{lt-ltb, le-ltb, ltb-true}
use lib.Dec.{ltb}
use lib.ListN.{get_or}
use Rattle.walk.specs.Calls.{Fine}
use Rattle.walk.specs.Steps.{is_reading, Descended, Going, lowered, Lowers, sunk, Sinks, finished_by, Finishes}
use Rattle.walk.specs.Walk.{Kind, low_layer, kind_of, kind, first_bit, place_at, handed, taken, member, paused, ended, more, by_kind, descend, next}
use Rattle.walk.specs.Walk.Kind.{gives, reads, done}
use Rattle.walk.specs.declared.Cursor.{Cursor}
use Rattle.walk.specs.declared.Next.{Next}
use Rattle.walk.specs.declared.Next.TheVariants.{Member, Paused, End}
use Rattle.walk.specs.declared.Step.{Step}
use Rattle.walk.specs.declared.Sunk.{Sunk}
use Rattle.walk.proofs.Cursors.{Low, low_found, low_stop, low_is, low_at, reading_low, resting_low, id_cut}

module _ (t : ℕ) (c : Cursor) where
  kind-gives : Low c.masks 0 (suc t) 0 → kind t c ≡ gives
  kind-gives low = ap (kind_of t) (sym (low_is low))

  kind_reads : (j : ℕ) → j < t → Low c.masks 0 (suc t) (suc j) → kind t c ≡ reads j
  kind_reads j h low = ap (kind_of t) (sym (low_is low)) ∙ ap (λ (b : Bool). cond b (reads j) done) (lt-ltb j t h)

  kind_done : Low c.masks 0 (suc t) (suc t) → kind t c ≡ done
  kind_done low = ap (kind_of t) (sym (low_is low)) ∙ ap (λ (b : Bool). cond b (reads t) done) (le-ltb t t (omega arith))

module _ (lw : ℕ → ℕ → ℕ) (t : ℕ) (c : Cursor) where
  pub next-gives : Low c.masks 0 (suc t) 0 → (b : ℕ) → next lw t b c ≡ member t c
  unfolding next
  next-gives low zero = ap (by_kind t c (λ j. paused c)) (kind-gives t c low)
  next-gives low (suc b) = ap (by_kind t c (λ j. more 1 (next lw t b (descend lw t j c)))) (kind-gives t c low)

  pub next_done : Low c.masks 0 (suc t) (suc t) → (b : ℕ) → next lw t b c ≡ ended c
  unfolding next
  next_done low zero = ap (by_kind t c (λ j. paused c)) (kind_done t c low)
  next_done low (suc b) = ap (by_kind t c (λ j. more 1 (next lw t b (descend lw t j c)))) (kind_done t c low)

  module _ (j : ℕ) (h : j < t) (low : Low c.masks 0 (suc t) (suc j)) where
    pub next-paused : next lw t 0 c ≡ paused c
    unfolding next
    next-paused = ap (by_kind t c (λ j. paused c)) (kind_reads t c j h low)

    pub next_reads : (b : ℕ) → next lw t (suc b) c ≡ more 1 (next lw t b (descend lw t j c))
    unfolding next
    next_reads b = ap (by_kind t c (λ j. more 1 (next lw t b (descend lw t j c)))) (kind_reads t c j h low)

-- ---- the loop

more-more : (m n : ℕ) (a : Step) → more m (more n a) ≡ more (m + n) a
more-more m n a = ap (λ (x : ℕ). record { cursor = a.cursor; reads = x; answer = a.answer }) (sym (add_assoc m n a.reads))

more_zero : (a : Step) → more 0 a ≡ a
more_zero a = ap (λ (x : ℕ). record { cursor = a.cursor; reads = x; answer = a.answer }) (zero-add a.reads)

-- at its start nothing has been read
pub run_start : (lw : ℕ → ℕ → ℕ) (t b r : ℕ) (c : Cursor) → r ≤ b → Fine t c.prefix → Going lw t b r c c r
run_start lw t b r c h f =
    let z : r - r ≡ 0 = omega arith in
    record { from = omega arith; spent = h; fine = f; same = sym (ap (λ (x : ℕ). more x (next lw t (b - r) c)) z ∙ more_zero (next lw t (b - r) c)) }

-- a word is wanted, and read
pub run_again : {lw : ℕ → ℕ → ℕ} {t b r₀ : ℕ} {c₀ c d : Cursor} {r : ℕ} → Going lw t b r₀ c₀ c r → is_reading (kind t c) ≡ true → r ≢ b
    → Descended lw t (low_layer t c - 1) c d → Going lw t b r₀ c₀ d (r + 1)
run_again {lw} {t} {b} {r₀} {c₀} {c} {d} {r} g want n down =
    let j = low_layer t c - 1 in
    let inner = reading_low t c want in
    let l : low_layer t c ≡ suc j = omega (arith, inner) in
    let e : b - r ≡ suc (b - (r + 1)) = omega (arith, g.spent, n) in
    let f : (r - r₀) + 1 ≡ (r + 1) - r₀ = omega (arith, g.from) in
    let y = next lw t (b - (r + 1)) (descend lw t j c) in
    record {
      from = omega (arith, g.from);
      spent = omega (arith, g.spent, n);
      fine = down.fine;
      same = g.same
          ∙ ap (λ (x : ℕ). more (r - r₀) (next lw t x c)) e
          ∙ ap (more (r - r₀)) (next_reads lw t c j (omega (arith, inner)) (subst (Low c.masks 0 (suc t)) l (low_found c.masks 0 (suc t))) (b - (r + 1)))
          ∙ more-more (r - r₀) 1 y
          ∙ ap₂ (λ (x : ℕ) (z : Cursor). more x (next lw t (b - (r + 1)) z)) f (sym down.cursor);
    }

-- ---- the same for every cursor

module _ (lw : ℕ → ℕ → ℕ) (t : ℕ) (c : Cursor) where
  -- no word is wanted, or none may be read
  pub sunk_rests : (n r : ℕ) → is_reading (kind t c) ≡ false → sunk lw t n r c ≡ record { cursor = c; reads = r }
  unfolding sunk
  sunk_rests zero r e = refl
  sunk_rests (suc n) r e = rw e

  pub sunk_spent : (n r : ℕ) → n ≡ 0 → sunk lw t n r c ≡ record { cursor = c; reads = r }
  unfolding sunk
  sunk_spent n r e = rw e

  -- one is read
  pub sunk_again : {d : Cursor} (n r : ℕ) → is_reading (kind t c) ≡ true → d ≡ lowered lw t (low_layer t c - 1) c → sunk lw t (suc n) r c ≡ sunk lw t n (suc r) d
  unfolding sunk
  sunk_again n r e is = rw e (ap (sunk lw t n (suc r)) (sym is))

-- the loop's invariant: what is left to be read gives what must come out; and, where the prefixes were fine, next from there is next from here
pub record Sinking (lw : ℕ → ℕ → ℕ) (t b r₀ : ℕ) (c₀ c : Cursor) (r : ℕ) : Type 0 where
  pub left : sunk lw t (b - r) r c ≡ sunk lw t (b - r₀) r₀ c₀
  pub going : Fine t c₀.prefix → r₀ ≤ b → Going lw t b r₀ c₀ c r

pub sink_start : (lw : ℕ → ℕ → ℕ) (t b r : ℕ) (c : Cursor) → Sinking lw t b r c c r
sink_start lw t b r c = record { left = refl; going = λ f h. run_start lw t b r c h f }

pub sink_again : {lw : ℕ → ℕ → ℕ} {t b r₀ : ℕ} {c₀ c d : Cursor} {r : ℕ} → Sinking lw t b r₀ c₀ c r → is_reading (kind t c) ≡ true → r < b
    → Lowers lw t (low_layer t c - 1) c d → Sinking lw t b r₀ c₀ d (r + 1)
sink_again {lw} {t} {b} {r₀} {c₀} {c} {d} {r} i want h l =
    let e : b - r ≡ suc (b - (r + 1)) = omega arith in
    let s : suc r ≡ r + 1 = omega arith in
    record {
      left = sym (ap (λ (n : ℕ). sunk lw t n r c) e ∙ sunk_again lw t c (b - (r + 1)) r want l.is ∙ ap (λ (n : ℕ). sunk lw t (b - (r + 1)) n d) s) ∙ i.left;
      going = λ f g. let w = i.going f g in run_again w want (λ (q : r ≡ b). absurd (omega arith)) (l.down w.fine);
    }

pub sink_rests : {lw : ℕ → ℕ → ℕ} {t b r₀ : ℕ} {c₀ c : Cursor} {r : ℕ} → Sinking lw t b r₀ c₀ c r → is_reading (kind t c) ≡ false
    → Sinks lw t b r₀ c₀ (record { cursor = c; reads = r })
sink_rests {lw} {t} {b} {c = c} {r = r} i e = record {
  is = sym (sunk_rests lw t c (b - r) r e) ∙ i.left;
  sank = λ f g. record { going = i.going f g; stopped = λ w. absurd (true≢false (sym w ∙ e)) };
}

-- a member is at hand: nothing is read
pub sink_none : (lw : ℕ → ℕ → ℕ) (t b r : ℕ) (c : Cursor) → get_or c.masks 0 0 ≢ 0 → Sinks lw t b r c (record { cursor = c; reads = r })
sink_none lw t b r c some = sink_rests (sink_start lw t b r c) (ap is_reading (kind-gives t c (low_at (sym (low_stop c.masks 0 t some)))))

pub sink_spent : {lw : ℕ → ℕ → ℕ} {t b r₀ : ℕ} {c₀ c : Cursor} {r : ℕ} → Sinking lw t b r₀ c₀ c r → b ≤ r → Sinks lw t b r₀ c₀ (record { cursor = c; reads = r })
sink_spent {lw} {t} {b} {c = c} {r = r} i h = record {
  is = sym (sunk_spent lw t c (b - r) r (omega arith)) ∙ i.left;
  sank = λ f g. let w = i.going f g in record { going = w; stopped = λ x. omega (arith, w.spent) };
}

-- where no word is read any more, the words and the budget do not matter
pub next_still : (lw lw' : ℕ → ℕ → ℕ) (t b : ℕ) (c : Cursor) → (is_reading (kind t c) ≡ true → b ≡ 0) → next lw t b c ≡ next lw' t 0 c
unfolding next
next_still lw lw' t zero c h = refl
next_still lw lw' t (suc b) c h = go (kind t c) h
  where
    go : (k : Kind) → (is_reading k ≡ true → suc b ≡ 0) → by_kind t c (λ j. more 1 (next lw t b (descend lw t j c))) k ≡ by_kind t c (λ j. paused c) k
    go gives e = refl
    go (reads j) e = absurd (omega (arith, e refl))
    go done e = refl

-- so next is what is answered there, after the reads
pub run_done : {lw : ℕ → ℕ → ℕ} (lw' : ℕ → ℕ → ℕ) {t b : ℕ} {c₀ c : Cursor} {r : ℕ} → Going lw t b 0 c₀ c r → (is_reading (kind t c) ≡ true → r ≡ b)
    → more r (next lw' t 0 c) ≡ next lw t b c₀
run_done {lw} lw' {t} {b} {c₀} {c} {r} g h =
    let e : b - 0 ≡ b = omega arith in
    let f : r - 0 ≡ r = omega arith in
    sym (ap (λ (x : ℕ). next lw t x c₀) (sym e) ∙ g.same
    ∙ ap₂ more f (next_still lw lw' t (b - r) c λ w. let z = h w in omega arith))

-- what that is
module _ (lw : ℕ → ℕ → ℕ) (t r : ℕ) (c : Cursor) where
  more_none : (o : Next) (d : Cursor) → record { cursor = d; reads = r; answer = o } ≡ more r (record { cursor = d; reads = 0; answer = o })
  more_none o d = ap (λ (x : ℕ). record { cursor = d; reads = x; answer = o }) (sym (add-zero r))

  pub still_member : get_or c.masks 0 0 ≢ 0 → {d : Cursor} {v : ℕ} → d ≡ handed c → v ≡ place_at t c 0
      → record { cursor = d; reads = r; answer = Member v } ≡ more r (next lw t 0 c)
  still_member some d_is v-is =
      ap₂ (λ (x : Cursor) (y : ℕ). record { cursor = x; reads = r; answer = Member y }) d_is v-is
      ∙ more_none (Member (place_at t c 0)) (handed c) ∙ ap (more r) (sym (next-gives lw t c (low_at (sym (low_stop c.masks 0 t some))) 0))

  pub still_end : is_reading (kind t c) ≡ false → get_or c.masks 0 0 ≡ 0 → record { cursor = c; reads = r; answer = End } ≡ more r (next lw t 0 c)
  still_end e z = more_none End c ∙ ap (more r) (sym (next_done lw t c (low_at (sym (resting_low t c e z))) 0))

  pub still_paused : is_reading (kind t c) ≡ true → record { cursor = c; reads = r; answer = Paused } ≡ more r (next lw t 0 c)
  still_paused want =
      let inner = reading_low t c want in
      let l : low_layer t c ≡ suc (low_layer t c - 1) = omega (arith, inner) in
      more_none Paused c
      ∙ ap (more r) (sym (next-paused lw t c (low_layer t c - 1) (omega (arith, inner)) (subst (Low c.masks 0 (suc t)) l (low_found c.masks 0 (suc t)))))

-- what is answered there, for every cursor
module _ (t r : ℕ) (c : Cursor) where
  pub finish_member : t ≤ top_most → get_or c.masks 0 0 ≢ 0 → (0 < get_or c.masks 0 0 → first_bit c 0 < 64) → {d : Cursor} {v : ℕ} → d ≡ handed c → v ≡ place_at t c 0 % 4294967296
      → Finishes t r c (record { cursor = d; reads = r; answer = Member v })
  finish_member few some b {d} {v} d_is v-is = record {
    is = ap₂ (λ (x : Cursor) (y : ℕ). record { cursor = x; reads = r; answer = Member y }) d_is v-is
        ∙ ap (finished_by t r c) (sym (kind-gives t c (low_at (sym (low_stop c.masks 0 t some)))));
    same = λ f. still_member (λ (k i : ℕ). 0) t r c some d_is (v-is ∙ id_cut t c few f some b);
  }

  pub finish_paused : is_reading (kind t c) ≡ true → Finishes t r c (record { cursor = c; reads = r; answer = Paused })
  finish_paused want = record { is = go (kind t c) want; same = λ f. still_paused (λ (k i : ℕ). 0) t r c want }
    where
      go : (k : Kind) → is_reading k ≡ true → record { cursor = c; reads = r; answer = Paused } ≡ finished_by t r c k
      go gives e = absurd (true≢false (sym e))
      go (reads j) e = refl
      go done e = absurd (true≢false (sym e))

  pub finish_end : is_reading (kind t c) ≡ false → get_or c.masks 0 0 ≡ 0 → Finishes t r c (record { cursor = c; reads = r; answer = End })
  finish_end e z = record {
    is = ap (finished_by t r c) (sym (kind_done t c (low_at (sym (resting_low t c e z)))));
    same = λ f. still_end (λ (k i : ℕ). 0) t r c e z;
  }

-- so a walk that sinks and finishes is next
pub sink_finish : {lw : ℕ → ℕ → ℕ} {t b : ℕ} {c : Cursor} {d : Sunk} {a : Step} → Fine t c.prefix → Sinks lw t b 0 c d → Finishes t d.reads d.cursor a → a ≡ next lw t b c
sink_finish f s e = let k = s.sank f (omega arith) in e.same k.going.fine ∙ run_done (λ (k i : ℕ). 0) k.going k.stopped

-- ---- layer words that agree below the top make the same walk

-- what is done where a read is needed, twice, the same in each layer below the top
by_kind_lem : (t : ℕ) (c : Cursor) (f g : ℕ → Step) → ((j : ℕ) → j < t → f j ≡ g j) → by_kind t c f (kind t c) ≡ by_kind t c g (kind t c)
by_kind_lem t c f g same = go (low_layer t c)
  where
    below : (j : ℕ) (x : Bool) → ltb j t ≡ x → by_kind t c f (cond x (reads j) done) ≡ by_kind t c g (cond x (reads j) done)
    below j true e = same j (ltb-true j t e)
    below j false e = refl

    go : (l : ℕ) → by_kind t c f (kind_of t l) ≡ by_kind t c g (kind_of t l)
    go zero = refl
    go (suc j) = below j (ltb j t) refl

module _ (lw lw' : ℕ → ℕ → ℕ) (t : ℕ) (same : (k i : ℕ) → k < t → lw k i ≡ lw' k i) where
  pub next-same : (b : ℕ) (c : Cursor) → next lw t b c ≡ next lw' t b c
  unfolding next
  next-same zero c = refl
  next-same (suc b) c =
      by_kind_lem t c (λ j. more 1 (next lw t b (descend lw t j c))) (λ j. more 1 (next lw' t b (descend lw' t j c))) λ j h.
      let q = place_at t c (suc j) in
      ap (λ (w : ℕ). more 1 (next lw t b (taken c j q w))) (same j q h) ∙ ap (more 1) (next-same b (taken c j q (lw' j q)))
