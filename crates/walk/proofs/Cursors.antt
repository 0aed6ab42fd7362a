-- Cursors: the lowest layer with a mask, prefixes that pass the test, and what a step leaves in each layer.
use Rattle.store.specs.Layout.{top_most}
use mathlib.Core.Bool.{Bool, true, false, cond, ◌&&◌, true≢false}
use mathlib.Core.List.{List}
use mathlib.Core.Logic.{◌≢◌, ⊎_elim}
use mathlib.Core.Path.{◌≡◌, refl, sym, ap, ◌∙◌, subst}
use Prim.Native.Nat.{ℕ, zero, suc, ◌+◌, ◌-◌, ◌*◌, ◌%◌, ◌^◌, ◌≤◌, ◌<◌}
use native.Mathlib.Decide.{ℕ_discrete, dec_lt}
use native.Mathlib.Nat.{le_of_suc-le-suc, eq-or-lt_of_le, pow-suc, pow-le-pow_right}
use native.Mathlib.Omega.{arith}
use borrow.Author.Tests.{lt-ltb, le-ltb, eq-eqb, eqb-true, eqb-false, ltb-true, ltb-false}
use lib.Dec.{ltb, eqb}
use lib.ListN.{length, get_or, set}
use lib.Seq.{get_or-set_same, get_or-set_other, set_out}
use Rattle.util.proofs.Same.{both}
use Rattle.walk_masks.specs.Masks.{between}
pub use Rattle.walk_masks.proofs.Masks.{low_pass, low_stop, prefix_below, prefix_top}
use Rattle.walk.specs.Calls.{prefixes_fit, Fine}
use Rattle.walk.specs.Steps.{is_reading, lowered, Lowers}
use Rattle.walk.specs.Walk.{low_from, low_layer, kind_of, kind, first_bit, prefix_at, place_at, taken, handled}
use Rattle.walk.specs.Walk.Kind.{reads, done}
use Rattle.walk.specs.declared.Cursor.{Cursor}

-- ---- the lowest layer with a mask that is not 0

-- l is the first of the n layers from layer k on whose mask is not 0, or k + n
pub record Low (ms : List ℕ) (k n l : ℕ) : Type 0 where
  pub first : k ≤ l
  pub last : l ≤ k + n
  pub empty : (i : ℕ) → k ≤ i → i < l → get_or ms i 0 ≡ 0
  pub found : l < k + n → 0 < get_or ms l 0

pub low_found : (ms : List ℕ) (k n : ℕ) → Low ms k n (low_from ms k n)
unfolding low_from
low_found ms k zero = record { first = omega arith; last = omega arith; empty = λ i h l. absurd (omega arith); found = λ h. absurd (omega arith) }
low_found ms k (suc n) = go (eqb (get_or ms k 0) 0) refl (low_found ms (suc k) n)
  where
    go : (b : Bool) → eqb (get_or ms k 0) 0 ≡ b → Low ms (suc k) n (low_from ms (suc k) n) → Low ms k (suc n) (cond b (low_from ms (suc k) n) k)
    go true e r =
        let z = eqb-true (get_or ms k 0) 0 e in
        record {
          first = omega (arith, r.first);
          last = omega (arith, r.last);
          empty = λ i h l. ⊎_elim (λ (q : k ≡ i). ap (λ (x : ℕ). get_or ms x 0) (sym q) ∙ z) (λ (q : suc k ≤ i). r.empty i q l) (eq-or-lt_of_le h);
          found = λ h. r.found (omega arith);
        }
    go false e r = record {
      first = omega arith;
      last = omega arith;
      empty = λ i h l. absurd (omega arith);
      found = λ h. let n = eqb-false (get_or ms k 0) 0 e in omega (arith, n);
    }

-- there is one
pub low_one : {ms : List ℕ} {n l m : ℕ} → Low ms 0 n l → Low ms 0 n m → l ≡ m
low_one {ms} {n} {l} {m} a b = go (dec_lt l m) (dec_lt m l)
  where
    go : Dec (l < m) → Dec (m < l) → l ≡ m
    go (yes h) d = absurd (omega (arith, a.found (omega (arith, b.last)), b.empty l (omega arith) h))
    go (no h) (yes g) = absurd (omega (arith, b.found (omega (arith, a.last)), a.empty m (omega arith) g))
    go (no h) (no g) = omega arith

pub low_is : {ms : List ℕ} {n l : ℕ} → Low ms 0 n l → l ≡ low_from ms 0 n
low_is {ms} {n} a = low_one a (low_found ms 0 n)

pub low_at : {ms : List ℕ} {n l : ℕ} → l ≡ low_from ms 0 n → Low ms 0 n l
low_at {ms} {n} e = subst (Low ms 0 n) (sym e) (low_found ms 0 n)

-- ---- whether a word has to be read

-- one is read where the lowest layer with a mask is one above layer 0
pub reading_between : (t l : ℕ) → between 0 l (suc t) ≡ is_reading (kind_of t l)
reading_between t zero = refl
reading_between t (suc j) = go (dec_lt j t)
  where
    go : Dec (j < t) → between 0 (suc j) (suc t) ≡ is_reading (kind_of t (suc j))
    go (yes h) = rw (lt-ltb j t h, lt-ltb 0 (suc j) (omega arith), lt-ltb (suc j) (suc t) (omega arith))
    go (no h) = rw (le-ltb j t (omega arith), lt-ltb 0 (suc j) (omega arith), le-ltb (suc j) (suc t) (omega arith))

pub reading_low : (t : ℕ) (c : Cursor) → is_reading (kind t c) ≡ true → (0 < low_layer t c) × (low_layer t c < suc t)
reading_low t c e = go (low_layer t c) e
  where
    below : (j : ℕ) (b : Bool) → ltb j t ≡ b → is_reading (cond b (reads j) done) ≡ true → (0 < suc j) × (suc j < suc t)
    below j true e h = (omega arith, omega (arith, ltb-true j t e))
    below j false e h = absurd (true≢false (sym h))

    go : (l : ℕ) → is_reading (kind_of t l) ≡ true → (0 < l) × (l < suc t)
    go zero h = absurd (true≢false (sym h))
    go (suc j) h = below j (ltb j t) refl h

-- layer 0 is then empty
pub reading_zero : (t : ℕ) (c : Cursor) → is_reading (kind t c) ≡ true → get_or c.masks 0 0 ≡ 0
reading_zero t c e = (low_found c.masks 0 (suc t)).empty 0 (omega arith) (reading_low t c e).0

pub resting_low : (t : ℕ) (c : Cursor) → is_reading (kind t c) ≡ false → get_or c.masks 0 0 ≡ 0 → low_layer t c ≡ suc t
resting_low t c e z = go (low_layer t c) (low_found c.masks 0 (suc t)) e
  where
    past : (j : ℕ) (b : Bool) → ltb j t ≡ b → suc j ≤ suc t → is_reading (cond b (reads j) done) ≡ false → suc j ≡ suc t
    past j true e l h = absurd (true≢false h)
    past j false e l h = omega (arith, ltb-false j t e)

    go : (l : ℕ) → Low c.masks 0 (suc t) l → is_reading (kind_of t l) ≡ false → l ≡ suc t
    go zero low h = absurd (omega (arith, low.found (omega arith)))
    go (suc j) low h = past j (ltb j t) refl (omega (arith, low.last)) h

-- the first layer whose mask is not 0, as a search from layer 0 on meets it, and whether a word has to be read
pub wants_at : (t : ℕ) (c : Cursor) {j : ℕ} → low_layer t c ≡ suc j → j < t → is_reading (kind t c) ≡ true
wants_at t c {j} e h = ap (λ (l : ℕ). is_reading (kind_of t l)) e ∙ ap (λ (b : Bool). is_reading (cond b (reads j) done)) (lt-ltb j t h)

pub rests_at_hand : (t : ℕ) (c : Cursor) → get_or c.masks 0 0 ≢ 0 → is_reading (kind t c) ≡ false
rests_at_hand t c h = ap (λ (l : ℕ). is_reading (kind_of t l)) (low_stop c.masks 0 t h)

module _ (c : Cursor) (x : get_or c.masks 0 0 ≡ 0) where
  pub low_one_of_three : get_or c.masks 1 0 ≢ 0 → (low_layer top_most c ≡ 1) × (0 < get_or c.masks 1 0)
  low_one_of_three h = (low_pass c.masks 0 3 x ∙ low_stop c.masks 1 2 h, omega (arith, h))

  module _ (z : get_or c.masks 1 0 ≡ 0) where
    pub low_two_of_three : get_or c.masks 2 0 ≢ 0 → (low_layer top_most c ≡ 2) × (0 < get_or c.masks 2 0)
    low_two_of_three h = (low_pass c.masks 0 3 x ∙ low_pass c.masks 1 2 z ∙ low_stop c.masks 2 1 h, omega (arith, h))

    module _ (y : get_or c.masks 2 0 ≡ 0) where
      pub low_three_of_three : get_or c.masks top_most 0 ≢ 0 → (low_layer top_most c ≡ top_most) × (0 < get_or c.masks top_most 0)
      low_three_of_three h =
          (low_pass c.masks 0 3 x ∙ low_pass c.masks 1 2 z ∙ low_pass c.masks 2 1 y ∙ low_stop c.masks top_most 0 h, omega (arith, h))

      pub rests_at_the_end : get_or c.masks top_most 0 ≡ 0 → is_reading (kind top_most c) ≡ false
      unfolding low_from
      rests_at_the_end h =
          ap (λ (l : ℕ). is_reading (kind_of top_most l))
          (low_pass c.masks 0 3 x ∙ low_pass c.masks 1 2 z ∙ low_pass c.masks 2 1 y ∙ low_pass c.masks top_most 0 h)

      -- where a word has to be read, it is below the top layer
      pub top_wanted : is_reading (kind top_most c) ≡ true → get_or c.masks top_most 0 ≢ 0
      top_wanted want e = true≢false (sym want ∙ rests_at_the_end e)

-- ---- prefixes

pub prefix_same : (t : ℕ) (ps qs : List ℕ) (k : ℕ) → get_or qs k 0 ≡ get_or ps k 0 → prefix_at t qs k ≡ prefix_at t ps k
unfolding prefix_at
prefix_same t ps qs k e = ap (λ (x : ℕ). cond (ltb k t) x 0) e

-- prefixes that pass the test are fine, and fine ones pass it
fine_below : (t : ℕ) (ps : List ℕ) (n : ℕ) → prefixes_fit t ps n ≡ true → (k : ℕ) → k < n → (get_or ps k 0 % 64 ≡ 0) × (get_or ps k 0 < 64 ^ (suc t - k))
unfolding prefixes_fit
fine_below t ps zero e k h = absurd (omega arith)
fine_below t ps (suc n) e k h =
    let b = both (prefixes_fit t ps n) (eqb (get_or ps n 0 % 64) 0 && ltb (get_or ps n 0) (64 ^ (suc t - n))) e in
    ⊎_elim
    (λ (q : k ≡ n).
    let a = both (eqb (get_or ps n 0 % 64) 0) (ltb (get_or ps n 0) (64 ^ (suc t - n))) b.1 in
    subst (λ (x : ℕ). (get_or ps x 0 % 64 ≡ 0) × (get_or ps x 0 < 64 ^ (suc t - x))) (sym q) (eqb-true (get_or ps n 0 % 64) 0 a.0, ltb-true (get_or ps n 0) (64 ^ (suc t - n)) a.1))
    (λ (q : k < n). fine_below t ps n b.0 k q)
    (eq-or-lt_of_le (le_of_suc-le-suc h))

pub fine_of : (t : ℕ) (ps : List ℕ) → prefixes_fit t ps t ≡ true → Fine t ps
fine_of t ps e = fine_below t ps t e

fit_below : (t : ℕ) (ps : List ℕ) → Fine t ps → (n : ℕ) → n ≤ t → prefixes_fit t ps n ≡ true
unfolding prefixes_fit
fit_below t ps f zero h = refl
fit_below t ps f (suc k) h =
    let g = f k (omega arith) in
    rw (fit_below t ps f k (omega arith), eq-eqb (get_or ps k 0 % 64) 0 g.0, lt-ltb (get_or ps k 0) (64 ^ (suc t - k)) g.1)

pub fit_of : (t : ℕ) (ps : List ℕ) → Fine t ps → prefixes_fit t ps t ≡ true
fit_of t ps f = fit_below t ps f t (omega arith)

-- a place is below its layer's bound
place_lt : (p b n : ℕ) → p % 64 ≡ 0 → p < 64 ^ suc n → b < 64 → p + b < 64 ^ suc n
place_lt p b n e h l = omega (arith, pow-suc 64 n)

pub fine_place : (t : ℕ) (ps : List ℕ) (k b : ℕ) → Fine t ps → k ≤ t → b < 64 → prefix_at t ps k + b < 64 ^ (suc t - k)
fine_place t ps k b f h l =
    ⊎_elim
    (λ (q : k ≡ t).
    let e : 1 ≡ suc t - k = omega arith in
    subst (λ (x : ℕ). prefix_at t ps k + b < 64 ^ x) e (omega (arith, prefix_top t ps k (omega arith))))
    (λ (q : k < t).
    let e : suc t - k ≡ suc (t - k) = omega arith in
    subst (λ (x : ℕ). prefix_at t ps k + b < 64 ^ x) (sym e)
    (subst (λ (x : ℕ). x + b < 64 ^ suc (t - k)) (sym (prefix_below t ps k q))
    (place_lt (get_or ps k 0) b (t - k) (f k q).0 (subst (λ (x : ℕ). get_or ps k 0 < 64 ^ x) e (f k q).1) l)))
    (eq-or-lt_of_le h)

-- an id has 32 bits, so that nothing is cut off it
pub id_small : (t : ℕ) (c : Cursor) → t ≤ top_most → Fine t c.prefix → get_or c.masks 0 0 ≢ 0 → (0 < get_or c.masks 0 0 → first_bit c 0 < 64) → place_at t c 0 < 4294967296
unfolding place_at
id_small t c few f some b =
    let l = fine_place t c.prefix 0 (first_bit c 0) f (omega arith) (b (omega (arith, some))) in
    let n : suc t - 0 ≤ suc top_most = omega arith in
    let m : 64 ^ (suc t - 0) ≤ 64 ^ suc top_most = pow-le-pow_right (omega arith) n in
    omega (arith, l, m)

pub id_cut : (t : ℕ) (c : Cursor) → t ≤ top_most → Fine t c.prefix → get_or c.masks 0 0 ≢ 0 → (0 < get_or c.masks 0 0 → first_bit c 0 < 64) → place_at t c 0 % 4294967296 ≡ place_at t c 0
id_cut t c few f some b = omega (arith, id_small t c few f some b)

-- a place makes a fine prefix of the layer below
prefix_lt : (q n : ℕ) → q < 64 ^ n → (q * 64 % 64 ≡ 0) × (q * 64 < 64 ^ suc n)
prefix_lt q n h = omega (arith, pow-suc 64 n)

pub fine_set : (t : ℕ) (ps : List ℕ) (j q : ℕ) → Fine t ps → j < t → q < 64 ^ (t - j) → Fine t (set ps j (q * 64))
fine_set t ps j q f l h k g = go (ℕ_discrete k j) (dec_lt j (length ps))
  where
    go : Dec (k ≡ j) → Dec (j < length ps) → (get_or (set ps j (q * 64)) k 0 % 64 ≡ 0) × (get_or (set ps j (q * 64)) k 0 < 64 ^ (suc t - k))
    go (no e) d = subst (λ (x : ℕ). (x % 64 ≡ 0) × (x < 64 ^ (suc t - k))) (sym (get_or-set_other ps j k (q * 64) 0 e)) (f k g)
    go (yes e) (yes d) =
        let i : suc (t - j) ≡ suc t - k = omega arith in
        subst (λ (x : ℕ). (x % 64 ≡ 0) × (x < 64 ^ (suc t - k))) (sym (ap (λ (x : ℕ). get_or (set ps j (q * 64)) x 0) e ∙ get_or-set_same ps j (q * 64) 0 d))
        (subst (λ (x : ℕ). (q * 64 % 64 ≡ 0) × (q * 64 < 64 ^ x)) i (prefix_lt q (t - j) h))
    go (yes e) (no d) = subst (λ (x : List ℕ). (get_or x k 0 % 64 ≡ 0) × (get_or x k 0 < 64 ^ (suc t - k))) (sym (set_out ps j (q * 64) (omega arith))) (f k g)

-- a bit taken of layer j + 1 leaves fine prefixes
pub fine_taken : (t : ℕ) (c : Cursor) (j w : ℕ) → Fine t c.prefix → j < t → first_bit c (suc j) < 64 → Fine t (taken c j (place_at t c (suc j)) w).prefix
unfolding taken place_at
fine_taken t c j w f h b =
    let e : suc t - suc j ≡ t - j = omega arith in
    fine_set t c.prefix j (prefix_at t c.prefix (suc j) + first_bit c (suc j)) f h
    (subst (λ (x : ℕ). prefix_at t c.prefix (suc j) + first_bit c (suc j) < 64 ^ x) e (fine_place t c.prefix (suc j) (first_bit c (suc j)) f (omega arith) b))

-- the place of a bit of layer j + 1 is far below 2 ^ 26: a prefix and a bit are below 64 ^ (t + 1)
pub handled_is : (t : ℕ) (c : Cursor) (j w : ℕ) → t ≤ top_most → Fine t c.prefix → j < t → first_bit c (suc j) < 64 → handled t j w c ≡ taken c j (place_at t c (suc j)) w
unfolding place_at
handled_is t c j w few f h b =
    let l = fine_place t c.prefix (suc j) (first_bit c (suc j)) f (omega arith) b in
    let i : suc t - suc j ≤ top_most = omega arith in
    let m : 64 ^ (suc t - suc j) ≤ 64 ^ top_most = pow-le-pow_right (omega arith) i in
    let e : place_at t c (suc j) % 67108864 ≡ place_at t c (suc j) = omega (arith, l, m) in
    ap (λ (x : ℕ). taken c j x w) e

-- the word below the lowest bit of layer j + 1 read, as the code does it
pub lowers : {c d : Cursor} {t j q w : ℕ} (lw : ℕ → ℕ → ℕ) → t ≤ top_most → j < t → 0 < get_or c.masks (suc j) 0
    → (q ≡ place_at t c (suc j)) × (0 < get_or c.masks (suc j) 0 → first_bit c (suc j) < 64)
    → w ≡ lw j q → d ≡ handled t j w c → Lowers lw t j c d
lowers {c} {d} {t} {j} {q} {w} lw few h some placed w-is d_is =
    let b = placed.1 some in
    let here : d ≡ lowered lw t j c = d_is ∙ ap (λ (x : ℕ). handled t j x c) (w-is ∙ ap (lw j) placed.0) in
    let v = lw j (place_at t c (suc j)) in
    record {
      is = here;
      down = λ f.
          let is = here ∙ handled_is t c j v few f h b in
          record { cursor = is; fine = subst (λ (x : Cursor). Fine t x.prefix) (sym is) (fine_taken t c j v f h b) };
    }

-- the same with the layers' numbers as `place` and `handle_level` count them
pub lowers_by : {c d : Cursor} {j q w : ℕ} (lw : ℕ → ℕ → ℕ) → j < top_most → 0 < get_or c.masks (j + 1) 0
    → (q ≡ place_at top_most c ((j + 1) % suc top_most)) × (0 < get_or c.masks ((j + 1) % suc top_most) 0 → first_bit c ((j + 1) % suc top_most) < 64)
    → w ≡ lw j q → d ≡ handled top_most (j % top_most) w c → Lowers lw top_most j c d
lowers_by {c} {j = j} {q} {w} lw h some placed w-is d_is =
    let m : (j + 1) % suc top_most ≡ suc j = omega arith in
    let o : j % top_most ≡ j = omega arith in
    let e : j + 1 ≡ suc j = omega arith in
    lowers lw (omega arith) h (subst (λ (k : ℕ). 0 < get_or c.masks k 0) e some)
    (subst (λ (k : ℕ). (q ≡ place_at top_most c k) × (0 < get_or c.masks k 0 → first_bit c k < 64)) m placed) w-is (d_is ∙ ap (λ (k : ℕ). handled top_most k w c) o)

-- the same by the lowest layer
pub lowers_at : {lw lw' : ℕ → ℕ → ℕ} {t j : ℕ} {c d : Cursor} → low_layer t c ≡ suc j → ((i : ℕ) → lw j i ≡ lw' j i) → Lowers lw t j c d → Lowers lw' t (low_layer t c - 1) c d
lowers_at {lw} {lw'} {t} {j} {c} {d} e same h =
    let i : j ≡ low_layer t c - 1 = omega (arith, e) in
    let v : lw j (place_at t c (suc j)) ≡ lw' j (place_at t c (suc j)) = same (place_at t c (suc j)) in
    subst (λ (k : ℕ). Lowers lw' t k c d) i (record {
      is = h.is ∙ ap (λ (x : ℕ). handled t j x c) v;
      down = λ f. record { cursor = (h.down f).cursor ∙ ap (taken c j (place_at t c (suc j))) v; fine = (h.down f).fine };
    })
