-- Where the search finds the lowest clear bit, and that its answer is the definition's.
use Rattle.std.proofs.Common.{◌≡◌, ◌≢◌, ℕ, zero, suc, ◌+◌, ◌-◌, ◌*◌, ◌/◌, ◌%◌, ◌^◌, ◌≤◌, ◌<◌, Bool, true, false, cond, ltb, Option, Some, None, List, [], ◌∷◌, ◌++◌, length, get_or, take, drop, slice_get, fold, refl, sym, ap, ap₂, ◌∙◌, subst, arith, length-drop, length-take, take_all, get_or-drop, get_or-take, eq-eqb, ne_eqb, lt-ltb, le-ltb, true≢false}
use Rattle.std.proofs.lemmas.Bool.{eqb-true}
use Rattle.std.proofs.lemmas.List.Sums.{prefix_len_is, prefix_len_passes, prefix_len_stops, prefix_len-le-length}
use Rattle.std.proofs.lemmas.List.Folds.{prefix_len-append}
use Rattle.std.specs.List.{prefix_len}
use Rattle.std.specs.Simd.{first_chunks}
use native.Mathlib.Decide.{dec_lt}
use lib.Bits.{bit_and, and_le_l, and_le_r}
use lib.Count.{count_trailing_zeros}
use lib.ListN.{get_or-eq_default}
use lib.Pow.{pow_mono}
use Rattle.util.specs.Word.{bit, flip, places}
use Rattle.util.proofs.Bits.{shl_one, bit_lt, bit_of_zero, bit-bit_and, bit-flip, ones_on, ones_off}
use Rattle.util.proofs.Places.{Lowest, lowest, places_first, places_none}
use Rattle.store.specs.Word.{Words64}
use Rattle.set_free.specs.Steps.{full, is_full, all_full, Skipped, free_at, free_in}

-- ---- words that are full

-- of two words that are full together each is
and_full : (x y : ℕ) → x ≤ full → y ≤ full → bit_and x y ≡ full → (x ≡ full) × (y ≡ full)
and_full x y hx hy e = (omega (arith, and_le_l x y), omega (arith, and_le_r x y))

-- of several too
shared_full : (a : ℕ) (ws : List ℕ) → a ≤ full → Words64 ws → fold bit_and a ws ≡ full → (a ≡ full) × ((i : ℕ) → i < length ws → get_or ws i 0 ≡ full)
shared_full a [] h small e = (e, λ i l. absurd (omega arith))
shared_full a (w ∷ ws) h small e =
    let r = shared_full (bit_and a w) ws (omega (arith, and_le_l a w)) (λ i. small (suc i)) e in
    let b = and_full a w h (omega (arith, small 0)) r.0 in
    (b.0, each b.1 r.1)
  where
    each : w ≡ full → ((i : ℕ) → i < length ws → get_or ws i 0 ≡ full) → (i : ℕ) → i < suc (length ws) → get_or (w ∷ ws) i 0 ≡ full
    each here rest zero l = here
    each here rest (suc i) l = rest i (omega arith)

-- as the code finds them, one by one and eight at a time: no more than there are
pub few_ahead : (ws : List ℕ) → prefix_len is_full ws ≤ length ws
few_ahead ws = prefix_len-le-length is_full ws

pub few_eights : (es : List (List ℕ)) → prefix_len all_full es ≤ length es
few_eights es = prefix_len-le-length all_full es

ahead_full : (ws : List ℕ) (k : ℕ) → k < prefix_len is_full ws → get_or ws k 0 ≡ full
ahead_full ws k h = eqb-true _ _ (prefix_len_passes is_full ws k 0 h)

skipped_none : (ws : List ℕ) → Skipped ws 0
skipped_none ws = record { upto = omega arith; passed = λ i l. absurd (omega arith) }

skipped_more : (ws : List ℕ) (a b : ℕ) → Skipped ws a → Skipped (drop a ws) b → Skipped ws (a + b)
skipped_more ws a b h g = record { upto = omega (arith, h.upto, g.upto, length-drop a ws); passed = λ i l. at i l (dec_lt i a) }
  where
    at : (i : ℕ) → i < a + b → Dec (i < a) → get_or ws i 0 ≡ full
    at i l (yes u) = h.passed i u
    at i l (no u) =
        let e : a + (i - a) ≡ i = omega arith in
        ap (λ (x : ℕ). get_or ws x 0) (sym e) ∙ sym (get_or-drop a ws (i - a) 0) ∙ g.passed (i - a) (omega arith)

skipped_eights : (m : ℕ) (ws : List ℕ) → Words64 ws → 8 * m ≤ length ws → Skipped ws (8 * prefix_len all_full (first_chunks 8 m ws))
skipped_eights zero ws small h = skipped_none ws
skipped_eights (suc m) ws small h =
    go (all_full (take 8 ws)) refl (skipped_eights m (drop 8 ws) (λ i. rw (get_or-drop 8 ws i 0) (small (8 + i))) (omega (arith, length-drop 8 ws)))
  where
    front : all_full (take 8 ws) ≡ true → Skipped ws 8
    front e =
        record {
          upto = omega arith;
          passed = λ i l.
              sym (get_or-take 8 ws i 0 l)
              ∙ (shared_full full (take 8 ws) (omega arith) words8 (eqb-true _ _ e)).1 i (omega (arith, length-take 8 ws));
        }
      where
        words8 : Words64 (take 8 ws)
        words8 i = at (dec_lt i 8)
          where
            at : Dec (i < 8) → get_or (take 8 ws) i 0 < 2 ^ 64
            at (yes l) = rw (get_or-take 8 ws i 0 l) (small i)
            at (no l) = rw (get_or-eq_default (take 8 ws) 0 {n = i} (omega (arith, length-take 8 ws))) (omega arith)

    go : (b : Bool) → all_full (take 8 ws) ≡ b → Skipped (drop 8 ws) (8 * prefix_len all_full (first_chunks 8 m (drop 8 ws)))
        → Skipped ws (8 * cond b (1 + prefix_len all_full (first_chunks 8 m (drop 8 ws))) 0)
    go true e rest =
        let c : ℕ = prefix_len all_full (first_chunks 8 m (drop 8 ws)) in
        let q : 8 + 8 * c ≡ 8 * (1 + c) = omega arith in
        subst (Skipped ws) q (skipped_more ws 8 (8 * c) (front e) rest)
    go false e rest = skipped_none ws

pub eights_skipped : (ws : List ℕ) {es : List (List ℕ)} {c : ℕ} → Words64 ws → es ≡ first_chunks 8 (length ws / 8) ws → c ≡ prefix_len all_full es → Skipped ws (8 * c)
eights_skipped ws small e q =
    subst (λ (x : ℕ). Skipped ws (8 * x)) (sym (q ∙ ap (prefix_len all_full) e)) (skipped_eights (length ws / 8) ws small (omega arith))

-- what is found in the part of a slice that goes on from place n to its end, as the code cuts it
pub part_ahead : (ws : List ℕ) (n : ℕ) {r : ℕ} → r ≡ prefix_len is_full (take (length ws - n) (drop n ws)) → r ≡ prefix_len is_full (drop n ws)
part_ahead ws n e = e ∙ ap (prefix_len is_full) (take_all (length ws - n) (drop n ws) (omega (arith, length-drop n ws)))

-- behind words that are full
pub ahead_behind : (ws : List ℕ) (n : ℕ) → Skipped ws n → n + prefix_len is_full (drop n ws) ≡ prefix_len is_full ws
ahead_behind ws n h =
    let b : ℕ = prefix_len is_full (drop n ws) in
    let t : Skipped (drop n ws) b = record { upto = few_ahead (drop n ws); passed = ahead_full (drop n ws) } in
    let u = skipped_more ws n b h t in
    sym (prefix_len_is is_full ws (n + b) 0 u.upto (λ k l. eq-eqb _ _ (u.passed k l))
    (λ l. ap is_full (sym (get_or-drop n ws b 0)) ∙ prefix_len_stops is_full (drop n ws) 0 (omega (arith, length-drop n ws))))

-- of a slice in two parts: what is found in the first is found of all where it does not end it
module _ {ws : List ℕ} (near rest : List ℕ) (parts : ws ≡ near ++ rest) {i : ℕ} (e : i ≡ prefix_len is_full near) where
  pub ahead_near : i < length near → i ≡ prefix_len is_full ws
  ahead_near l = rw (parts, prefix_len-append is_full near rest, ne_eqb (prefix_len is_full near) (length near) (λ q. omega (arith, e, q))) e

  pub ahead_far : length near ≤ i → {far b : ℕ} → Skipped rest far → b ≡ prefix_len is_full (drop far rest) → i + far + b ≡ prefix_len is_full ws
  ahead_far l {far} {b} h b-is =
      let q : prefix_len is_full near ≡ length near = omega (arith, e, few_ahead near) in
      let x : i + far + b ≡ length near + (far + prefix_len is_full (drop far rest)) = omega (arith, e, q, b-is) in
      rw (parts, prefix_len-append is_full near rest, eq-eqb (prefix_len is_full near) (length near) q) (x ∙ ap (λ (m : ℕ). length near + m) (ahead_behind rest far h))

-- ---- the ids of a word

-- of word q, the ids from place t on that are free: bit j of it tells whether id 64 q + j is, and no bit below t is set
record Left (ws : List ℕ) (q t left : ℕ) : Type 0 where
  small : left ≤ full
  on : (j : ℕ) → t ≤ j → j < 64 → free_at ws (64 * q + j) ≡ bit left j
  off : (j : ℕ) → j < t → bit left j ≡ 0

module _ (ws : List ℕ) (q : ℕ) (small : get_or ws q 0 ≤ full) where
  free_bit : (j : ℕ) → j < 64 → free_at ws (64 * q + j) ≡ bit (flip (get_or ws q 0)) j
  free_bit j l =
      let d : (64 * q + j) / 64 ≡ q = omega arith in
      let m : (64 * q + j) % 64 ≡ j = omega arith in
      ap₂ (λ (x y : ℕ). 1 - bit (get_or ws x 0) y) d m ∙ sym (bit-flip (get_or ws q 0) j (omega arith) l)

  left-all : Left ws q 0 (flip (get_or ws q 0))
  left-all = record { small = omega arith; on = λ j a l. free_bit j l; off = λ j l. absurd (omega arith) }

  -- those before place t taken out
  left_from : (t : ℕ) → t < 64 → Left ws q t (bit_and (flip (get_or ws q 0)) (flip (2 ^ t - 1)))
  left_from t h = record { small = omega (arith, and_le_l w (flip (2 ^ t - 1))); on = λ j a l. free_bit j l ∙ kept j a l; off = gone }
    where
      w : ℕ
      w = flip (get_or ws q 0)

      before : (j : ℕ) → j < 64 → bit (flip (2 ^ t - 1)) j ≡ 1 - bit (2 ^ t - 1) j
      before j l = bit-flip (2 ^ t - 1) j (omega (arith, pow_mono {i = t} {j = 64} (omega arith))) l

      kept : (j : ℕ) → t ≤ j → j < 64 → bit w j ≡ bit (bit_and w (flip (2 ^ t - 1))) j
      kept j a l = omega (arith, bit-bit_and w (flip (2 ^ t - 1)) j, before j l, ones_off t j a, bit_lt w j)

      gone : (j : ℕ) → j < t → bit (bit_and w (flip (2 ^ t - 1))) j ≡ 0
      gone j l = omega (arith, bit-bit_and w (flip (2 ^ t - 1)) j, before j (omega arith), ones_on t j l)

module _ {ws : List ℕ} {q t left : ℕ} (h : Left ws q t left) where
  -- none is free in a word of which nothing is left
  none_left : left ≡ 0 → (i : ℕ) → 64 * q + t ≤ i → i < 64 * q + 64 → free_at ws i ≡ 0
  none_left e i a b =
      let z : 64 * q + (i - 64 * q) ≡ i = omega arith in
      ap (free_at ws) (sym z) ∙ h.on (i - 64 * q) (omega arith) (omega arith) ∙ ap (λ (x : ℕ). bit x (i - 64 * q)) e ∙ bit_of_zero (i - 64 * q)

  -- the first free id is at the lowest bit of what is left
  record First (b : ℕ) : Type 0 where
    from : t ≤ b
    free : free_at ws (64 * q + b) ≢ 0
    taken : (i : ℕ) → 64 * q + t ≤ i → i < 64 * q + b → free_at ws i ≡ 0

  first_left : left ≢ 0 → First (count_trailing_zeros 64 left)
  first_left n =
      let z = lowest left (omega (arith, h.small)) (omega arith) in
      go (count_trailing_zeros 64 left) z (dec_lt (count_trailing_zeros 64 left) t)
    where
      go : (b : ℕ) → Lowest left b → Dec (b < t) → First b
      go b z (yes l) = absurd (omega (arith, z.on, h.off b l))
      go b z (no l) =
          record {
            from = omega arith;
            free = λ e. omega (arith, sym (h.on b (omega arith) z.inside) ∙ e, z.on);
            taken = λ i a u.
                let y : 64 * q + (i - 64 * q) ≡ i = omega arith in
                ap (free_at ws) (sym y) ∙ h.on (i - 64 * q) (omega arith) (omega (arith, z.inside)) ∙ z.first (i - 64 * q) (omega arith);
          }

-- ---- the answer

-- id p is free and none before it from `first` on
first_at : (f : ℕ → ℕ) (n first p : ℕ) → first ≤ p → ((i : ℕ) → first ≤ i → i < p → f i ≡ 0) → f p ≢ 0
    → cond (ltb p n) (Some p) None ≡ slice_get (places f first (n - first)) 0
first_at f n first p l zeros some = go (dec_lt p n)
  where
    go : Dec (p < n) → cond (ltb p n) (Some p) None ≡ slice_get (places f first (n - first)) 0
    go (yes h) = rw (lt-ltb p n h, places_first f first p (n - first) l (omega arith) zeros some)
    go (no h) = rw (le-ltb p n (omega arith), places_none f first (n - first) (λ i a b. zeros i a (omega arith)))

-- what is left of the first id's word w, as the code has it
abbrev pub own_left : ℕ → ℕ → ℕ
own_left first w = bit_and (full - w) (full - (1 * 2 ^ (first % 64) % 2 ^ 64 - 1))

module _ (ws : List ℕ) (n first : ℕ) where
  abbrev q : ℕ
  q = first / 64

  abbrev t : ℕ
  t = first % 64

  own_left_lem : (w : ℕ) → w ≡ get_or ws q 0 → w ≤ full → Left ws q t (own_left first w)
  own_left_lem w e small =
      subst (Left ws q t)
      (sym (ap₂ (λ (x m : ℕ). bit_and (full - x) (full - (m - 1))) e (shl_one t (omega arith))))
      (left_from ws q (omega (arith, e)) t (omega arith))

  -- in the word of the first id
  pub own_word : (w : ℕ) → w ≡ get_or ws (first / 64) 0 → w ≤ full → own_left first w ≢ 0 → {r : Option ℕ}
      → r ≡ cond (ltb (64 * (first / 64) + count_trailing_zeros 64 (own_left first w)) n) (Some (64 * (first / 64) + count_trailing_zeros 64 (own_left first w))) None
      → r ≡ slice_get (free_in ws n first) 0
  own_word w e small some r-is =
      let l = first_left (own_left_lem w e small) some in
      r-is ∙ first_at (free_at ws) n first (64 * q + count_trailing_zeros 64 (own_left first w)) (omega (arith, l.from)) (λ i a u. l.taken i (omega arith) u) l.free

  -- where nothing is left of that word, and r words behind it are full
  module _ (w r : ℕ) (e : w ≡ get_or ws (first / 64) 0) (small : w ≤ full) (none : own_left first w ≡ 0) (r-is : r ≡ prefix_len is_full (drop (first / 64 + 1) ws)) where
    full_id : (i : ℕ) → get_or ws (i / 64) 0 ≡ full → free_at ws i ≡ 0
    full_id i f =
        let d : 64 * (i / 64) + 0 ≤ i = omega arith in
        none_left (left-all ws (i / 64) (omega arith)) (ap flip f) i d (omega arith)

    before : (i : ℕ) → first ≤ i → i < 64 * (q + 1 + r) → free_at ws i ≡ 0
    before i a u = go (dec_lt i (64 * q + 64))
      where
        go : Dec (i < 64 * q + 64) → free_at ws i ≡ 0
        go (yes l) = none_left (own_left_lem w e small) none i (omega arith) l
        go (no l) =
            let k : ℕ = i / 64 - (q + 1) in
            let z : q + 1 + k ≡ i / 64 = omega arith in
            full_id i (ap (λ (x : ℕ). get_or ws x 0) (sym z) ∙ sym (get_or-drop (q + 1) ws k 0) ∙ ahead_full (drop (q + 1) ws) k (omega arith))

    -- there may be no word behind them
    pub no_word : n ≤ 64 * length ws → length ws ≤ first / 64 + 1 + r → None ≡ slice_get (free_in ws n first) 0
    no_word room h = rw (places_none (free_at ws) first (n - first) (λ i a b. before i a (omega arith)))

    -- else the next one is not
    pub next_word : (p v : ℕ) → p ≡ first / 64 + 1 + r → p < length ws → v ≡ get_or ws p 0 → v ≤ full → {x : Option ℕ}
        → x ≡ cond (ltb (64 * p + count_trailing_zeros 64 (full - v)) n) (Some (64 * p + count_trailing_zeros 64 (full - v))) None
        → x ≡ slice_get (free_in ws n first) 0
    next_word p v p-is h v-is small-v x-is =
        let l = first_left there (λ z. open_there (omega (arith, z))) in
        x-is ∙ first_at (free_at ws) n first (64 * p + count_trailing_zeros 64 (full - v)) (omega arith) (λ i a u. at i a u (dec_lt i (64 * p)) (l.taken i)) l.free
      where
        there : Left ws p 0 (full - v)
        there = subst (Left ws p 0) (ap (λ (x : ℕ). full - x) (sym v-is)) (left-all ws p (omega (arith, v-is)))

        open_there : v ≡ full → ⊥
        open_there z =
            let stop : is_full (get_or (drop (q + 1) ws) r 0) ≡ false =
            ap (λ (x : ℕ). is_full (get_or (drop (q + 1) ws) x 0)) r-is ∙ prefix_len_stops is_full (drop (q + 1) ws) 0 (omega (arith, length-drop (q + 1) ws)) in
            true≢false (sym (eq-eqb _ _ (get_or-drop (q + 1) ws r 0 ∙ ap (λ (x : ℕ). get_or ws x 0) (sym p-is) ∙ sym v-is ∙ z)) ∙ stop)

        at : (i : ℕ) → first ≤ i → i < 64 * p + count_trailing_zeros 64 (full - v) → Dec (i < 64 * p)
            → (64 * p + 0 ≤ i → i < 64 * p + count_trailing_zeros 64 (full - v) → free_at ws i ≡ 0) → free_at ws i ≡ 0
        at i a u (yes l) taken = before i a (omega arith)
        at i a u (no l) taken = taken (omega arith) u
