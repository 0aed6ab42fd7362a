-- The loops over a layer's words and over the layers: each turn is one unfolding of the definition.
use mathlib.Core.Bool.{Bool, true, false, ◌&&◌, true≢false}
use mathlib.Core.List.{List, [], ◌∷◌, ◌++◌, append_assoc, append-nil}
use mathlib.Core.Path.{◌≡◌, refl, sym, ap, ap₂, ◌∙◌}
use Prim.Native.Nat.{ℕ, suc, ◌+◌, ◌-◌, ◌*◌, ◌≤◌, ◌<◌}
use native.Mathlib.Nat.{zero-add, sub-zero}
use native.Mathlib.Numerals.{add-one}
use native.Mathlib.Omega.{arith}
use borrow.Rule.Slice.PartMut.{mid_of, put_mid, Post-is, same_len_mid, mid_len}
use lib.Dec.{eqb}
use lib.ListN.{length, get_or, set, take, drop, length-drop, length-append, length-set, take-append-drop, drop_of_length-le}
use lib.Seq.{sets, sets-eq, take_at, drop_at, take-take, take-add, take-append-le, take-suc, drop-drop, drop-cons, drop-set-lt, length-take-le, get_or-take}
use Rattle.util.specs.Word.{same}
use Rattle.util.proofs.Same.{same_eq, same_refl}
use Rattle.store.specs.Build.{flags, chunks, summary, layer_of, stacked, build, layer0}
use Rattle.store.specs.Layout.{top, words, room, layer_len, layer_start, layer_end, StoreOf, end_of, start_from}
use Rattle.store.proofs.Build.{length-chunks, length_layer, drop_layer}
use Rattle.store.proofs.Ends.{end_is, start_in_lem}
use Rattle.store.proofs.Geometry.{end_top, end_step, after-header, within}
use Rattle.summary.specs.Steps.{Two, Over, Paired}

-- the 64 words below word i of the upper of two layers
apart : (up i : ℕ) (p : List ℕ) → flags (take 64 (drop (up + 64 * i) p)) ≡ flags (take 64 (drop (64 * i) (drop up p)))
apart up i p = ap (λ (l : List ℕ). flags (take 64 l)) (sym (drop-drop (64 * i) up p))

-- ---- a layer written anew: what is left to be written gives the whole

pub record Written (p₀ : List ℕ) (up : ℕ) (p : List ℕ) (i : ℕ) : Type 0 where
  pub upto : i ≤ up
  pub long : length p ≡ length p₀
  pub below : drop up p ≡ drop up p₀
  pub rest : sets p i (chunks (up - i) (drop (64 * i) (drop up p₀))) ≡ summary (drop up p₀) ++ drop up p₀

module _ {p₀ : List ℕ} {up : ℕ} (z : Two up p₀) where
  abbrev low : List ℕ
  low = drop up p₀

  up_is : up ≡ words (length low)
  up_is = z.over ∙ ap words (sym (length-drop up p₀))

  -- the words below word i begin in the part
  pub begins : (i : ℕ) → i < up → up + 64 * i < length p₀
  begins i h = omega (arith, z.fits, z.over)

  -- a part of the same length holds two such layers too
  pub two_kept : {p : List ℕ} {i : ℕ} → Written p₀ up p i → Two up p
  two_kept {p} h = let e : length p₀ ≡ length p = sym h.long in record { fits = omega (arith, z.fits); over = z.over ∙ ap (λ (n : ℕ). words (n - up)) e }

  pub written_start : Written p₀ up p₀ 0
  written_start =
      let v : length (summary low) ≡ up = length-chunks (words (length low)) low ∙ sym up_is in
      record {
        upto = omega arith;
        long = refl;
        below = refl;
        rest = ap (λ (m : ℕ). sets p₀ 0 (chunks m low)) (sub-zero up ∙ up_is)
            ∙ sets-eq (summary low) p₀ 0 (omega (arith, v, z.fits))
            ∙ ap (λ (m : ℕ). summary low ++ drop m p₀) (zero-add (length (summary low)) ∙ v);
      }

  pub written_turn : {p : List ℕ} {i : ℕ} → Written p₀ up p i → i < up → (w : ℕ)
      → w ≡ flags (take 64 (drop (up + 64 * i) p)) → Written p₀ up (set p i w) (suc i)
  unfolding chunks
  written_turn {p} {i} h l w w-is =
      let e : up - i ≡ suc (up - suc i) = omega arith in
      let f : 64 * i + 64 ≡ 64 * suc i = omega arith in
      let v : w ≡ flags (take 64 (drop (64 * i) low)) = w-is ∙ apart up i p ∙ ap (λ (x : List ℕ). flags (take 64 (drop (64 * i) x))) h.below in
      record {
        upto = l;
        long = length-set p i w ∙ h.long;
        below = drop-set-lt up p i w l ∙ h.below;
        rest = ap₂ (λ (x : ℕ) (t : List ℕ). sets (set p i x) (suc i) (chunks (up - suc i) t)) v
            (sym (drop-drop 64 (64 * i) low ∙ ap (λ (m : ℕ). drop m low) f))
            ∙ sym (ap (λ (m : ℕ). sets p i (chunks m (drop (64 * i) low))) e) ∙ h.rest;
      }

  pub written_end : {p : List ℕ} {i : ℕ} → Written p₀ up p i → up ≤ i → p ≡ summary low ++ low
  unfolding chunks
  written_end {p} {i} h l = let e : up - i ≡ 0 = omega arith in sym (ap (λ (m : ℕ). sets p i (chunks m (drop (64 * i) low))) e) ∙ h.rest

-- ---- a layer compared: what is left to be compared answers for the whole

abbrev pub sound_ahead : ℕ → List ℕ → ℕ → Bool
sound_ahead up p i = same (drop i (take up p)) (chunks (up - i) (drop (64 * i) (drop up p)))

module _ {p : List ℕ} {up : ℕ} (z : Two up p) where
  abbrev upper : List ℕ
  upper = take up p

  long_upper : length upper ≡ up
  long_upper = length-take-le up p z.fits

  pub ahead_start : sound_ahead up p 0 ≡ same (take up p) (summary (drop up p))
  ahead_start = ap (λ (m : ℕ). same upper (chunks m (drop up p))) (sub-zero up ∙ up_is z)

  pub ahead_turn : (i w : ℕ) → i < up → w ≡ flags (take 64 (drop (up + 64 * i) p))
      → sound_ahead up p i ≡ (eqb (get_or p i 0) w && sound_ahead up p (suc i))
  unfolding chunks same
  ahead_turn i w h w-is =
      let e : up - i ≡ suc (up - suc i) = omega arith in
      let f : 64 * i + 64 ≡ 64 * suc i = omega arith in
      ap₂ (λ (x : List ℕ) (m : ℕ). same x (chunks m (drop (64 * i) (drop up p))))
      (drop-cons upper i 0 (omega (arith, long_upper)) ∙ ap (λ (x : ℕ). x ∷ drop (suc i) upper) (get_or-take up p i 0 h)) e
      ∙ ap₂ (λ (x : ℕ) (t : List ℕ). eqb (get_or p i 0) x && same (drop (suc i) upper) (chunks (up - suc i) t)) (sym (w-is ∙ apart up i p))
      (drop-drop 64 (64 * i) (drop up p) ∙ ap (λ (m : ℕ). drop m (drop up p)) f)

  pub ahead_end : (i : ℕ) → up ≤ i → sound_ahead up p i ≡ true
  unfolding chunks same
  ahead_end i h =
      let e : up - i ≡ 0 = omega arith in
      let l : length upper ≤ i = omega (arith, long_upper) in
      ap₂ (λ (x : List ℕ) (m : ℕ). same x (chunks m (drop (64 * i) (drop up p)))) (drop_of_length-le upper l) e

-- ---- the layers, from layer 1 up

-- the layers up to k are those that layer 0 of s₀ asks, and what stands before them is as it was
pub record Raised (N : ℕ) (s₀ s : List ℕ) (k : ℕ) : Type 0 where
  pub upto : k ≤ top N
  pub long : length s ≡ length s₀
  pub so_far : s ≡ take (layer_start N k) s₀ ++ stacked (suc k) (layer0 N s₀)

-- where the code finds the layer over layer k
pub paired : {len N k : ℕ} → Over len N k → {a m e : ℕ} → a ≡ start_from len N (k + 1) → m ≡ start_from len N k → e ≡ end_of N k → (a ≤ m) × Paired N k a (m - a) e
paired {len} {N} {k} o {a} {m} {e} a_is m-is e_is =
    let start : a ≡ layer_start N (suc k) = a_is ∙ ap (start_from len N) (add-one k) ∙ start_in_lem o.some o.most o.long (suc k) in
    let middle : m ≡ layer_start N k = m-is ∙ start_in_lem o.some o.most o.long k in
    let ends : e ≡ layer_end N k = e_is ∙ end_is N k o.some o.most in
    let x = end_step N (suc k) o.above in
    let y = end_step N k (omega (arith, o.above)) in (
      omega (arith, start, middle, x),
      record {
        start = start;
        upper = omega (arith, start, middle, x);
        lower = omega (arith, start, middle, x);
        ends = ends;
        size = omega (arith, start, middle, ends, x, y);
        inside = omega (arith, ends, within N k);
      },
    )

module _ {N : ℕ} {s₀ : List ℕ} (z : StoreOf N s₀) where
  abbrev ws : List ℕ
  ws = layer0 N s₀

  long_ws : length ws ≡ layer_len N 0
  long_ws = length-drop (layer_start N 0) s₀ ∙ omega (arith, z.long, end_step N 0 (omega arith))

  long_layer : (k : ℕ) → length (layer_of k ws) ≡ layer_len N k
  long_layer = length_layer N ws long_ws

  pub raised_start : Raised N s₀ s₀ 0
  unfolding stacked layer_of
  raised_start =
      record {
        upto = omega arith;
        long = refl;
        so_far = sym (ap (λ (x : List ℕ). take (layer_start N 0) s₀ ++ x) (append-nil ws) ∙ take-append-drop (layer_start N 0) s₀);
      }

  pub raised_end : {s : List ℕ} {k : ℕ} → Raised N s₀ s k → top N ≤ k → s ≡ build N (layer0 N s₀)
  unfolding build
  raised_end {s} {k} h g =
      let q : k ≡ top N = omega (arith, h.upto) in
      h.so_far
      ∙ ap (λ (j : ℕ). take (layer_start N j) s₀ ++ stacked (suc j) ws) q
      ∙ ap (λ (x : List ℕ). x ++ stacked (suc (top N)) ws)
      (ap (λ (j : ℕ). take j s₀) (end_top N) ∙ take-suc s₀ 0 0 (omega (arith, z.long, end_step N 0 (omega arith), some)) ∙ ap (λ (c : ℕ). c ∷ []) z.names)
    where
      some : 1 ≤ layer_end N 0
      some = omega (arith, after-header N 0)

  -- the next layer may be looked for
  pub over : {s : List ℕ} {k : ℕ} → Raised N s₀ s k → k < top N → Over (length s) N k
  over h g = record { some = z.some; most = z.most; long = h.long ∙ z.long; above = g }

  module _ {s : List ℕ} {k a up e : ℕ} (h : Raised N s₀ s k) (p : Paired N k a up e) where
    abbrev m : ℕ
    m = a + up

    -- the two layers lie in the store
    pub within_store : e ≤ length s
    within_store = omega (arith, p.inside, h.long, z.long)

    -- the lower layer and what stands behind it
    from_lower : drop m s ≡ layer_of k ws ++ stacked k ws
    unfolding stacked
    from_lower =
        ap (drop m) h.so_far
        ∙ drop_at (take (layer_start N k) s₀) (stacked (suc k) ws) m
        (length-take-le (layer_start N k) s₀ (omega (arith, p.lower, p.size, p.inside, z.long)) ∙ sym p.lower)

    lower_is : mid_of m (e - m) s ≡ layer_of k ws
    lower_is = ap (take (e - m)) from_lower ∙ take_at (layer_of k ws) (stacked k ws) (e - m) (long_layer k ∙ omega (arith, p.size))

    behind : drop e s ≡ stacked k ws
    behind =
        let x : e ≡ m + (e - m) = omega (arith, p.size) in
        ap (λ (j : ℕ). drop j s) x ∙ sym (drop-drop (e - m) m s) ∙ ap (drop (e - m)) from_lower
        ∙ drop_at (layer_of k ws) (stacked k ws) (e - m) (long_layer k ∙ omega (arith, p.size))

    before : take a s ≡ take a s₀
    before =
        ap (take a) h.so_far
        ∙ take-append-le a (take (layer_start N k) s₀) (stacked (suc k) ws)
        (omega (arith, p.lower, length-take-le (layer_start N k) s₀ (omega (arith, p.lower, p.size, p.inside, z.long))))
        ∙ take-take a (layer_start N k) s₀ (omega (arith, p.lower))

    -- with the upper layer right, one layer more is
    raised_by : (t : List ℕ) → length t ≡ length s₀ → t ≡ take a s ++ (layer_of (suc k) ws ++ drop m s) → k < top N → Raised N s₀ t (suc k)
    unfolding stacked
    raised_by t long is g =
        record {
          upto = g;
          long = long;
          so_far = is ∙ ap₂ (λ (x y : List ℕ). x ++ (layer_of (suc k) ws ++ y)) (before ∙ ap (λ (j : ℕ). take j s₀) p.start) from_lower;
        }

    -- the two layers are lent as one part
    part_low : drop up (mid_of a (e - a) s) ≡ layer_of k ws
    part_low =
        let x : e - a ≡ up + (e - m) = omega (arith, p.size) in
        let f : up ≤ length (drop a s) = omega (arith, length-drop a s, within_store, p.size) in
        ap (λ (n : ℕ). drop up (take n (drop a s))) x
        ∙ ap (drop up) (take-add up (e - m) (drop a s))
        ∙ drop_at (take up (drop a s)) (take (e - m) (drop up (drop a s))) up (length-take-le up (drop a s) f)
        ∙ ap (take (e - m)) (drop-drop up a s)
        ∙ lower_is

    pub two_layers : Two up (mid_of a (e - a) s)
    unfolding room
    two_layers =
        let n = mid_len a e s within_store in
        let x : length (mid_of a (e - a) s) - up ≡ layer_len N k = omega (arith, n, p.size) in
        record { fits = omega (arith, n, p.size); over = p.upper ∙ ap words (sym x) }

    -- the upper layer written anew
    pub raised_turn : k < top N → (ys : List ℕ) → ys ≡ summary (drop up (mid_of a (e - a) s)) ++ drop up (mid_of a (e - a) s)
        → Raised N s₀ (put_mid a (e - a) s ys) (suc k)
    unfolding layer_of
    raised_turn g ys q =
        let y : ys ≡ layer_of (suc k) ws ++ layer_of k ws = q ∙ ap (λ (x : List ℕ). summary x ++ x) part_low in
        let n : length ys ≡ length (mid_of a (e - a) s) =
        ap length y ∙ length-append (layer_of (suc k) ws) (layer_of k ws)
        ∙ omega (arith, long_layer (suc k), long_layer k, mid_len a e s within_store, p.upper, p.size) in
        raised_by (put_mid a (e - a) s ys) (same_len_mid a (e - a) s ys n ∙ h.long)
        (ap₂ (λ (x r : List ℕ). take a s ++ (x ++ r)) y (Post-is a e s (omega (arith, p.size)) ∙ behind)
        ∙ ap (λ (x : List ℕ). take a s ++ x)
        (append_assoc (layer_of (suc k) ws) (layer_of k ws) (stacked k ws) ∙ ap (λ (x : List ℕ). layer_of (suc k) ws ++ x) (sym from_lower))) g

    -- the upper layer compared with what the lower asks
    upper_is : take up (mid_of a (e - a) s) ≡ mid_of a up s
    upper_is = take-take up (e - a) (drop a s) (omega (arith, p.size))

    pub right_turn : k < top N → same (take up (mid_of a (e - a) s)) (summary (drop up (mid_of a (e - a) s))) ≡ true → Raised N s₀ s (suc k)
    unfolding layer_of
    right_turn g b =
        let x : mid_of a up s ≡ layer_of (suc k) ws =
        sym upper_is ∙ same_eq (take up (mid_of a (e - a) s)) (summary (drop up (mid_of a (e - a) s))) b ∙ ap (λ (x : List ℕ). summary x) part_low in
        raised_by s h.long
        (sym (take-append-drop a s)
        ∙ ap (λ (t : List ℕ). take a s ++ t)
        (sym (take-append-drop up (drop a s)) ∙ ap₂ (λ (u v : List ℕ). u ++ v) x (drop-drop up a s))) g

-- a layer that is not as the one below it asks: the store is not the one that its layer 0 makes
pub wrong_turn : {N : ℕ} {s : List ℕ} {k a up e : ℕ} (z : StoreOf N s) → Raised N s s k → Paired N k a up e → k < top N
    → same (take up (mid_of a (e - a) s)) (summary (drop up (mid_of a (e - a) s))) ≡ false → same s (build N (layer0 N s)) ≡ false
unfolding stacked layer_of
wrong_turn {N} {s} {k} {a} {up} {e} z h p g b = go (same s (build N (layer0 N s))) refl
  where
    go : (r : Bool) → same s (build N (layer0 N s)) ≡ r → same s (build N (layer0 N s)) ≡ false
    go false q = q
    go true q =
        let ws = layer0 N s in
        let x : take up (mid_of a (e - a) s) ≡ layer_of (suc k) ws =
        upper_is z h p
        ∙ ap (λ (t : List ℕ). mid_of a up t) (same_eq s (build N ws) q)
        ∙ ap (λ (n : ℕ). take up (drop n (build N ws))) p.start
        ∙ ap (take up) (drop_layer N ws (long_ws z) (suc k) g)
        ∙ take_at (layer_of (suc k) ws) (stacked (suc k) ws) up (long_layer z (suc k) ∙ sym p.upper) in
        let y = same_refl (layer_of (suc k) ws) in
        absurd (true≢false (sym y ∙ sym (ap₂ same x (ap (λ (t : List ℕ). summary t) (part_low z h p))) ∙ b))
