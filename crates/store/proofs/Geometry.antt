-- The layout's laws, over the layer number: which slices are stores, where the layers stand, and that they do not meet.
use Rattle.std.proofs.Common.{◌≡◌, ℕ, zero, suc, ◌+◌, ◌-◌, ◌*◌, ◌/◌, ◌^◌, ◌<◌, ◌≤◌, true, ◌&&◌, eqb, leb, List, length, sym, refl, ap, ◌∙◌, ap₂, pow-suc, arith, eq-eqb, eqb-true, le-leb, leb-true}
use native.Mathlib.Decide.{dec_lt, le_ind}
use native.Mathlib.Nat.{sub_self, one-le-pow, add-mul-div_right, div-div-eq-div-mul}
use Rattle.util.proofs.Same.{both}
use Rattle.store.specs.Layout.{header, top, max_cap, is_cap, words, room, layer_len, span, layer_end, layer_start, store_len, cap, is_store, StoreOf}

-- ---- which slices are stores

pub is_store_lem : {N : ℕ} {s : List ℕ} → StoreOf N s → is_store s ≡ true
unfolding is_store is_cap
is_store_lem {N} {s} h =
    rw (h.names, le-leb 1 N h.some, le-leb N max_cap h.most, eq-eqb (length s) (store_len N) h.long)

pub store_is : {s : List ℕ} → is_store s ≡ true → StoreOf (cap s) s
unfolding is_store is_cap
store_is {s} e =
    let p = both (leb 1 (cap s) && leb (cap s) max_cap) (eqb (length s) (store_len (cap s))) e in
    let q = both (leb 1 (cap s)) (leb (cap s) max_cap) p.0 in
    record { some = leb-true 1 (cap s) q.0; most = leb-true (cap s) max_cap q.1; names = refl; long = eqb-true (length s) (store_len (cap s)) p.1 }

-- a store stays one while its length and word 0 stay
pub store_kept : {N : ℕ} {s t : List ℕ} → StoreOf N s → length t ≡ length s → cap t ≡ cap s → StoreOf N t
store_kept z long names = record { some = z.some; most = z.most; names = names ∙ z.names; long = long ∙ z.long }

-- ---- how many words a layer has

-- a power of 64 as one division, for every layer
pub room_closed : (N k : ℕ) → room N k ≡ (N + (64 ^ k - 1)) / 64 ^ k
unfolding room
room_closed N zero = omega arith
room_closed N (suc k) =
    let P : ℕ = 64 ^ k in
    let p : 0 < P = one-le-pow k 64 (omega arith) in
    let e : N + (P - 1) + 63 * P ≡ N + (64 ^ suc k - 1) = omega (arith, pow-suc 64 k) in
    ap words (room_closed N k)
    ∙ ap (λ (x : ℕ). x / 64) (sym (add-mul-div_right (N + (P - 1)) 63 p))
    ∙ div-div-eq-div-mul (N + (P - 1) + 63 * P) P 64
    ∙ ap₂ (λ (x y : ℕ). x / y) e (sym (pow-suc 64 k))

pub room_falls : (N k : ℕ) → 1 ≤ N → (1 ≤ room N k) × (room N k ≤ N)
unfolding room
room_falls N zero h = (h, omega arith)
room_falls N (suc k) h = omega (arith, room_falls N k h)

-- ---- where the layers stand

-- the top layer starts behind the header, and each layer ends a layer's length behind its start
pub end_top : (N : ℕ) → layer_start N (top N) ≡ header
unfolding layer_end span
end_top N = ap (λ (m : ℕ). header + span N (suc (top N)) m) (sub_self (suc (top N)))

pub end_step : (N k : ℕ) → k ≤ top N → layer_end N k ≡ layer_start N k + layer_len N k
unfolding layer_end span
end_step N k h =
    let e : suc (top N) - k ≡ suc (suc (top N) - suc k) = omega arith in
    ap (λ (m : ℕ). header + span N k m) e ∙ omega arith

pub after-header : (N k : ℕ) → header ≤ layer_end N k
unfolding layer_end
after-header N k = omega arith

-- above the top layer there is nothing
pub end_past : (N k : ℕ) → top N < k → layer_end N k ≡ header
unfolding layer_end span
end_past N k h = let e : suc (top N) - k ≡ 0 = omega arith in ap (λ (m : ℕ). header + span N k m) e

-- a layer above another ends before it: the layers are apart, and inside the store
pub end_falls : (N k : ℕ) → layer_end N (suc k) ≤ layer_end N k
end_falls N k = go (dec_lt (top N) k)
  where
    go : Dec (top N < k) → layer_end N (suc k) ≤ layer_end N k
    go (yes l) = omega (arith, end_past N k l, end_past N (suc k) (omega arith))
    go (no l) = omega (arith, end_step N k (omega arith))

pub ends_fall : (N j k : ℕ) → j ≤ k → layer_end N k ≤ layer_end N j
ends_fall N j k h = le_ind (λ (m : ℕ). layer_end N m ≤ layer_end N j) (omega arith) (λ m l ih. omega (arith, end_falls N m)) k h

apart : (N j k : ℕ) → j < k → layer_end N k ≤ layer_start N j
apart N j k h = ends_fall N (suc j) k h

pub within : (N k : ℕ) → layer_end N k ≤ store_len N
within N k = ends_fall N 0 k (omega arith)

-- one place in the store is one index of one layer
pub same_place : (N k j q r : ℕ) → k ≤ top N → j ≤ top N → q < layer_len N k → r < layer_len N j
    → layer_start N k + q ≡ layer_start N j + r → (k ≡ j) × (q ≡ r)
same_place N k j q r hk hj hq hr e = go (dec_lt k j) (dec_lt j k)
  where
    go : Dec (k < j) → Dec (j < k) → (k ≡ j) × (q ≡ r)
    go (yes l) d = absurd (omega (arith, apart N k j l, end_step N j hj))
    go (no n) (yes l) = absurd (omega (arith, apart N j k l, end_step N k hk))
    go (no n) (no m) =
        let p : k ≡ j = omega arith in
        let a : layer_start N k ≡ layer_start N j = ap (layer_start N) p in
        (p, omega arith)

-- every word behind the header is a word of a layer
pub record Spot (N x : ℕ) : Type 0 where
  pub layer : ℕ
  pub index : ℕ
  pub known : layer ≤ top N
  pub inside : index < layer_len N layer
  pub here : x ≡ layer_start N layer + index

spot_from : (N x d k : ℕ) → k + d ≡ suc (top N) → header ≤ x → x < layer_end N k → Spot N x
spot_from N x zero k e h l =
    let q : layer_end N k ≡ header = ap (layer_end N) (omega arith) ∙ end_top N in
    absurd (omega arith)
spot_from N x (suc d) k e h l = go (λ b. spot_from N x d (suc k) (omega arith) h b) (dec_lt x (layer_start N k))
  where
    go : (x < layer_start N k → Spot N x) → Dec (x < layer_start N k) → Spot N x
    go above (yes b) = above b
    go above (no b) =
        let g : k ≤ top N = omega arith in
        record { layer = k; index = x - layer_start N k; known = g; inside = omega (arith, end_step N k g); here = omega arith }

pub spot_in : (N x : ℕ) → header ≤ x → x < store_len N → Spot N x
spot_in N x h l = spot_from N x (suc (top N)) 0 (omega arith) h l
