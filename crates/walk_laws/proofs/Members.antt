-- Where a clear summary bit stands over a word that is 0, the ids below the top word are those whose layer-0 bit is set, ascending: on a
-- sound store its members. By induction on the layer number.
use mathlib.Core.List.Memᴰ
use mathlib.Core.List.{List, [], ◌∷◌, ◌++◌, append-nil, Memᴰ}
use mathlib.Core.Logic.{⊎_elim}
use mathlib.Core.Path.{◌≡◌, refl, sym, ap, ap₂, ◌∙◌, fun_ext}
use Prim.Native.Nat.{ℕ, zero, suc, ◌+◌, ◌-◌, ◌*◌, ◌/◌, ◌%◌, ◌^◌, ◌≤◌, ◌<◌}
use native.Mathlib.Decide.{ℕ_discrete}
use native.Mathlib.Nat.{pow-suc, mul_comm, mul_assoc, add-mul, suc-mul, add_assoc, add_comm, zero-mul, add-zero}
use native.Mathlib.Omega.{arith}
use lib.ListN.{length, length-append}
use Rattle.util.specs.Word.{bit, keep, places, bits}
use Rattle.util.proofs.Bits.{bit_lt, bit_of_zero}
use Rattle.util.proofs.Places.{some_bit, places_none, places-append, in_places, bits_zero}
use Rattle.store.specs.Word.{anc}
use Rattle.walk_laws.specs.Under.{gathered, under, all_ids}
use Rattle.walk_laws.specs.Walks.{Bounded, on_at, Clear, Full}

-- f at each of the n numbers from b on, joined
unfoldable all_of : (ℕ → List ℕ) → ℕ → ℕ → List ℕ
all_of f b zero = []
all_of f b (suc n) = f b ++ all_of f (suc b) n

-- joining over the places of g is joining over all, where f is empty at the others
joined-all : (f : ℕ → List ℕ) (g : ℕ → ℕ) (b n : ℕ) → ((i : ℕ) → b ≤ i → i < b + n → g i ≡ 0 → f i ≡ []) → gathered f (places g b n) ≡ all_of f b n
unfolding gathered places all_of
joined-all f g b zero z = refl
joined-all f g b (suc n) z = go (g b) refl (joined-all f g (suc b) n (λ i l u e. z i (omega arith) (omega arith) e))
  where
    go : (d : ℕ) → g b ≡ d → gathered f (places g (suc b) n) ≡ all_of f (suc b) n → gathered f (keep d b (places g (suc b) n)) ≡ f b ++ all_of f (suc b) n
    go zero e ih = ih ∙ ap (λ (x : List ℕ). x ++ all_of f (suc b) n) (sym (z b (omega arith) (omega arith) e))
    go (suc d) e ih = ap (λ (x : List ℕ). f b ++ x) ih

-- the ids of one word: its places, moved by where it stands
joined_moved : (g h : ℕ → ℕ) (base b n : ℕ) → ((i : ℕ) → b ≤ i → i < b + n → h (base + i) ≡ g i) → gathered (λ x. (base + x) ∷ []) (places g b n) ≡ places h (base + b) n
unfolding gathered places
joined_moved g h base b zero z = refl
joined_moved g h base b (suc n) z =
    let s : base + suc b ≡ suc (base + b) = omega arith in
    go (g b) (z b (omega arith) (omega arith)) (joined_moved g h base (suc b) n (λ i l u. z i (omega arith) (omega arith)) ∙ ap (λ (x : ℕ). places h x n) s)
  where
    go : (d : ℕ) → h (base + b) ≡ d → gathered (λ x. (base + x) ∷ []) (places g (suc b) n) ≡ places h (suc (base + b)) n
        → gathered (λ x. (base + x) ∷ []) (keep d b (places g (suc b) n)) ≡ keep (h (base + b)) (base + b) (places h (suc (base + b)) n)
    go zero e ih = ih ∙ ap (λ (x : ℕ). keep x (base + b) (places h (suc (base + b)) n)) (sym e)
    go (suc d) e ih = ap (λ (x : List ℕ). (base + b) ∷ x) ih ∙ ap (λ (x : ℕ). keep x (base + b) (places h (suc (base + b)) n)) (sym e)

-- blocks of n numbers, one after another
all-places : (g : ℕ → ℕ) (base n b w : ℕ) → all_of (λ x. places g (base + x * n) n) b w ≡ places g (base + b * n) (w * n)
unfolding all_of
all-places g base n b zero = sym (ap (places g (base + b * n)) (zero-mul n) ∙ places_none g (base + b * n) 0 (λ i l u. absurd (omega arith)))
all-places g base n b (suc w) =
    let e : base + suc b * n ≡ (base + b * n) + n = ap (λ (x : ℕ). base + x) (suc-mul b n) ∙ sym (add_assoc base (b * n) n) in
    ap (λ (x : List ℕ). places g (base + b * n) n ++ x) (all-places g base n (suc b) w ∙ ap (λ (x : ℕ). places g x (w * n)) e)
    ∙ sym (places-append g (base + b * n) n (w * n))
    ∙ ap (places g (base + b * n)) (add_comm n (w * n) ∙ sym (suc-mul w n))

none_long : (l : List ℕ) → length l ≡ 0 → l ≡ []
none_long [] e = refl
none_long (a ∷ l) e = absurd (omega arith)

-- where all of them joined are nothing, each is
joined_none : (f : ℕ → List ℕ) (l : List ℕ) (b : ℕ) → gathered f l ≡ [] → Memᴰ b l → f b ≡ []
unfolding gathered
joined_none f [] b e m = absurd (Memᴰ.not-nil m)
joined_none f (a ∷ l) b e m =
    let n : length (f a) + length (gathered f l) ≡ 0 = sym (length-append (f a) (gathered f l)) ∙ ap length e in
    ⊎_elim (λ (q : b ≡ a). ap f q ∙ none_long (f a) (omega (arith, n))) (λ q. joined_none f l b (none_long (gathered f l) (omega (arith, n))) q) (Memᴰ.cases_cons m)

module _ (lw : ℕ → ℕ → ℕ) where
  pub bit_at_place : (k p i : ℕ) → i < 64 → on_at lw k (p * 64 + i) ≡ bit (lw k p) i
  unfolding on_at
  bit_at_place k p i h =
      let d : (p * 64 + i) / 64 ≡ p = omega arith in
      let m : (p * 64 + i) % 64 ≡ i = omega arith in
      ap₂ (λ (x y : ℕ). bit (lw k x) y) d m

  pub under-empty : (k q : ℕ) → lw k q ≡ 0 → under lw (suc k) q ≡ []
  unfolding under gathered
  under-empty k q e = ap (λ (x : ℕ). gathered (λ b. under lw k (q * 64 + b)) (bits x)) e ∙ ap (gathered (λ b. under lw k (q * 64 + b))) bits_zero

  -- where a summary bit that is off stands over a word that is 0, the bits over one of layer 0 that is on are on
  pub summary_over : (t : ℕ) → Clear lw t → (i : ℕ) → on_at lw 0 i ≡ 1 → (k : ℕ) → k ≤ t → on_at lw k (anc i k) ≡ 1
  unfolding anc on_at
  summary_over t clear i e zero h = e
  summary_over t clear i e (suc k) h =
      go (summary_over t clear i e k (omega arith)) (ℕ_discrete (bit (lw (suc k) (anc i k / 64 / 64)) (anc i k / 64 % 64)) 0)
    where
      go : bit (lw k (anc i k / 64)) (anc i k % 64) ≡ 1 → Dec (bit (lw (suc k) (anc i k / 64 / 64)) (anc i k / 64 % 64) ≡ 0)
          → bit (lw (suc k) (anc i k / 64 / 64)) (anc i k / 64 % 64) ≡ 1
      go o (yes z) = absurd (omega (arith, sym o ∙ ap (λ (w : ℕ). bit w (anc i k % 64)) (clear k (anc i k / 64) h z) ∙ bit_of_zero (anc i k % 64)))
      go o (no n) = omega (arith, n, bit_lt (lw (suc k) (anc i k / 64 / 64)) (anc i k / 64 % 64))

  -- a word that has no bit on is 0
  none_by : (k p : ℕ) → lw k p < 2 ^ 64 → ((b : ℕ) → b < 64 → bit (lw k p) b ≡ 1 → ⊥) → lw k p ≡ 0
  none_by k p small off = go (ℕ_discrete (lw k p) 0)
    where
      go : Dec (lw k p ≡ 0) → lw k p ≡ 0
      go (yes e) = e
      go (no n) = let s = some_bit (lw k p) small n in absurd (off s.0 s.1 s.2)

  no_id : (q : ℕ) → under lw 0 q ≡ [] → ⊥
  unfolding under
  no_id q e = omega (arith, ap length e)

  -- where every summary bit that is on stands over a word that is not 0, there is an id below every word that is not
  nothing_below : (k p b : ℕ) → b < 64 → bit (lw k p) b ≡ 1 → under lw (suc k) p ≡ [] → under lw k (p * 64 + b) ≡ []
  unfolding under bits
  nothing_below k p b h o e =
      joined_none (λ x. under lw k (p * 64 + x)) (bits (lw k p)) b e (in_places (bit (lw k p)) 0 64 b (omega arith) (omega arith) (λ z. omega (arith, o, z)))

  pub under_none : (t : ℕ) → Bounded lw → Full lw t → (k : ℕ) → k ≤ t → (p : ℕ) → under lw (suc k) p ≡ [] → lw k p ≡ 0
  under_none t bounded full zero h p e = none_by 0 p (bounded 0 p) (λ b l o. no_id (p * 64 + b) (nothing_below 0 p b l o e))
  under_none t bounded full (suc k) h p e =
      none_by (suc k) p (bounded (suc k) p)
      (λ b l o. let z = under_none t bounded full k (omega arith) (p * 64 + b) (nothing_below (suc k) p b l o e) in
      omega (arith, z, full k (p * 64 + b) h (bit_at_place (suc k) p b l ∙ o)))

  -- the ids below place p of layer k + 1 are those of its 64 ^ (k + 1) whose layer-0 bit is set
  under-places : (t : ℕ) → Clear lw t → (k : ℕ) → k ≤ t → (p : ℕ) → under lw (suc k) p ≡ places (on_at lw 0) (p * 64 ^ suc k) (64 ^ suc k)
  unfolding under bits
  under-places t clear zero h p =
      joined_moved (bit (lw 0 p)) (on_at lw 0) (p * 64) 0 64 (λ i l u. bit_at_place 0 p i (omega arith))
      ∙ ap (λ (x : ℕ). places (on_at lw 0) x 64) (add-zero (p * 64))
  under-places t clear (suc k) h p =
      let n = 64 ^ suc k in
      joined-all (λ b. under lw (suc k) (p * 64 + b)) (bit (lw (suc k) p)) 0 64
      (λ i l u e. under-empty k (p * 64 + i) (clear k (p * 64 + i) h (bit_at_place (suc k) p i (omega arith) ∙ e)))
      ∙ ap (λ (f : ℕ → List ℕ). all_of f 0 64) (fun_ext (λ b. under-places t clear k (omega arith) (p * 64 + b)
      ∙ ap (λ (x : ℕ). places (on_at lw 0) x n) (add-mul (p * 64) b n)))
      ∙ all-places (on_at lw 0) (p * 64 * n) n 0 64
      ∙ ap₂ (places (on_at lw 0)) (ap (λ (x : ℕ). p * 64 * n + x) (zero-mul n) ∙ add-zero (p * 64 * n) ∙ mul_assoc p 64 n ∙ ap (λ (x : ℕ). p * x) size) size
    where
      size : 64 * 64 ^ suc k ≡ 64 ^ suc (suc k)
      size = mul_comm 64 (64 ^ suc k) ∙ sym (pow-suc 64 (suc k))

  -- THE IDS of a walk
  pub ids_are : (t : ℕ) → Clear lw t → all_ids lw t ≡ places (on_at lw 0) 0 (64 ^ suc t)
  ids_are t clear = under-places t clear t (omega arith) 0 ∙ ap (λ (x : ℕ). places (on_at lw 0) x (64 ^ suc t)) (zero-mul (64 ^ suc t))

  -- where no bit of layer 0 is on at or past N, those below N
  pub ids_below : (t N : ℕ) → Clear lw t → N ≤ 64 ^ suc t → ((i : ℕ) → N ≤ i → on_at lw 0 i ≡ 0) → all_ids lw t ≡ places (on_at lw 0) 0 N
  ids_below t N clear most past =
      let n = 64 ^ suc t - N in
      let e : 64 ^ suc t ≡ N + n = omega arith in
      ids_are t clear
      ∙ ap (places (on_at lw 0) 0) e
      ∙ places-append (on_at lw 0) 0 N n
      ∙ ap (λ (x : List ℕ). places (on_at lw 0) 0 N ++ x) (places_none (on_at lw 0) (0 + N) n (λ i l u. past i (omega arith)))
      ∙ append-nil (places (on_at lw 0) 0 N)
