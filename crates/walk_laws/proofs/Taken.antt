-- What a step leaves in each layer of a cursor, and what a walk starts from.
use mathlib.Core.List.{List}
use mathlib.Core.Logic.{◌≢◌}
use mathlib.Core.Path.{◌≡◌, refl, sym, ap, ◌∙◌, subst}
use Prim.Native.Nat.{ℕ, zero, suc, ◌-◌, ◌*◌, ◌%◌, ◌^◌, ◌<◌}
use native.Mathlib.Decide.{ℕ_discrete}
use native.Mathlib.Nat.{one-le-pow}
use native.Mathlib.Omega.{arith}
use lib.ListN.{length, get_or, set, length-set, replicate, length-replicate}
use lib.Seq.{get_or-set_same, get_or-set_other}
use Rattle.util.proofs.Places.{lowest}
use Rattle.walk.specs.Calls.{Fine}
use Rattle.walk.specs.Walk.{first_bit, prefix_at, cleared, less, handed, taken, start_at}
use Rattle.walk.specs.declared.Cursor.{Cursor}
use Rattle.walk.proofs.Cursors.{prefix_below, prefix_same}
pub use Rattle.walk_laws.specs.Rest.{Wf}

-- the lowest bit of a mask is one of 64
pub bit_in : {t : ℕ} {c : Cursor} → Wf t c → (k : ℕ) → 0 < get_or c.masks k 0 → first_bit c k < 64
bit_in {c = c} wf k pos = (lowest (get_or c.masks k 0) (wf.words k) pos).inside

-- words stay words where one is written
words-set : (l : List ℕ) (i v : ℕ) → i < length l → v < 2 ^ 64 → ((k : ℕ) → get_or l k 0 < 2 ^ 64) → (k : ℕ) → get_or (set l i v) k 0 < 2 ^ 64
words-set l i v n h g k = go (ℕ_discrete k i)
  where
    go : Dec (k ≡ i) → get_or (set l i v) k 0 < 2 ^ 64
    go (yes e) = subst (λ (x : ℕ). x < 2 ^ 64) (sym (ap (λ (x : ℕ). get_or (set l i v) x 0) e ∙ get_or-set_same l i v 0 n)) h
    go (no e) = subst (λ (x : ℕ). x < 2 ^ 64) (sym (get_or-set_other l i k v 0 e)) (g k)

-- what taking a bit of layer j + 1 leaves in each layer
module _ (t : ℕ) (c : Cursor) (j q w : ℕ) (wf : Wf t c) (h : j < t) where
  length-less : length (less c (suc j)) ≡ length c.masks
  unfolding less
  length-less = length-set c.masks (suc j) (cleared c (suc j))

  pub taken_mask : get_or (taken c j q w).masks j 0 ≡ w
  unfolding taken
  taken_mask = get_or-set_same (less c (suc j)) j w 0 (omega (arith, length-less, wf.masked))

  pub taken_prefix : prefix_at t (taken c j q w).prefix j ≡ q * 64
  unfolding taken
  taken_prefix = prefix_below t (taken c j q w).prefix j h ∙ get_or-set_same c.prefix j (q * 64) 0 (omega (arith, wf.prefixed))

  pub taken_mask_up : get_or (taken c j q w).masks (suc j) 0 ≡ cleared c (suc j)
  unfolding taken less
  taken_mask_up = get_or-set_other (less c (suc j)) j (suc j) w 0 (omega arith) ∙ get_or-set_same c.masks (suc j) (cleared c (suc j)) 0 (omega (arith, wf.masked))

  pub taken_mask_else : (k : ℕ) → k ≢ j → k ≢ suc j → get_or (taken c j q w).masks k 0 ≡ get_or c.masks k 0
  unfolding taken less
  taken_mask_else k a b = get_or-set_other (less c (suc j)) j k w 0 a ∙ get_or-set_other c.masks (suc j) k (cleared c (suc j)) 0 b

  pub taken_prefix_else : (k : ℕ) → k ≢ j → prefix_at t (taken c j q w).prefix k ≡ prefix_at t c.prefix k
  unfolding taken
  taken_prefix_else k a = prefix_same t c.prefix (taken c j q w).prefix k (get_or-set_other c.prefix j k (q * 64) 0 a)

  pub taken_wf : w < 2 ^ 64 → Wf t (taken c j q w)
  unfolding taken less
  taken_wf b = record {
    masked = omega (arith, length-set (less c (suc j)) j w, length-less, wf.masked);
    prefixed = omega (arith, length-set c.prefix j (q * 64), wf.prefixed);
    words = words-set (less c (suc j)) j w (omega (arith, length-less, wf.masked)) b
        (words-set c.masks (suc j) (cleared c (suc j)) (omega (arith, wf.masked)) (omega (arith, wf.words (suc j))) wf.words);
  }

pub handed_wf : (t : ℕ) (c : Cursor) → Wf t c → Wf t (handed c)
unfolding handed less
handed_wf t c wf = record {
  masked = omega (arith, length-set c.masks 0 (cleared c 0), wf.masked);
  prefixed = wf.prefixed;
  words = words-set c.masks 0 (cleared c 0) (omega (arith, wf.masked)) (omega (arith, wf.words 0)) wf.words;
}

-- ---- from the start

zeros_at : (n k : ℕ) → get_or {A = ℕ} (replicate n 0) k 0 ≡ 0
zeros_at zero k = refl
zeros_at (suc n) zero = refl
zeros_at (suc n) (suc k) = zeros_at n k

pub start_wf : (t w : ℕ) → w < 2 ^ 64 → Wf t (start_at t w)
start_wf t w h = record {
  masked = omega (arith, length-set (replicate (suc t) 0) t w, length-replicate {A = ℕ} (suc t) 0);
  prefixed = omega (arith, length-replicate {A = ℕ} t 0);
  words = words-set (replicate (suc t) 0) t w (omega (arith, length-replicate {A = ℕ} (suc t) 0)) h (λ k. omega (arith, zeros_at (suc t) k));
}

pub start_fine : (t w : ℕ) → Fine t (start_at t w).prefix
start_fine t w k h = subst (λ (x : ℕ). (x % 64 ≡ 0) × (x < 64 ^ (suc t - k))) (sym (zeros_at t k)) (refl, one-le-pow (suc t - k) 64 (omega arith))

pub start_mask : (t w : ℕ) → get_or (start_at t w).masks t 0 ≡ w
start_mask t w = get_or-set_same (replicate (suc t) 0) t w 0 (omega (arith, length-replicate {A = ℕ} (suc t) 0))

pub start_below : (t w k : ℕ) → k < t → get_or (start_at t w).masks k 0 ≡ 0
start_below t w k h = get_or-set_other (replicate (suc t) 0) t k w 0 (omega arith) ∙ zeros_at (suc t) k
