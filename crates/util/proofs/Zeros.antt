-- A turn and the end of a loop that zeroes a slice.
use mathlib.Core.List.{List}
use mathlib.Core.Path.{◌≡◌, sym, ap, ◌∙◌}
use Prim.Native.Nat.{ℕ, ◌+◌, ◌<◌}
use native.Mathlib.Decide.{ℕ_discrete}
use native.Mathlib.Omega.{arith}
use lib.ListN.{length, get_or, set, replicate, length-replicate, get_or-replicate}
use lib.Seq.{get_or-set_same, get_or-set_other, ext_get_or}

-- the first i numbers are 0
abbrev pub Zeros : List ℕ → ℕ → Type 0
Zeros l i = (j : ℕ) → j < i → get_or l j 0 ≡ 0

pub zeros-more : (l : List ℕ) (i : ℕ) → i < length l → Zeros l i → Zeros (set l i 0) (i + 1)
zeros-more l i h z j u = go (ℕ_discrete j i)
  where
    go : Dec (j ≡ i) → get_or (set l i 0) j 0 ≡ 0
    go (yes e) = ap (λ (x : ℕ). get_or (set l i 0) x 0) e ∙ get_or-set_same l i 0 0 h
    go (no n) = get_or-set_other l i j 0 0 n ∙ z j (omega arith)

pub zeros-all : (l : List ℕ) (n : ℕ) → length l ≡ n → Zeros l n → l ≡ replicate n 0
zeros-all l n h z = ext_get_or 0 l (replicate n 0) (h ∙ sym (length-replicate n 0)) (λ j u. z j (omega arith) ∙ sym (get_or-replicate n j 0 0 (omega arith)))
