-- The count of a word's set bits by its 64 digits is the count of the library.
use mathlib.Core.Path.{◌≡◌, sym, ap, ◌∙◌}
use Prim.Native.Nat.{ℕ, zero, suc, ◌+◌, ◌/◌, ◌%◌, ◌^◌, ◌<◌}
use native.Mathlib.Omega.{arith}
use lib.Arith.{lt-one}
use lib.Count.{ones, ones_in, ones_step}
use Rattle.util.specs.Word.{count}

count_in_lem : (d n : ℕ) → n < 2 ^ d → ones_in d n ≡ ones n
unfolding ones_in ones
count_in_lem zero n h = sym (ap ones (lt-one h))
count_in_lem (suc d) n h = ap (λ (x : ℕ). n % 2 + x) (count_in_lem d (n / 2) (omega arith)) ∙ sym (ones_step n)

pub count_ones : (n : ℕ) → n < 2 ^ 64 → count n ≡ ones n
unfolding count
count_ones n word = count_in_lem 64 n word
