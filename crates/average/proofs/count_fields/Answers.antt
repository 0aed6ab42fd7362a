-- `average::count_fields` meets its contract: each sum stays in a word, since it is of masked words, and each level is the counts of
-- fields twice as wide.
use mathlib.Core.Path.{◌≡◌, sym, ap, ◌∙◌}
use Prim.Native.Nat.{ℕ, ◌+◌, ◌-◌, ◌/◌, ◌^◌, ◌<◌}
use lib.Bits.{bit_and}
use lib.Dec.{lit<}
use Rattle.average.specs.Search.{tally}
use Rattle.average.proofs.Tally.{lower, twice, by_minus, by_masks, by_one_mask, tally-bits, minus_widens, masks_widen, mask_widens}
use Rattle.average.proofs.count_fields.Goals as goal

abbrev A : ℕ → ℕ
A n = n - bit_and (n / 2) 0x5555_5555_5555_5555

abbrev B : ℕ → ℕ
B n = bit_and (A n) 0x3333_3333_3333_3333 + bit_and (A n / 4) 0x3333_3333_3333_3333

abbrev C : ℕ → ℕ
C n = bit_and (B n + B n / 16) 0x0f0f_0f0f_0f0f_0f0f

abbrev D : ℕ → ℕ
D n = bit_and (C n + C n / 256) 0x00ff_00ff_00ff_00ff

abbrev E : ℕ → ℕ
E n = bit_and (D n + D n / 65536) 0x0000_ffff_0000_ffff

module _ (n : ℕ) (word : n < 2 ^ 64) where
  a_is : A n ≡ tally 2 32 n
  unfolding lower twice
  a_is = ap (by_minus 32) (sym (tally-bits 64 n word)) ∙ minus_widens 32 n

  b_is : B n ≡ tally 4 16 n
  unfolding lower twice
  b_is = ap (by_masks 2 16) a_is ∙ masks_widen 2 16 n

  c_is : C n ≡ tally 8 8 n
  unfolding lower twice
  c_is = ap (by_one_mask 4 8) b_is ∙ mask_widens 4 (lit< tt) 8 n

  d_is : D n ≡ tally 16 4 n
  unfolding lower twice
  d_is = ap (by_one_mask 8 4) c_is ∙ mask_widens 8 (lit< tt) 4 n

  e_is : E n ≡ tally 32 2 n
  unfolding lower twice
  e_is = ap (by_one_mask 16 2) d_is ∙ mask_widens 16 (lit< tt) 2 n

pub returns : goal.returns
returns c =
    let n = c.args.n in
    let h : n < 2 ^ 64 = c.ranges.n.fits in
    record { a_is = a_is n h; b_is = b_is n h; c_is = c_is n h; d_is = d_is n h; e_is = e_is n h }
