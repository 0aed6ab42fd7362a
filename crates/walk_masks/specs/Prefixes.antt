-- Which prefixes a walk takes. Document 01, refusal 7.
use Rattle.std.specs.Prelude.{Bool, true, cond, ◌&&◌, List, ℕ, zero, suc, ◌-◌, ◌%◌, ◌^◌, ltb, eqb, get_or}

-- Refusal 7 is given where this is false: "a prefix not a multiple of 64, or prefix 0, 1, 2 not below 16,777,216, 262,144, 4,096", of
-- the layers below layer k, with t the top layer
unfoldable pub prefixes_fit : ℕ → List ℕ → ℕ → Bool
prefixes_fit t ps zero = true
prefixes_fit t ps (suc k) = prefixes_fit t ps k && (eqb (get_or ps k 0 % 64) 0 && ltb (get_or ps k 0) (64 ^ (suc t - k)))

-- "All else 2 .., then rising": by the capacity, 0 where there is no store, and whether the prefixes fit
unfoldable pub refusal_of : ℕ → Bool → ℕ
refusal_of n fit = cond (eqb n 0) 2 (cond fit 0 7)
