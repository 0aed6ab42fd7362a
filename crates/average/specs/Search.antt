-- What the private steps of `average_ones` ask and leave.
use Rattle.std.specs.Prelude.{◌≡◌, ℕ, zero, suc, ◌+◌, ◌-◌, ◌*◌, ◌/◌, ◌%◌, ◌^◌, ◌≤◌, ◌<◌}
use Rattle.std.specs.Int.Count.{ones}
use Rattle.average.specs.declared.Search.{Search}
use Rattle.average.specs.declared.Tallies.{Tallies}

-- the m lowest fields of k bits of n, each replaced by the number of its set bits
unfoldable pub tally : ℕ → ℕ → ℕ → ℕ
tally k zero n = 0
tally k (suc m) n = tally k m (n / 2 ^ k) * 2 ^ k + ones (n % 2 ^ k)

pub record Tallied (n : ℕ) (l : Tallies) : Type 0 where
  pub a_is : l.a ≡ tally 2 32 n
  pub b_is : l.b ≡ tally 4 16 n
  pub c_is : l.c ≡ tally 8 8 n
  pub d_is : l.d ≡ tally 16 4 n
  pub e_is : l.e ≡ tally 32 2 n

-- how many set bits of n stand at place p or above
abbrev pub bits_above : ℕ → ℕ → ℕ
bits_above n p = ones (n / 2 ^ p)

-- The t-th set bit of n from the top is in the field of k + k bits below `result`, the `target`-th there; `cur` are in its upper half.
pub record InRange (n t k : ℕ) (s : Search) : Type 0 where
  pub field : ℕ
  pub aligned : s.result ≡ suc field * (k + k)
  pub inside : s.result ≤ 64
  pub target_is : bits_above n s.result + s.target ≡ t
  pub target_pos : 0 < s.target
  pub cur_is : bits_above n s.result + s.cur ≡ bits_above n (s.result - k)
  pub reach : t ≤ bits_above n (s.result - (k + k))

-- what a step down to fields of k bits asks: `child` has their counts, and the mask keeps one of them
pub record HalfStep (n t : ℕ) (s : Search) (child k mask : ℕ) : Type 0 where
  pub from : InRange n t (k + k) s
  pub some : 0 < k
  pub fields : ℕ
  pub whole : fields * k ≡ 64
  pub child_is : child ≡ tally k fields n
  pub bits : ℕ
  pub mask_is : mask ≡ 2 ^ bits - 1
  pub wide : k < 2 ^ bits
  pub narrow : bits ≤ k
