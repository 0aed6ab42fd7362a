-- What the private steps ask and answer, of layer 0 as a list of words.
use Rattle.std.specs.Prelude.{Bool, ◌==◌, List, ◌≡◌, ℕ, ◌-◌, ◌*◌, ◌/◌, ◌%◌, ◌≤◌, ◌<◌, length, get_or, fold}
use Rattle.std.specs.Int.Bits.{bit_and}
use Rattle.util.specs.Word.{bit, places}
use Rattle.store.specs.Layout.{max_cap}

-- a word with every bit set
abbrev pub full : ℕ
full = 18446744073709551615

abbrev pub is_full : ℕ → Bool
is_full w = w == full

-- of several words together
abbrev pub all_full : List ℕ → Bool
all_full ws = fold bit_and full ws == full

-- the first r words are full
pub record Skipped (ws : List ℕ) (r : ℕ) : Type 0 where
  pub upto : r ≤ length ws
  pub passed : (i : ℕ) → i < r → get_or ws i 0 ≡ full

-- 1 where id i is free
abbrev pub free_at : List ℕ → ℕ → ℕ
free_at ws i = 1 - bit (get_or ws (i / 64) 0) (i % 64)

abbrev pub free_in : List ℕ → ℕ → ℕ → List ℕ
free_in ws n first = places (free_at ws) first (n - first)

-- every id has its word, the first one too, and no sum wraps
pub record Small (ws : List ℕ) (n first : ℕ) : Type 0 where
  pub room : n ≤ 64 * length ws
  pub most : n ≤ max_cap
  pub first_in : first / 64 < length ws
  pub long : length ws ≤ max_cap
