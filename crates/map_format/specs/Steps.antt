-- The words that a map has entries for.
use Rattle.std.specs.Prelude.{List, ℕ, ◌-◌, length, get_or, set}
use Rattle.util.specs.Word.{places}

-- the words ws with w for the last: only the last can have a bit at or past N
unfoldable pub with_last : List ℕ → ℕ → List ℕ
with_last ws w = set ws (length ws - 1) w

-- the numbers of the words that are not zero: "words not zero"
unfoldable pub used_at : List ℕ → List ℕ
used_at ws = places (λ q. get_or ws q 0) 0 (length ws)
