-- Little-endian numbers: the byte of the lowest place stands first.
use Rattle.std.specs.Prelude.{List, [], ◌∷◌, ℕ, zero, suc, ◌+◌, ◌*◌, ◌/◌, ◌%◌, ◌<◌, get_or, take, drop}

-- the n low bytes of x
unfoldable pub le : ℕ → ℕ → List ℕ
le zero x = []
le (suc n) x = x % 256 ∷ le n (x / 256)

-- the number that bytes are
unfoldable pub num : List ℕ → ℕ
num [] = 0
num (b ∷ bs) = b + 256 * num bs

-- the number in the n bytes at o
abbrev pub num_at : ℕ → ℕ → List ℕ → ℕ
num_at o n s = num (take n (drop o s))

-- every number of the list is a byte, as in every lent slice of bytes
abbrev pub Bytes : List ℕ → Type 0
Bytes s = (i : ℕ) → get_or s i 0 < 256
