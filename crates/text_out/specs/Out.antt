-- Output joined in a lent buffer, and numbers as text. What reaches standard output no contract can say; what is joined it can.
use Rattle.std.specs.Prelude.{cond, List, [], ◌∷◌, ◌++◌, ◌≡◌, ℕ, zero, suc, ◌+◌, ◌/◌, ◌%◌, min, ltb, length, set}
use Rattle.text_out.specs.declared.Out.{Out}

-- a buffer, of which the first `at` bytes are filled
pub record Held : Type 0 where
  pub buf : List ℕ
  pub at : ℕ

abbrev pub holding : List ℕ → ℕ → Held
holding buf at = record { buf = buf; at = at }

-- what the program's buffer holds
abbrev pub held : Out → Held
held out = holding out.buf.now out.at

-- A byte goes behind the filled ones. A full buffer is written out and filled from its start again; an empty one holds nothing.
unfoldable pub put_of : Held → ℕ → Held
put_of h b =
    cond (ltb h.at (length h.buf)) (holding (set h.buf h.at b) (h.at + 1)) (holding (set h.buf 0 b) (min 1 (length h.buf)))

-- bytes go in one after the other
unfoldable pub put_all_of : Held → List ℕ → Held
put_all_of h [] = h
put_all_of h (b ∷ bs) = put_all_of (put_of h b) bs

-- Bytes were put: the buffer is the one that was lent, and holds them behind what it held.
pub record Puts (old new : Out) (bytes : List ℕ) : Type 0 where
  pub same : new.buf.ghost_name ≡ old.buf.ghost_name
  pub holds : held new ≡ put_all_of (held old) bytes

-- a number below 10 ^ k as decimal digits, none of them a zero in front
unfoldable pub spelled : ℕ → ℕ → List ℕ
spelled zero n = []
spelled (suc k) n = cond (ltb n 10) ((48 + n) ∷ []) (spelled k (n / 10) ++ ((48 + n % 10) ∷ []))

-- a number of 64 bits has at most 20 digits
abbrev pub decimal_of : ℕ → List ℕ
decimal_of n = spelled 20 n
