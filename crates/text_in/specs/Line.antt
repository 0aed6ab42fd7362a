-- Lines joined from pieces of input.
use Rattle.std.specs.Prelude.{cond, List, ℕ, ◌+◌, ◌==◌, min, max, ltb, length, drop, Option, Some, None}
use Rattle.std.specs.List.{before_first}
use Rattle.std.proofs.lemmas.List.Edits.{sets}
use Rattle.text_out.specs.Out.{Held, holding}
use Rattle.text_in.specs.declared.Line.{Line}

-- what a line's buffer holds
abbrev pub held_line : Line → Held
held_line line = holding line.buf.now line.len

-- bytes behind the line, as many as fit
abbrev pub joined : Held → List ℕ → Held
joined h bs = holding (sets h.buf h.at bs) (max h.at (min (h.at + length bs) (length h.buf)))

-- the bytes in front of the first newline
abbrev pub up_to : List ℕ → List ℕ
up_to bs = before_first (λ b. b == 10) bs

-- the line, and the place where the next one starts
pub record Taken : Type 0 where
  pub line : Held
  pub next : Option ℕ

abbrev pub taken_text : Held → Option ℕ → Taken
taken_text line next = record { line = line; next = next }

-- What was taken ends at place `end` of a piece of `size` bytes: at a newline, and the next line starts behind it, or at the piece's end.
unfoldable pub ends_at : ℕ → Held → ℕ → Taken
ends_at size line end = taken_text line (cond (ltb end size) (Some (end + 1)) None)

-- The bytes of `piece` from `from` on that stand in front of a newline go into the buffer behind the line, as many as fit.
unfoldable pub gather_of : Held → List ℕ → ℕ → Taken
gather_of h piece from =
    let run = up_to (drop from piece) in
    ends_at (length piece) (joined h run) (from + length run)
