-- What the writer answers and leaves, and how long its map is, for all inputs.
use Rattle.std.specs.Prelude.{cond, List, ℕ, leb, length}
use Rattle.std.proofs.lemmas.List.Edits.{sets}
use Rattle.util.specs.Outcome.{Outcome}
use Rattle.store.specs.Answer.{gives, refuses}
use Rattle.store.specs.Layout.{cap, is_store}
use Rattle.map_write.specs.Map.{told_words, map_of, map_len}

-- "Length 16+12W": the length that the writer returns where the buffer has room for it. No buffer is lent, so that refusal 2 is the only
-- one.
unfoldable pub map_length_of : List ℕ → Outcome (Unit {0})
map_length_of s = cond (is_store s) (gives (map_len (told_words (cap s) s)) tt) (refuses 2 tt)

-- "The writer returns the length, leaves later bytes as they were": the map stands over the front of the buffer b. Refusal 8: "buffer
-- shorter than the map".
unfoldable pub write_of : List ℕ → List ℕ → Outcome (List ℕ)
write_of s b =
    let ws = told_words (cap s) s in
    cond (is_store s)
    (cond (leb (map_len ws) (length b)) (gives (map_len ws) (sets b 0 (map_of (cap s) ws))) (refuses 8 b))
    (refuses 2 b)
