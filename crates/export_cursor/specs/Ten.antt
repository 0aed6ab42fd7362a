-- A cursor as ten words. Every definition here computes.
use Rattle.std.specs.Prelude.{List, [], ◌∷◌, ℕ, min, get_or}
use Rattle.walk.specs.declared.Cursor.{Cursor}

-- Masks stand in words 0 to 3, prefixes in words 5 to 7, the reads of the last call in word 9. Words 4 and 8 are room for a
-- fifth layer.

-- "A cursor holds four masks and three prefixes", and a prefix is a 32-bit number. A greater word counts as the greatest of these, which is
-- no multiple of 64, so that refusal 7 is due for both.
unfoldable pub prefix_of : ℕ → ℕ
prefix_of w = min w 4294967295

unfoldable pub cursor_of : List ℕ → Cursor
cursor_of l = record {
  masks = get_or l 0 0 ∷ get_or l 1 0 ∷ get_or l 2 0 ∷ get_or l 3 0 ∷ [];
  prefix = prefix_of (get_or l 5 0) ∷ prefix_of (get_or l 6 0) ∷ prefix_of (get_or l 7 0) ∷ [];
}

-- a cursor and its reads written to the words l; words 4 and 8 stay as they are
unfoldable pub cursor_words : List ℕ → Cursor → ℕ → List ℕ
cursor_words l c r =
    let m = c.masks in
    let p = c.prefix in
    get_or m 0 0 ∷ get_or m 1 0 ∷ get_or m 2 0 ∷ get_or m 3 0 ∷ get_or l 4 0 ∷ get_or p 0 0 ∷ get_or p 1 0 ∷ get_or p 2 0 ∷ get_or l 8 0 ∷ r ∷ []
