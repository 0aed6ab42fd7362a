-- What a line of the listing program means. Document 01: "`a`, `r` or `c`, a blank, 1 to 10 decimal digits no greater than 4294967295;
-- or `w`. .. Any other line, also an empty or longer one, prints `?`".
use Rattle.std.specs.Prelude.{cond, List, [], ◌∷◌, ℕ, eqb, ltb, length, Option, Some, None}
use Rattle.text_in.specs.Number.{digits, value_after}
use Rattle.listing_line.specs.declared.Command.{Command}
use Rattle.listing_line.specs.declared.Command.TheVariants.{Add, Remove, Contains, List as Members, Unknown}

-- "1 to 10 decimal digits no greater than 4294967295": none are more than 10 bytes, no digit at the start, too great a number, and a
-- byte behind the digits
unfoldable pub id_of : List ℕ → Option ℕ
id_of bs =
    let ds = digits bs in
    let value = value_after 0 ds in
    cond (ltb 10 (length bs)) None
    (cond (eqb (length ds) 0) None
    (cond (ltb 4294967295 value) None
    (cond (ltb (length ds) (length bs)) None (Some value))))

-- "`a`, `r` or `c`", and an id
unfoldable pub with_id : ℕ → Option ℕ → Command
with_id letter None = Unknown
with_id letter (Some i) =
    cond (eqb letter 97) (Add i) (cond (eqb letter 114) (Remove i) (cond (eqb letter 99) (Contains i) Unknown))

-- `w` alone, or a letter, a blank and an id
unfoldable pub command_of : List ℕ → Command
command_of [] = Unknown
command_of (b ∷ []) = cond (eqb b 119) Members Unknown
command_of (letter ∷ b ∷ bs) = cond (eqb b 32) (with_id letter (id_of bs)) Unknown
