-- Which lines are commands, as document 01 says it: "`a`, `r` or `c`, a blank, 1 to 10 decimal digits no greater than 4294967295; or `w`."
use Rattle.std.specs.Prelude.{List, [], ◌∷◌, ◌≡◌, ℕ, ◌≤◌, ◌<◌, length, get_or}
use Rattle.text_in.specs.Number.{digits, value_after}
use Rattle.listing_line.specs.declared.Command.{Command}
use Rattle.listing_line.specs.declared.Command.TheVariants.{Add, Remove, Contains, List as Members, Unknown}

-- a byte that is a decimal digit
abbrev pub Digit : ℕ → Type 0
Digit b = (48 ≤ b) × (b ≤ 57)

-- a letter, a blank, the digits of an id, and nothing else
pub record Spells (letter i : ℕ) (line : List ℕ) : Type 0 where
  pub bytes : List ℕ
  pub line_is : line ≡ letter ∷ 32 ∷ bytes
  pub some : 1 ≤ length bytes
  pub few : length bytes ≤ 10
  pub each : (k : ℕ) → k < length bytes → Digit (get_or bytes k 0)
  pub value : value_after 0 (digits bytes) ≡ i
  pub fits : i ≤ 4294967295

-- what a line is that means a command; of any other line nothing is said
abbrev pub Means : List ℕ → Command → Type 0
Means line (Add i) = Spells 97 i line
Means line (Remove i) = Spells 114 i line
Means line (Contains i) = Spells 99 i line
Means line Members = line ≡ 119 ∷ []
Means line Unknown = Unit {0}
