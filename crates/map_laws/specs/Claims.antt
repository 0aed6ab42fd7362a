-- What the map's theorems say.
use Rattle.std.specs.Prelude.{List, ◌++◌, ◌≡◌, ℕ, ◌+◌, ◌*◌, take, drop}
use Rattle.store.specs.Answer.{gives}
use Rattle.store.specs.Word.{members, SoundStore}
use Rattle.map_write.specs.Calls.{write_of}
use Rattle.map_write.specs.Map.{told_words, map_of}
use Rattle.map_read.specs.Calls.{read_of}
use Rattle.map_read.specs.Judge.{used_in}

-- "A chunk map written and read again gives the same members.": of the store s, into a buffer b, and read into the store t
abbrev pub SameMembers : List ℕ → List ℕ → List ℕ → Type 0
SameMembers s t b = members (read_of (write_of s b).lent t).lent ≡ members s

-- what the reader takes from m into t, written again into b, gives the same 16 + 12 W bytes, and leaves those behind them
abbrev pub SameBytes : List ℕ → List ℕ → List ℕ → Type 0
SameBytes m t b =
    let e = 16 + 12 * used_in m in
    write_of (read_of m t).lent b ≡ gives e (take e m ++ drop e b)

-- m is the map of some set of capacity N, with any bytes behind it
pub record MapOfSome (m : List ℕ) (N : ℕ) : Type 0 where
  pub set : List ℕ
  pub fine : SoundStore N set
  pub later : List ℕ
  pub bytes : m ≡ map_of N (told_words N set) ++ later
