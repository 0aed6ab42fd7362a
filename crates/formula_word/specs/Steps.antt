-- What a turn of the loop over the codes asks and leaves.
use Rattle.std.specs.Prelude.{List, ◌≡◌, ℕ, ◌≤◌, ◌<◌, length, get_or}
use Rattle.formula_word.specs.Machine.{Stack, evaluated}
use Rattle.formula_word.specs.declared.Ground.{Ground}

-- the values that wait: those in the stack, where the last will stand, and the last
abbrev pub held : List ℕ → ℕ → ℕ → Stack
held v d b = record { words = v; place = d; last = b }

-- two stores and a code that joins them, first of these codes
pub record Joins (cs : List ℕ) : Type 0 where
  pub there : 3 ≤ length cs
  pub first : get_or cs 0 0 < 4
  pub second : get_or cs 1 0 < 4
  pub joins : 16 ≤ get_or cs 2 0
  pub known : get_or cs 2 0 < 19

-- a turn takes codes, and the value of the others after it is the value of those before it
pub record Turned (g : Ground) (s : Stack) (cs : List ℕ) (s' : Stack) (cs' : List ℕ) : Type 0 where
  pub on : length cs' < length cs
  pub same : evaluated g.k g.cut g.words.now cs' s' ≡ evaluated g.k g.cut g.words.now cs s
