-- A walk of one store in batches: what it hands out in all, and whether it goes on.
use Rattle.std.specs.Prelude.{Bool, true, false, List, ℕ}
use Rattle.store.specs.Layout.{top, cap}
use Rattle.store.specs.Word.{word}
use Rattle.walk_fill.specs.declared.Stop.{Stop}
use Rattle.walk_fill.specs.declared.Stop.TheVariants.{Full, Paused, End, Refused}
use Rattle.walk_laws.specs.Under.{all_ids}

-- every id that a walk of a store hands out, sound or not
abbrev pub walked : List ℕ → List ℕ
walked t = all_ids (word (cap t) t) (top (cap t))

-- whether a walk goes on after a fill that stopped so
abbrev pub goes_on : Stop → Bool
goes_on Full = true
goes_on Paused = true
goes_on End = false
goes_on (Refused n) = false
