-- What rebuilding the summaries does, and what the soundness check says, for all inputs.
use Rattle.std.specs.Prelude.{cond, Bool, ◌&&◌, List, ℕ, ◌-◌, ◌^◌, ltb, length, get_or}
use Rattle.util.specs.Outcome.{Outcome}
use Rattle.util.specs.Word.{same}
use Rattle.store.specs.Answer.{does, refuses, says}
use Rattle.store.specs.Build.{build, layer0, room0}
use Rattle.store.specs.Layout.{cap, is_store}

-- every summary layer as layer 0 asks it; layer 0 and the capacity as they were
unfoldable pub rebuild_of : List ℕ → Outcome (List ℕ)
rebuild_of s = cond (is_store s) (does (build (cap s) (layer0 (cap s) s))) (refuses 2 s)

-- whether no bit of layer 0 stands at or past N: only its last word has such places
unfoldable pub kept_of : ℕ → List ℕ → Bool
kept_of N ws = let q = length ws - 1 in ltb (get_or ws q 0) (2 ^ room0 N q)

-- "A store is sound if no bit is set at a place where no id or word exists, and every summary bit is set exactly if the word it stands
-- for is not zero. The soundness check says yes exactly then.": it is the store that its layer 0 makes, with no bit at or past N.
unfoldable pub sound_of : ℕ → List ℕ → Bool
sound_of N s = same s (build N (layer0 N s)) && kept_of N (layer0 N s)

unfoldable pub is_sound_of : List ℕ → Outcome (Unit {0})
is_sound_of s = cond (is_store s) (says (sound_of (cap s) s) tt) (refuses 2 tt)
