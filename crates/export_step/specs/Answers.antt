-- What a call of the walk says in two numbers, and what it leaves in the ten words of its cursor. Every definition here computes.
use Rattle.std.specs.Prelude.{cond, List, ℕ, eqb, length}
use Rattle.store.specs.Answer.{number}
use Rattle.walk.specs.declared.Cursor.{Cursor}
use Rattle.walk.specs.declared.Next.{Next}
use Rattle.walk.specs.declared.Next.TheVariants.{Member, Paused, End, Refused}
use Rattle.walk.specs.declared.Step.{Step}
use Rattle.walk_fill.specs.Fill.{Filled, filled}
use Rattle.walk_fill.specs.declared.Stop.{Stop}
use Rattle.walk_fill.specs.declared.Stop.TheVariants.{Full, Paused as StopPaused, End as StopEnd, Refused as StopRefused}
use Rattle.export_cursor.specs.Ten.{cursor_words}
use Rattle.export_step.specs.declared.StepAnswer.{StepAnswer}

-- "Each returns its number and zeros elsewhere and changes nothing lent; a refused next hands back its cursor as given."

-- 0 and the refusal's number, 1 and the member, 2 for paused, 3 for the end
abbrev pub step_of : Next → StepAnswer
step_of (Refused e) = record { which = 0; value = number e }
step_of (Member v) = record { which = 1; value = v }
step_of Paused = record { which = 2; value = 0 }
step_of End = record { which = 3; value = 0 }

-- 0 and the refusal's number; 2 for paused, 3 for the end, 4 for full, and how many members
abbrev pub stop_of : Stop → ℕ → StepAnswer
stop_of (StopRefused e) k = record { which = 0; value = number e }
stop_of StopPaused k = record { which = 2; value = k }
stop_of StopEnd k = record { which = 3; value = k }
stop_of Full k = record { which = 4; value = k }

-- the words l at exit: as they were where the call is refused, else the cursor and the reads
abbrev pub left_of : StepAnswer → List ℕ → Cursor → ℕ → List ℕ
left_of a l c r = cond (eqb a.which 0) l (cursor_words l c r)

-- of a step
abbrev pub moved_of : Step → StepAnswer
moved_of a = step_of a.answer

abbrev pub cursor_after : Step → List ℕ → List ℕ
cursor_after a l = left_of (moved_of a) l a.cursor a.reads

-- ---- a fill: what is answered, the words at exit, and `out` at exit

abbrev pub stopped_of : Filled → StepAnswer
stopped_of f = stop_of f.stop (length f.ids)

abbrev pub fill_words_of : Filled → List ℕ → List ℕ
fill_words_of f l = left_of (stopped_of f) l f.cursor f.reads

-- the members that were found stand in front, and places that are not used stay as they were
abbrev pub out_of : Filled → List ℕ → List ℕ
out_of f out = (filled f out).lent
