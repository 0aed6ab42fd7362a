-- The first step of a reader as a C caller has it.
use Rattle.std.specs.Prelude.{cond, List, ℕ, eqb}
use Rattle.walk.specs.Calls.{next_in}
use Rattle.walk.specs.declared.Step.{Step}
use Rattle.walk_batches.specs.Calls.{started_of}
use Rattle.export_step.specs.Answers.{moved_of}

abbrev pub first_in : List ℕ → ℕ → Step
first_in s b = next_in s (started_of s) b

-- the count of reads at exit: as it was where the call is refused
abbrev pub reads_left : Step → ℕ → ℕ
reads_left a r = cond (eqb (moved_of a).which 0) r a.reads
