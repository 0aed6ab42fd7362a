-- `judge_entries` meets its contract.
use Rattle.map_read.proofs.Entries.{Judged}
use Rattle.map_read.proofs.judge_entries.Given as goal

abbrev pub invariant-loop-entry : goal.invariant-loop-entry
invariant-loop-entry l = Judged l.n l.entries l.entry-index l.lo l.ones
