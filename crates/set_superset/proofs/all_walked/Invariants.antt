-- `all_walked` meets its contract: what is left of the walk decides, and gets less with each batch.
use Rattle.walk_batches.proofs.Batches.{to_go}
use Rattle.set_superset.proofs.Batches.{Holding}
use Rattle.set_superset.proofs.all_walked.Given as goal

abbrev pub invariant-loop-ids : goal.invariant-loop-ids
invariant-loop-ids l = Holding l.store l.other l.ids l.c

abbrev pub decreases-loop-ids : goal.decreases-loop-ids
decreases-loop-ids l = to_go l.other l.c
