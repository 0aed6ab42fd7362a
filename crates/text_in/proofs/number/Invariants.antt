-- The digits that are read, with those that are left, give the number.
use Rattle.std.proofs.Common.{length, ◌-◌}
use Rattle.text_in.proofs.Digits.{Reading}
use Rattle.text_in.proofs.number.Given as goal

abbrev pub invariant-loop-d : goal.invariant-loop-d
invariant-loop-d l = Reading l.line l.from l.most l.value l.end

abbrev pub decreases-loop-d : goal.decreases-loop-d
decreases-loop-d l = length l.line - l.end
