-- What the ids so far leave.
use Rattle.text_out.specs.Out.{Puts}
use Rattle.listing_members.specs.Members.{ids_of}
use Rattle.listing_members.proofs.put_members.Given as goal

abbrev pub invariant-loop-id : goal.invariant-loop-id
invariant-loop-id l = Puts l.initial.out l.out (ids_of l.yielded)
