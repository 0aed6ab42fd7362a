-- `of` meets its contract.
use Rattle.std.proofs.Common.{◌≡◌, false, refl}
use Rattle.map_read.specs.Judge.{head_ok}
use Rattle.map_read.proofs.Right.{too_short, head_read, head_there, no_capacity, no_offset, too_many, cut_short}
use Rattle.map_read.proofs.Head.of.Goals.{else-is_capacity-via-then-is_capacity+then-offset-eq16+then-used-words_for+else-used-entries, else-is_capacity-via-then-is_capacity+then-offset-eq16+else-used-words_for, else-is_capacity-via-then-is_capacity+else-offset-eq16, else-is_capacity-via-else-is_capacity}
use Rattle.map_read.proofs.Head.of.Goals as goal

pub returns-in_default : goal.returns-in_default
returns-in_default c = too_short c.in_default.ensures.cases

pub returns-then-used-entries : goal.returns-then-used-entries
returns-then-used-entries c =
    let r = head_read c.in-Some.ensures.cases c.number-n.ensures c.number-members.ensures c.number-used.ensures c.number-offset.ensures in
    let h = head_there r c.if-is_capacity.ensures c.if-offset-eq16.true c.words_for.ensures c.if-used-words_for.true c.as_chunks.ensures.front c.as_chunks.ensures.front_len c.if-used-entries.true in
    record { is = h.0; capacity = r.capacity; members = r.count; entries = h.1 }

pub returns-else-is_capacity : goal.returns-else-is_capacity
returns-else-is_capacity c =
    let r = head_read c.in-Some.ensures.cases c.number-n.ensures c.number-members.ensures c.number-used.ensures c.number-offset.ensures in
    let none : head_ok c.args.map.now ≡ false = elim c.else-is_capacity.branch [
      | else-is_capacity-via-then-is_capacity+then-offset-eq16+then-used-words_for+else-used-entries w ↦ cut_short r c.as_chunks.ensures.front_len w.if-used-entries.false
      | else-is_capacity-via-then-is_capacity+then-offset-eq16+else-used-words_for w ↦ too_many r w.if-is_capacity.ensures w.words_for.ensures w.if-used-words_for.false
      | else-is_capacity-via-then-is_capacity+else-offset-eq16 w ↦ no_offset r w.if-offset-eq16.false
      | else-is_capacity-via-else-is_capacity w ↦ no_capacity r w.if-is_capacity.ensures
    ] in
    record { none = none; why = refl }
