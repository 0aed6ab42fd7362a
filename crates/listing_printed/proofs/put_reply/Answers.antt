-- The pieces of the line, one behind the other.
use Rattle.text_out.proofs.Puts.{puts-append}
use Rattle.listing_printed.specs.Reply.{end_text, reply_of}
use Rattle.listing_printed.proofs.put_reply.Goals as goal

pub returns-in-Ok : goal.returns-in-Ok
unfolding reply_of
returns-in-Ok c =
    rw c.in-Ok.is
    (puts-append c.put_byte.ensures
    (puts-append c.put_byte-2.ensures
    (puts-append (rw c.from.ensures at c.put_number.ensures) (rw c.word.ensures at c.put_all.ensures))))

pub returns-in-Err : goal.returns-in-Err
unfolding reply_of end_text
returns-in-Err c =
    rw c.in-Err.is
    (puts-append c.put_byte.ensures
    (puts-append c.put_byte-2.ensures
    (puts-append (rw c.from.ensures at c.put_number.ensures) c.put_refused.ensures)))
