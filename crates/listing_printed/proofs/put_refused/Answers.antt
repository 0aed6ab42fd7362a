use Rattle.std.proofs.Common.{◌∙◌}
use Rattle.text_out.proofs.Puts.{puts-append}
use Rattle.listing_printed.proofs.put_refused.Goals as goal

pub returns : goal.returns
returns c =
    let number_is = c.from-2.ensures ∙ c.from.ensures in
    puts-append c.put_all.ensures (puts-append (rw number_is at c.put_number.ensures) c.put_byte.ensures)
