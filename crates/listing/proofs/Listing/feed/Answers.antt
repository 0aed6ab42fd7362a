use Rattle.std.proofs.Common.{refl, arith}
use Rattle.text_in.proofs.Lines.{line_goes_on}
use Rattle.listing.proofs.Listing.feed.Goals as goal

pub loop-next-smaller : goal.loop-next-smaller
loop-next-smaller c =
    let on = line_goes_on _ c.args.piece.now c.loop-next.from c.in-Some.ensures.taken refl in omega (arith, on)

pub loop-next-preserved : goal.loop-next-preserved
loop-next-preserved c =
    let on = line_goes_on _ c.args.piece.now c.loop-next.from c.in-Some.ensures.taken refl in
    record { inside = on.1; counted = omega (arith, on.0); good = c.answer.ensures.good }
