-- `count_used` meets its contract.
use Rattle.std.proofs.Common.{not, ◌==◌, arith, rules}
use Rattle.std.specs.Int.{from_bool}
use Rattle.std.proofs.lemmas.Iterator.{YieldsList-from_slice, YieldsList-from_map}
use Rattle.std.proofs.lemmas.Iterator.Consumers.{fits_by_from_yields_list}
use Rattle.map_format.proofs.Used.{flags_few}
use Rattle.map_format.proofs.count_used.Goals as goal

pub sum-requires-clause-fits : goal.sum-requires-clause-fits
sum-requires-clause-fits c =
    fits_by_from_yields_list _ c.args.words.now c.map.result _
    (YieldsList-from_map _ (λ w. from_bool (not (w == 0))) (YieldsList-from_slice c.args.words.now cc) c.map.ensures.closure (λ x r q k. search rules))
    (omega (arith, flags_few c.args.words.now))
