-- `ids` meets its contract: a walk that is started has all of its ids to hand out.
use Rattle.std.proofs.Common.{length, refl, ap, arith}
use Rattle.std.specs.Iterator.{YieldsFirst}
use Rattle.std.proofs.iter.runs.Sources.{from_front, as_is}
use Rattle.walk_batches.specs.Ids.{ids_left}
use Rattle.walk_batches.proofs.Left.{words_small, started_wf, started_fine, started_left}
use Rattle.walk_batches.proofs.ids.Goals as goal

pub invariant_of-result : goal.invariant_of-result
invariant_of-result c = record { fine = started_fine c.args.store.now c.started.ensures }

pub invariant_of-result-2 : goal.invariant_of-result-2
invariant_of-result-2 c = record {
  words = words_small c.args.store c.of.ensures (λ i. (c.type_inv.store i).fits);
  wf = started_wf c.args.store.now (λ i. (c.type_inv.store i).fits) c.started.ensures;
  inside = omega arith;
  most = omega arith;
  long = refl;
}

pub returns-clause-left : goal.returns-clause-left
unfolding ids_left
returns-clause-left c = started_left c.args.store c.of.ensures c.started.ensures

pub returns-clause-runs : goal.returns-clause-runs
returns-clause-runs c p s = as_is p (ids_left p.from) (from_front (YieldsFirst ids_left) (λ x. x) ids_left (λ s t h. ap length h.0) (λ s x t h. h) p s)
