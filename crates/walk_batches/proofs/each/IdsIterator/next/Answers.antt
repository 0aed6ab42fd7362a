-- `Ids::next` meets its contract.
use Rattle.std.proofs.Common.{◌≡◌, ◌<◌, ◌++◌, List, ℕ, length, ap, sym, subst, ◌∙◌, arith}
use Rattle.walk.specs.Layers.{layer_words}
use Rattle.walk_batches.specs.Ids.{ids_left}
use Rattle.walk_batches.specs.declared.each.Ids.{Ids}
use Rattle.walk_batches.proofs.Left.{left, one_kept}
use Rattle.walk_batches.proofs.each.IdsIterator.next.Goals.{else-self-via-then-self+else-not-refill, else-self-via-else-self}
use Rattle.walk_batches.proofs.each.IdsIterator.next.Goals as goal

pub returns-clause-steps : goal.returns-clause-steps
unfolding ids_left
returns-clause-steps c =
    let s = c.else-self.self in
    let h : (ids_left c.args.self.now ≡ ids_left s) × (s.at < s.count) = elim c.else-self.branch [
      | else-self-via-then-self+else-not-refill w ↦ (sym w.refill.ensures.same ∙ ap ids_left (sym w.self-is), subst (λ (x : Ids). x.at < x.count) (sym w.self-is) (w.refill.ensures.some w.if-not-refill.false))
      | else-self-via-else-self w ↦ (ap ids_left (sym w.self-is), subst (λ (x : Ids). x.at < x.count) (sym w.self-is) (omega (arith, w.if-self.false, c.args.self.now.inside)))
    ] in
    h.0 ∙ ap (λ (x : List ℕ). x ++ left (layer_words s.layers) s.ready.cursor) (one_kept s.batch s.at s.count h.1 (omega (arith, s.most, s.long)))

pub returns-clause-goes : goal.returns-clause-goes
returns-clause-goes c = record { on = λ z. (tt, tt, omega (arith, ap length (returns-clause-steps c))); keeps = tt; rests = λ z. tt }
