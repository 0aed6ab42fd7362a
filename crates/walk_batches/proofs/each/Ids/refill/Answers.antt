-- `Ids::refill` meets its contract.
use Rattle.std.proofs.Common.{◌≡◌, List, ℕ, ◌++◌, take, sym, ap, ap₂, ◌∙◌, arith, true≢false}
use Rattle.walk.specs.Layers.{layer_words}
use Rattle.walk_batches.specs.Ids.{ids_left}
use Rattle.walk_batches.proofs.Left.{left, Turned, turned, none_kept}
use Rattle.walk_batches.proofs.each.Ids.refill.Goals.{After-fill_over-b}
use Rattle.walk_batches.proofs.each.Ids.refill.Goals as goal

-- what the fill did
step : (c : After-fill_over-b) → Turned (layer_words c.loop-b.self.layers) c.loop-b.self.ready.cursor c.fill_over-b.result c.fill_over-b.new.out
step c =
    let s = c.loop-b.self in
    turned (layer_words s.layers) s.words s.wf s.ready.fine _ (omega arith) s.batch s.long c.fill_over-b.ensures

-- what was to come is the batch, and what is to come behind it
came : (c : After-fill_over-b) → ids_left c.args.self.now
    ≡ take c.fill_over-b.result.count c.fill_over-b.new.out ++ left (layer_words c.loop-b.self.layers) c.fill_over-b.result.cursor
unfolding ids_left
came c =
    let s = c.loop-b.self in
    let i = c.loop-b.invariant in
    sym i.0 ∙ ap (λ (x : List ℕ). x ++ left (layer_words s.layers) s.ready.cursor) (none_kept s.batch s.at s.count i.1) ∙ (step c).ids

pub invariant_of-self : goal.invariant_of-self
invariant_of-self c = record { fine = (step (goal.at.invariant_of-self c).After-fill_over-b).fine }

pub invariant_of-self-in-loop-b : goal.invariant_of-self-in-loop-b
invariant_of-self-in-loop-b c =
    let u = step (goal.at.invariant_of-self-in-loop-b c).After-fill_over-b in
    record { words = c.loop-b.self.words; wf = u.wf; inside = omega arith; most = u.most; long = c.fill_over-b.auto.out ∙ c.loop-b.self.long }

pub returns-then-b-gt0 : goal.returns-then-b-gt0
unfolding ids_left
returns-then-b-gt0 c = record {
  same = sym (came (goal.at.returns-then-b-gt0 c).After-fill_over-b);
  some = λ e. c.if-b-gt0.true;
  none = λ e. absurd (true≢false e);
}

pub returns-then-not-goes_on : goal.returns-then-not-goes_on
unfolding ids_left
returns-then-not-goes_on c =
    let at = (goal.at.returns-then-not-goes_on c).After-fill_over-b in
    let z : c.fill_over-b.result.count ≡ 0 = omega arith in
    record {
      same = sym (came at);
      some = λ e. absurd (true≢false (sym e));
      none = λ e. ap₂ (λ (n : ℕ) (x : List ℕ). take n c.fill_over-b.new.out ++ x) z ((step at).over (sym c.goes_on.ensures ∙ c.if-not-goes_on.true));
    }

pub loop-b-smaller : goal.loop-b-smaller
loop-b-smaller c = (step (goal.at.loop-b-smaller c).After-fill_over-b).less (omega arith) (sym c.goes_on.ensures ∙ c.if-not-goes_on.false)

pub loop-b-preserved : goal.loop-b-preserved
unfolding ids_left
loop-b-preserved c = (sym (came (goal.at.loop-b-preserved c).After-fill_over-b), omega arith)
