-- `Pair::read` meets its contract.
use Rattle.std.proofs.Common.{ℕ, get_or, ap₂, ◌∙◌}
use Rattle.walk.proofs.Cursors.{lowers_by}
use Rattle.formula_codes.specs.Tree.{joined}
use Rattle.formula_pair.proofs.Pair.read.Goals as goal

pub returns : goal.returns
returns c =
    let a = c.args in
    lowers_by (λ (k i : ℕ). joined a.self.now.code k (get_or a.a.now i 0) (get_or a.b.now i 0)) c.requires.0 c.requires.1 c.place-q.ensures
    (c.joined-w.ensures ∙ ap₂ (joined a.self.now.code a.j) c.get.ensures c.get-2.ensures) c.handle_level.ensures
