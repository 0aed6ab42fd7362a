-- `three` meets its contract.
use Rattle.std.proofs.Common.{◌≡◌, length, arith, rules}
use Rattle.formula_word.proofs.Arms.{turned_four}
use Rattle.formula_word.proofs.Ground.three.Goals as goal

pub returns-in-16-to-18 : goal.returns-in-16-to-18
returns-in-16-to-18 c =
    let a = c.args in
    let long : length a.stack.now ≡ 8 = search rules in
    turned_four a.self.now a.stack.now a.t.place a.t.last long a.t.inside a.t.rest.now _ _ c.requires
    c.in-16-to-18.len_at_least (omega arith) (omega arith) c.joined-v.ensures c.joined.ensures
