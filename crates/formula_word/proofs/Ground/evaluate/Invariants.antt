-- `evaluate` meets its contract: each turn is one code of the definition, or three.
use Rattle.std.proofs.Common.{◌≡◌, length}
use Rattle.formula_word.specs.Machine.{evaluated, begun}
use Rattle.formula_word.specs.Steps.{held}
use Rattle.formula_word.proofs.Ground.evaluate.Given as goal

-- the value of the codes that are left is the value of all
abbrev pub invariant-loop-stack : goal.invariant-loop-stack
invariant-loop-stack l =
    evaluated l.self.k l.self.cut l.self.words.now l.t.rest.now (held l.stack l.t.place l.t.last) ≡ evaluated l.self.k l.self.cut l.self.words.now l.codes begun

abbrev pub decreases-loop-stack : goal.decreases-loop-stack
decreases-loop-stack l = length l.t.rest.now
