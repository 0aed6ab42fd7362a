-- `left` meets its contract: each turn is one code of the definition.
use Rattle.std.proofs.Common.{map, length}
use Rattle.formula_codes.specs.Formula.{slices}
use Rattle.formula_codes.specs.Steps.{Counting}
use Rattle.formula_codes.proofs.left.Given as goal

abbrev pub invariant-loop-code : goal.invariant-loop-code
invariant-loop-code l = Counting (map length (slices l.f)) l.code-items l.d l.code-index
