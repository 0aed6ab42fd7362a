-- `FormulaWords::read` meets its contract.
use Rattle.std.proofs.Common.{arith, refl}
use Rattle.walk.proofs.Cursors.{lowers, lowers_at}
use Rattle.formula_codes.specs.Formula.{slices}
use Rattle.formula_word.proofs.Words.{word_cut_is}
use Rattle.formula_sink.specs.Steps.{words_of}
use Rattle.formula_sink.proofs.FormulaWords.read.Goals as goal

pub returns : goal.returns
returns c =
    let w = c.args.self.now in
    let v = c.requires in
    lowers_at v.low (λ i. refl) (lowers (words_of w.formula w.n) (omega arith) v.small v.some v.placed
    (word_cut_is (slices w.formula) w.formula.codes.now w.n _ _ v.stands w.looks c.cut-x.ensures c.word_at-w.ensures)
    c.lower.ensures)
