-- `FormulaWords::sink` meets its contract.
use Rattle.walk.proofs.Turns.{sink_none}
use Rattle.formula_sink.proofs.FormulaWordsWords.sink.Goals as goal

pub returns-then-from-ne0 : goal.returns-then-from-ne0
returns-then-from-ne0 c = sink_none _ _ _ _ _ c.if-from-ne0.true
