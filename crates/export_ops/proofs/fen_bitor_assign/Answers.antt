-- `fen_bitor_assign` meets its contract.
use Rattle.export_ops.proofs.Merged.{leaves}
use Rattle.export_ops.proofs.fen_bitor_assign.Goals as goal

pub returns-clause-leaves : goal.returns-clause-leaves
returns-clause-leaves c = leaves c.bitor_assign.ensures
