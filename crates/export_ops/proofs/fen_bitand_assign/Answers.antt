-- `fen_bitand_assign` meets its contract.
use Rattle.export_ops.proofs.Merged.{leaves}
use Rattle.export_ops.proofs.fen_bitand_assign.Goals as goal

pub returns-clause-leaves : goal.returns-clause-leaves
returns-clause-leaves c = leaves c.bitand_assign.ensures
