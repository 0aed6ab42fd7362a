-- `Cursor::read` meets its contract.
use Prim.Native.Nat.{ℕ}
use lib.ListN.{get_or}
use Rattle.walk.proofs.Cursors.{lowers_by}
use Rattle.walk.proofs.Cursor.read.Goals as goal

pub returns : goal.returns
returns c =
    lowers_by (λ (k i : ℕ). get_or c.args.layer.now i 0) c.requires.0 c.requires.1 c.place-q.ensures c.get.ensures c.handle_level.ensures
