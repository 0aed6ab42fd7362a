-- `map_fits` meets its contract.
use Rattle.map_format.proofs.Used.{room_for_all}
use Rattle.map_format.proofs.map_fits.Goals as goal

pub returns-then-layer-bytes : goal.returns-then-layer-bytes
returns-then-layer-bytes c = let a = c.args in room_for_all a.layer.now a.last a.bytes c.if-layer-bytes.true
