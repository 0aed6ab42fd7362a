-- `util::offsets` meets its contract: three offsets.
use Rattle.util.proofs.offsets.Goals as goal

pub returns : goal.returns
returns c = cc
