-- The two slices that a directory holds, which are always lent together.
use Rattle.std.specs.Prelude.{◌≡◌}
use Rattle.directory.specs.declared.Directory.{Directory as Lent}
use Rattle.directory.specs.Calls.{Directory, directory}

-- as lists
abbrev pub slices : Lent → Directory
slices d = directory d.store.now d.owners.now

-- the same two slices, whatever they hold
abbrev pub SameSlices : Lent → Lent → Type 0
SameSlices d e = (d.store.ghost_name ≡ e.store.ghost_name) × (d.owners.ghost_name ≡ e.owners.ghost_name)
