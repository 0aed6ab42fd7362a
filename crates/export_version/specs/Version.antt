-- The version in one number, which rises from version to version. include/fendruscla.h has it as FEN_VERSION.
use Rattle.std.specs.Prelude.{ℕ, ◌+◌, ◌*◌}

abbrev major : ℕ
major = 0

abbrev minor : ℕ
minor = 3

abbrev patch : ℕ
patch = 0

abbrev pub version : ℕ
version = 100 * 100 * major + 100 * minor + patch
