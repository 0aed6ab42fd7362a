-- The reads that the definition counts for an intersection of formulas.
use mathlib.Core.List.{List}
use Prim.Native.Nat.{ℕ, ◌≤◌}
use Rattle.store.specs.Layout.{top}
use Rattle.walk_laws.specs.Under.{all_reads}
use Rattle.walk_laws.proofs.Fewer.{reads_le}
use Rattle.formula_codes.specs.Tree.{Tree, tree_word}
use Rattle.formula_codes.specs.Tree.Tree.{both}
use Rattle.formula_laws.proofs.Trees.{both_left, both_right}

-- AN INTERSECTION reads no more than either side alone, for any two formulas and any slices.
pub both_reads : (N : ℕ) (ss : List (List ℕ)) (f g : Tree)
    → (all_reads (tree_word N ss (both f g)) (top N) ≤ all_reads (tree_word N ss f) (top N))
    × (all_reads (tree_word N ss (both f g)) (top N) ≤ all_reads (tree_word N ss g) (top N))
both_reads N ss f g = (
  reads_le (tree_word N ss (both f g)) (tree_word N ss f) (top N) (both_left N ss f g (top N)),
  reads_le (tree_word N ss (both f g)) (tree_word N ss g) (top N) (both_right N ss f g (top N)),
)
