-- What is asked of the slices under a formula, and which formulas are unions of stores.
use Rattle.std.specs.Prelude.{List, [], ◌∷◌, ◌⊎◌, ◌≡◌, ℕ, ◌<◌}
use Rattle.store.specs.Word.{Sound, Words64}
use Rattle.formula_codes.specs.Tree.{Tree, nth}
use Rattle.formula_codes.specs.Tree.Tree.{store, both, either, one_of, inverse, every}

-- the slices hold words, and those that are lent are sound stores of capacity N; a slice that is not lent is empty, and so sound
pub record Sounds (N : ℕ) (ss : List (List ℕ)) : Type 0 where
  pub words : (c : ℕ) → Words64 (nth ss c)
  pub sound : (c : ℕ) → Sound N (nth ss c)

-- "one store or a union of stores"
abbrev pub Union : Tree → Type 0
Union (store c) = Unit {0}
Union (both a b) = ⊥
Union (either a b) = Union a × Union b
Union (one_of a b) = ⊥
Union (inverse a) = ⊥
Union every = ⊥

-- by its codes: stores and or alone
abbrev pub UnionCodes : List ℕ → Type 0
UnionCodes [] = Unit {0}
UnionCodes (c ∷ cs) = ((c < 4) ⊎ (c ≡ 17)) × UnionCodes cs
