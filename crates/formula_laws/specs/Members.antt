-- The members of a formula. Document 01: "Membership follows ordinary set algebra among ids below N."
use Rattle.std.specs.Prelude.{List, ◌⊎◌, ℕ, ◌-◌, min, max}
use Rattle.std.specs.Int.Bits.{differ}
use Rattle.util.specs.Word.{places}
use Rattle.store.specs.Word.{on, Member}
use Rattle.formula_codes.specs.Tree.{Tree, nth}
use Rattle.formula_codes.specs.Tree.Tree.{store, both, either, one_of, inverse, every}

-- that an id is a member, among ids below the capacity
abbrev pub Among : List (List ℕ) → Tree → ℕ → Type 0
Among ss (store c) i = Member (nth ss c) i
Among ss (both a b) i = Among ss a i × Among ss b i
Among ss (either a b) i = Among ss a i ⊎ Among ss b i
Among ss (one_of a b) i = (Among ss a i × (Among ss b i → ⊥)) ⊎ ((Among ss a i → ⊥) × Among ss b i)
Among ss (inverse a) i = Among ss a i → ⊥
Among ss every i = Unit {0}

-- the same as a number, 1 or 0, over stores of capacity N
unfoldable pub held_by : ℕ → List (List ℕ) → Tree → ℕ → ℕ
held_by N ss (store c) i = on N (nth ss c) 0 i
held_by N ss (both a b) i = min (held_by N ss a i) (held_by N ss b i)
held_by N ss (either a b) i = max (held_by N ss a i) (held_by N ss b i)
held_by N ss (one_of a b) i = differ (held_by N ss a i) (held_by N ss b i)
held_by N ss (inverse a) i = 1 - held_by N ss a i
held_by N ss every i = 1

-- the members, ascending
abbrev pub formula_members : ℕ → List (List ℕ) → Tree → List ℕ
formula_members N ss e = places (held_by N ss e) 0 N
