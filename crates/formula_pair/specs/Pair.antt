-- Many members of two stores joined by one code, in one call: as a fill of one store, over the words that the code makes of the words of both.
use Rattle.std.specs.Prelude.{cond, List, ℕ, eqb, length, get_or}
use Rattle.util.specs.Outcome.{Outcome}
use Rattle.store.specs.Answer.{numbered}
use Rattle.store.specs.Layout.{top}
use Rattle.set_layers.specs.Calls.{layer_part}
use Rattle.walk.specs.Calls.{fits}
use Rattle.walk.specs.Layers.{layer_words}
use Rattle.walk.specs.Steps.{refusal_of}
use Rattle.walk.specs.declared.Cursor.{Cursor}
use Rattle.walk_fill.specs.Fill.{Filled, stopped, fill_from, filled}
use Rattle.walk_fill.specs.declared.Stop.TheVariants.{Refused}
use Rattle.formula_codes.specs.Tree.{joined}
use Rattle.formula_pair.specs.declared.Pair.{Pair}

-- of the layers of two stores
abbrev pub joined_words : Pair → ℕ → ℕ → ℕ
joined_words p k i = joined p.code k (layer_words p.a k i) (layer_words p.b k i)

-- of two stores; a slice that is no store has no layers, and its words are 0
abbrev pub pair_words : ℕ → List ℕ → List ℕ → ℕ → ℕ → ℕ
pair_words code a b k i = joined code k (get_or (layer_part a k) i 0) (get_or (layer_part b k) i 0)

-- a fill over any layer words, of capacity N: refusals 2, where N is 0, and 7
unfoldable pub fill_words : (ℕ → ℕ → ℕ) → ℕ → Cursor → ℕ → ℕ → Filled
fill_words lw N c n m =
    let no = refusal_of N (fits (top N) c) in
    cond (eqb no 0) (fill_from lw (top N) m n c) (stopped (Refused (numbered no)) 0 c)

abbrev pub filled_words : (ℕ → ℕ → ℕ) → ℕ → Cursor → ℕ → List ℕ → Outcome (List ℕ)
filled_words lw N c n out = filled (fill_words lw N c n (length out)) out
