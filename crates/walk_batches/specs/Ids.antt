-- The ids that a walk of a store hands out, one after another.
use Rattle.std.specs.Prelude.{Bool, true, false, cond, List, [], ◌++◌, ◌≡◌, ℕ, suc, ◌<◌, take, drop}
use Rattle.store.specs.Layout.{top_most, is_store}
use Rattle.walk.specs.Layers.{layer_words}
use Rattle.walk_laws.specs.Rest.{rest}
use Rattle.walk_batches.specs.Steps.{walked}
use Rattle.walk_batches.specs.declared.each.Ids.{Ids}

-- what is still to come of them: of the last batch, and behind it
unfoldable pub ids_left : Ids → List ℕ
ids_left s = drop s.at (take s.count s.batch) ++ rest (layer_words s.layers) top_most s.ready.cursor (suc top_most)

-- all of them; a slice that is no store has none
abbrev pub ids_of : List ℕ → List ℕ
ids_of s = cond (is_store s) (walked s) []

-- another batch is taken: what is to come stays, and there is an id at hand, or none is to come
pub record Refilled (s : Ids) (more : Bool) (t : Ids) : Type 0 where
  pub same : ids_left t ≡ ids_left s
  pub some : more ≡ true → t.at < t.count
  pub none : more ≡ false → ids_left t ≡ []
