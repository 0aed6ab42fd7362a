-- The layers of one store as the words of a walk.
use Rattle.std.specs.Prelude.{List, [], ◌∷◌, ℕ}
use Rattle.std.specs.Borrow.{Bor}
use Rattle.set_layers.specs.Calls.{OwnPart}
use Rattle.walk.specs.Steps.{parts}
use Rattle.walk.specs.declared.over.Layers.{Layers}

-- word i of layer k
abbrev pub layer_words : Layers → ℕ → ℕ → ℕ
layer_words l = parts (l.l0.now ∷ l.l1.now ∷ l.l2.now ∷ [])

-- each layer is the caller's own part of the lent slice
pub record LayersOf (s : Bor (List ℕ)) (l : Layers) : Type 0 where
  pub l0 : OwnPart s l.l0 0
  pub l1 : OwnPart s l.l1 1
  pub l2 : OwnPart s l.l2 2
