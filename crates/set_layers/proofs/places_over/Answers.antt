-- `places_over` meets its contract: the two quotients are the places over the id.
use mathlib.Core.List.{[], ◌∷◌}
use mathlib.Core.Path.{sym, ap₂}
use Prim.Native.Nat.{ℕ}
use Rattle.store.proofs.Words.{anc_closed}
use Rattle.set_layers.proofs.places_over.Goals as goal

pub returns : goal.returns
returns c = ap₂ (λ (x y : ℕ). x ∷ y ∷ []) (sym (anc_closed _ 1)) (sym (anc_closed _ 2))
