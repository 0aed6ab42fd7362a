-- `add_all` meets its contract: what is left of the list, added to the store as it is, gives what all of it gives.
use mathlib.Core.Bool.{true}
use mathlib.Core.Path.{◌≡◌}
use lib.ListN.{drop}
use Rattle.store.specs.Layout.{layer_start, StoreOf}
use Rattle.set_edit.specs.Calls.{all_below, add_all}
use Rattle.set_edit.proofs.add_all.Given as goal

abbrev pub invariant-loop-id : goal.invariant-loop-id
invariant-loop-id l = record {
  store : StoreOf l.n l.store;
  starts : l.a ≡ layer_start l.n 0;
  room : all_below l.n (drop l.id-index l.ids) ≡ true;
  rest : add_all l.n l.store (drop l.id-index l.ids) ≡ add_all l.n l.initial.store l.ids;
}
