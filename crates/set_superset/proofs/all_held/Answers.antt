-- `all_held` meets its contract.
use Rattle.std.proofs.Common.{rules, tests, ◌∙◌}
use Rattle.std.proofs.lemmas.Iterator.{YieldsList-from_slice}
use Rattle.std.proofs.lemmas.Iterator.Search.{all_from_yields_List}
use Rattle.set_member.specs.Calls.{is_member}
use Rattle.set_superset.proofs.Held.{held_all, contains_yes}
use Rattle.set_superset.proofs.all_held.Goals as goal

pub returns : goal.returns
returns c =
    let s = c.args.store.now in
    let ids = c.args.ids.now in
    all_from_yields_List (is_member s) _ _ _ c.all.ensures.ran (YieldsList-from_slice ids cc)
    (λ x b q k. search (rules, tests, contains_yes s c.requires)) ∙ held_all s ids
