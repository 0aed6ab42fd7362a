-- The walk of the other store in batches. The invariant: whether the store has what is ahead of the walk is whether it has all of it.
use mathlib.Core.Bool.{Bool, true, false, ◌&&◌}
use mathlib.Core.List.{List}
use mathlib.Core.Path.{◌≡◌, sym, ap, ◌∙◌}
use Prim.Native.Nat.{ℕ}
use lib.ListN.{length, take}
use Rattle.store.specs.Layout.{is_store}
use Rattle.store.specs.Word.{Words64}
use Rattle.walk.specs.declared.Cursor.{Cursor}
use Rattle.walk_fill.specs.declared.Batch.{Batch}
use Rattle.walk_batches.specs.Calls.{started_of}
use Rattle.walk_batches.specs.Steps.{walked, goes_on}
use Rattle.walk_batches.proofs.Batches.{ahead, At, Turn, at_start, parts, nothing_ahead}
use Rattle.set_superset.specs.Calls.{all_held}
use Rattle.set_superset.proofs.Held.{held_append}

pub record Holding (s t ids : List ℕ) (c : Cursor) : Type 0 where
  pub at : At t ids c
  pub same : all_held s (ahead t c) ≡ all_held s (walked t)

pub holding_start : (s t : List ℕ) → is_store t ≡ true → Words64 t → {ids : List ℕ} (c : Cursor) → length ids ≡ 64 → c ≡ started_of t → Holding s t ids c
holding_start s t is small c l e = let a = at_start t is small c l e in record { at = a.0; same = ap (all_held s) a.1 }

module _ {s t ids out : List ℕ} {b : ℕ} {c : Cursor} {r : Batch} (g : Holding s t ids c) (u : Turn t b c r out) where
  -- the batch, and what is ahead behind it
  halves : all_held s (walked t) ≡ (all_held s (take r.count out) && all_held s (ahead t r.cursor))
  halves = sym g.same ∙ ap (all_held s) (parts u) ∙ held_append s (take r.count out) (ahead t r.cursor)

  pub one_lacks : all_held s (take r.count out) ≡ false → false ≡ all_held s (walked t)
  one_lacks h = sym (halves ∙ ap (λ (x : Bool). x && all_held s (ahead t r.cursor)) h)

  module _ (h : all_held s (take r.count out) ≡ true) where
    rest_is : all_held s (ahead t r.cursor) ≡ all_held s (walked t)
    rest_is = sym (halves ∙ ap (λ (x : Bool). x && all_held s (ahead t r.cursor)) h)

    pub all_there : goes_on r.stop ≡ false → true ≡ all_held s (walked t)
    unfolding all_held
    all_there e = sym (ap (all_held s) (nothing_ahead u e)) ∙ rest_is

    pub holding-on : Holding s t out r.cursor
    holding-on = record { at = u.at; same = rest_is }
