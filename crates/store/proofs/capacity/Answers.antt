-- `store::capacity` meets its contract: word 0 names a capacity and the slice has its length, or it is no store.
use Rattle.std.proofs.Common.{◌≡◌, ℕ, List, Bool, sym, ap, ◌∙◌}
use Rattle.store.specs.Layout.{cap, is_cap, store_len}
use Rattle.store.proofs.Ends.{cap_in_lem, capacity_none, capacity_long, capacity_short}
use Rattle.std.specs.Prelude.{Ok}
use Rattle.store.proofs.capacity.Goals.{else-is_capacity-via-then-is_capacity+else-store-length, else-is_capacity-via-else-is_capacity}
use Rattle.store.proofs.capacity.Goals as goal

-- what the test of word 0 says of the capacity that a slice names
named_cap : (s : List ℕ) {n : ℕ} {h x : Bool} → n ≡ cap s → h ≡ is_cap n → h ≡ x → is_cap (cap s) ≡ x
named_cap s n-is e t = ap is_cap (sym n-is) ∙ sym e ∙ t

pub length-requires : goal.length-requires
length-requires c =
    let h = cap_in_lem _ (named_cap c.args.store.now c.named-n.ensures c.is_capacity.ensures c.if-is_capacity.true) in
    rw c.named-n.ensures h

pub returns-then-store-length : goal.returns-then-store-length
returns-then-store-length c =
    let s = c.args.store.now in
    let h = named_cap s c.named-n.ensures c.is_capacity.ensures c.if-is_capacity.true in
    ap Ok c.named-n.ensures ∙ capacity_long s h (c.if-store-length.true ∙ c.length.ensures ∙ ap store_len c.named-n.ensures)

pub returns-else-is_capacity : goal.returns-else-is_capacity
returns-else-is_capacity c =
    let s = c.args.store.now in
    elim c.else-is_capacity.branch [
      | else-is_capacity-via-then-is_capacity+else-store-length w ↦
          capacity_short s (named_cap s c.named-n.ensures c.is_capacity.ensures w.if-is_capacity.true)
          (λ q. w.if-store-length.false (q ∙ sym (w.length.ensures ∙ ap store_len c.named-n.ensures)))
      | else-is_capacity-via-else-is_capacity w ↦
          capacity_none s (named_cap s c.named-n.ensures c.is_capacity.ensures w.if-is_capacity.false)
    ]
