-- `Cursor::handle_level` meets its contract.
use Rattle.store.specs.Layout.{top_most}
use mathlib.Core.List.{List}
use mathlib.Core.Path.{◌≡◌, ap, ap₂, ◌∙◌}
use Prim.Native.Nat.{ℕ, suc, ◌+◌, ◌*◌, ◌%◌}
use native.Mathlib.Omega.{arith}
use lib.ListN.{set}
use Rattle.walk.specs.Walk.{place_at, less, taken}
use Rattle.walk.proofs.Cursor.handle_level.Goals as goal

pub returns : goal.returns
unfolding place_at taken less
returns c =
    let a = c.args in
    let j = a.j % top_most in
    let m : (j + 1) % suc top_most ≡ suc j = omega arith in
    ap₂ (λ (x y : List ℕ). record { masks = x; prefix = y }) c.taken.ensures
    (c.under.ensures ∙ ap (λ (q : ℕ). set a.self.prefix j (q % 67108864 * 64)) (c.place-q.ensures.0 ∙ ap (place_at top_most a.self) m))
