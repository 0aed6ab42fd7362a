-- The test of an id is membership.
use mathlib.Core.Bool.{Bool, true, ◌&&◌}
use mathlib.Core.List.{List}
use mathlib.Core.Logic.{◌↔◌}
use mathlib.Core.Path.{◌≡◌, ap₂}
use Prim.Native.Nat.{ℕ}
use borrow.Author.Tests.{lt-ltb, ltb-true, eq-eqb, eqb-true}
use lib.Dec.{ltb}
use Rattle.util.proofs.Same.{both}
use Rattle.store.specs.Layout.{cap}
use Rattle.store.specs.Word.{on, Member}
use Rattle.set_member.specs.Calls.{holds, is_member}

pub is_member_lem : (s : List ℕ) (i : ℕ) → (is_member s i ≡ true) ↔ Member s i
is_member_lem s i = (
  λ e. (let b = both (ltb i (cap s)) (holds (cap s) s i) e in record { below = ltb-true i (cap s) b.0; held = eqb-true (on (cap s) s 0 i) 1 b.1 }),
  λ m. ap₂ (λ (a b : Bool). a && b) (lt-ltb i (cap s) m.below) (eq-eqb (on (cap s) s 0 i) 1 m.held),
)
