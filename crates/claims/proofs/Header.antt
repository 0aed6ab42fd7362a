-- CHUNK 0 BY HAND: "Adding or removing 0 by hand and all walks remain." Neither changes what the search answers, in any slice.
use mathlib.Core.Bool.{Bool, true, false}
use mathlib.Core.List.{List}
use mathlib.Core.Logic.{◌↔◌}
use mathlib.Core.Path.{◌≡◌, refl, subst}
use Prim.Native.Nat.{ℕ}
use native.Mathlib.Omega.{arith}
use Rattle.util.specs.Outcome.{Outcome}
use Rattle.store.specs.Answer.{says, refuses}
use Rattle.store.specs.Layout.{cap}
use Rattle.store.specs.Word.{Member}
use Rattle.store.proofs.Geometry.{is_store_lem}
use Rattle.set_edit.specs.Calls.{move_of, add_of, remove_of}
use Rattle.set_edit.proofs.Edits.{store_moved}
use Rattle.set_laws.proofs.Theorems.{move_leaves, move_room, other_after}
use Rattle.set_free.specs.Calls.{first_free_of}
use Rattle.set_free.proofs.Header.{header_unseen}

moved_unseen : (b : Bool) (past : Outcome (List ℕ)) (s : List ℕ) → past.lent ≡ s → first_free_of (move_of b past s 0).lent ≡ first_free_of s
moved_unseen b past s e =
    move_leaves b past s 0 e (λ t. first_free_of t ≡ first_free_of s) refl
    (λ z g. header_unseen (store_moved b (cap s) s 0 z) z
    (λ i a. subst (λ (t : List ℕ). Member t i ↔ Member s i) (move_room b past z 0 g) (other_after b past s 0 i (is_store_lem z) g (λ q. omega (arith, q)))))

pub added_unseen : (s : List ℕ) → first_free_of (add_of s 0).lent ≡ first_free_of s
added_unseen s = moved_unseen true (refuses 3 s) s refl

pub removed_unseen : (s : List ℕ) → first_free_of (remove_of s 0).lent ≡ first_free_of s
removed_unseen s = moved_unseen false (says false s) s refl
