-- A member that is at hand is what next answers, at any budget.
use mathlib.Core.Bool.{Bool, true, false, cond}
use mathlib.Core.List.{List}
use mathlib.Core.Path.{◌≡◌, refl, sym, ap, ◌∙◌}
use Prim.Native.Nat.{ℕ}
use Rattle.std.specs.Prelude.{Some, None}
use Rattle.export_quick.specs.Handing.{ready_of, handed_id, handed_of, quick_of, quick_words}
use Rattle.export_quick.proofs.Quickly.{quick_next, quick_put}
use Rattle.export_step.specs.Answers.{moved_of, cursor_after}
use Rattle.export_walk.specs.Walk.{walk_stepped}
use Rattle.walk.specs.declared.Step.{Step}

module _ (s l : List ℕ) where
  at_hand : (b : Bool) {v : ℕ} → Some v ≡ cond b (Some (handed_id l)) None → (b ≡ true) × (v ≡ handed_id l)
  at_hand true e = (refl, cc)
  at_hand false e = cc

  pub quick_told : (v b : ℕ) → Some v ≡ quick_of s l → record { which = 1; value = v } ≡ moved_of (walk_stepped s l b)
  quick_told v b e =
      let h = at_hand (ready_of s l) e in
      ap (λ (x : ℕ). record { which = 1; value = x }) h.1 ∙ sym (ap moved_of (quick_next s l h.0 b))

  pub quick_left : (v b : ℕ) {w : List ℕ} → Some v ≡ quick_of s l → w ≡ quick_words s l → w ≡ cursor_after (walk_stepped s l b) l
  quick_left v b e f =
      let h = at_hand (ready_of s l) e in
      let g : quick_words s l ≡ handed_of l = rw h.0 in
      f ∙ g ∙ sym (quick_put s l h.0) ∙ sym (ap (λ (x : Step). cursor_after x l) (quick_next s l h.0 b))

  pub quick_none : {w : List ℕ} → None ≡ quick_of s l → w ≡ quick_words s l → w ≡ l
  quick_none = go (ready_of s l)
    where
      go : (b : Bool) {w : List ℕ} → None ≡ cond b (Some (handed_id l)) None → w ≡ cond b (handed_of l) l → w ≡ l
      go true e f = cc
      go false e f = f
