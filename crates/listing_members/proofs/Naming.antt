-- Ids put one after the other, and the line of them.
use Rattle.std.proofs.Common.{◌≡◌, refl, sym, ap, ◌∙◌, ℕ, true, false, List, [], ◌∷◌, ◌++◌, append_assoc, append-nil}
use Rattle.store.specs.Answer.{number}
use Rattle.store.specs.Layout.{is_store}
use Rattle.store.specs.declared.Refusal.{Refusal}
use Rattle.store.specs.declared.Refusal.TheVariants.{NoStore}
use Rattle.walk_batches.specs.Steps.{walked}
use Rattle.text_out.specs.Out.{spelled, decimal_of}
use Rattle.listing_printed.specs.Reply.{refused_end}
use Rattle.listing_members.specs.Members.{ids_of, line_of, members_line}

-- ids behind ids
pub ids_append : (x y : List ℕ) → ids_of (x ++ y) ≡ ids_of x ++ ids_of y
unfolding ids_of
ids_append [] y = refl
ids_append (i ∷ x) y =
    ap (λ (l : List ℕ). 32 ∷ (decimal_of i ++ l)) (ids_append x y) ∙ ap (λ (l : List ℕ). 32 ∷ l) (sym (append_assoc (decimal_of i) (ids_of x) (ids_of y)))

-- one id more
pub ids_more : (x : List ℕ) (i : ℕ) → ids_of (x ++ (i ∷ [])) ≡ ids_of x ++ (32 ∷ decimal_of i)
unfolding ids_of
ids_more x i = ids_append x (i ∷ []) ∙ ap (λ (l : List ℕ). ids_of x ++ (32 ∷ l)) (append-nil (decimal_of i))

-- ---- the line

pub members_line_is : (s : List ℕ) → is_store s ≡ true → members_line s ≡ line_of (walked s)
unfolding members_line
members_line_is s h = rw h

pub line_refused : (s : List ℕ) → is_store s ≡ false → {why : Refusal} → why ≡ NoStore → members_line s ≡ 119 ∷ refused_end (number why)
unfolding members_line spelled
line_refused s h e = rw (h, e)
