-- What a caller wants: the program's store is a store and sound whatever lines were read, so its line `w` names exactly the members, rising.
use mathlib.Core.Bool.{Bool, true, false}
use mathlib.Core.List.{List, [], ◌∷◌}
use mathlib.Core.Path.{◌≡◌, refl, sym, ◌∙◌, subst}
use Prim.Native.Nat.{ℕ}
use native.Mathlib.Omega.{arith}
use borrow.Author.Tests.{eq-eqb}
use lib.ListN.{length}
use Rattle.util.specs.Outcome.{Outcome, Settled}
use Rattle.store.specs.Answer.{says, refuses, did_paper}
use Rattle.store.specs.Layout.{cap, is_cap, is_store, store_len}
use Rattle.store.specs.Word.{members, Words64}
use Rattle.store.specs.declared.Refusal.{Refusal}
use Rattle.std.specs.Prelude.{Result}
use Rattle.store.proofs.Ends.{length_is}
use Rattle.store.proofs.Geometry.{is_store_lem}
use Rattle.store.proofs.Members.{own}
use Rattle.set_edit.specs.Calls.{move_of}
use Rattle.set_edit.proofs.Edits.{store_moved}
use Rattle.set_laws.proofs.Theorems.{move_leaves, sound_after_add, sound_after_remove}
use Rattle.set_whole.specs.Calls.{open_refusal, open_of}
use Rattle.set_whole.proofs.Theorems.{opened}
use Rattle.listing_line.specs.declared.Command.{Command}
use Rattle.listing_line.specs.declared.Command.TheVariants.{Add, Remove, Contains, List as Members, Unknown}
use Rattle.listing_members.specs.Members.{line_of, Named}
use Rattle.listing_members.proofs.Theorems.{line_members}
use Rattle.listing_replies.specs.Replies.{after_of, printed_of, Good, after_all, listing_store}

-- a store stays one
store_stays : (b : Bool) (past : Outcome (List ℕ)) (s : List ℕ) (i : ℕ) → past.lent ≡ s → is_store s ≡ true → is_store (move_of b past s i).lent ≡ true
store_stays b past s i same h = move_leaves b past s i same (λ t. is_store t ≡ true) h (λ z l. is_store_lem (store_moved b (cap s) s i z))

-- ONE LINE keeps it
pub good-after : (s : List ℕ) (c : Command) → Good s → Good (after_of s c)
good-after s (Add i) g = record { store = store_stays true (refuses 3 s) s i refl g.store; sound = sound_after_add s i g.sound }
good-after s (Remove i) g = record { store = store_stays false (says false s) s i refl g.store; sound = sound_after_remove s i g.sound }
good-after s (Contains i) g = g
good-after s Members g = g
good-after s Unknown g = g

-- and so do all
good-all : (s : List ℕ) (l : List Command) → Good s → Good (after_all s l)
unfolding after_all
good-all s [] g = g
good-all s (c ∷ l) g = good-all (after_of s c) l (good-after s c g)

good_opened : Good listing_store
good_opened = let o = (opened 262144 (omega arith) (omega arith)).0 in record { store = is_store_lem o.is; sound = (own o).sound }

-- what opening leaves of 4,163 words, and so what lines leave of it
pub good_open : (s : List ℕ) → 4163 ≡ length s → {r : Result (Unit {0}) Refusal} {t : List ℕ} → Settled did_paper (open_of s 262144) r t → Good t
unfolding open_of open_refusal is_cap
good_open s l {t = t} a =
    let n : store_len 262144 ≡ 4163 = length_is 262144 (omega arith) (omega arith) in
    let e : (open_of s 262144).lent ≡ listing_store = rw (eq-eqb (length s) (store_len 262144) (sym (n ∙ l))) in
    subst Good (sym (a.memory ∙ e)) good_opened

pub good_always : (l : List Command) → Good (after_all listing_store l)
good_always l = good-all listing_store l good_opened

-- THE LISTING'S `w`, after any lines: exactly the members, each once, rising
pub names_members : (s : List ℕ) → Good s → Words64 s → (n : ℕ) → (printed_of s Members n ≡ line_of (members s)) × Named s (members s)
names_members s g small n = let m = line_members s g.store small g.sound in (m.line, m)
