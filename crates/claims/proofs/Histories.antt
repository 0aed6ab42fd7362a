-- Every reached store is a store of its capacity, of words, and sound; and every sound store is reached.
use mathlib.Core.Bool.{true}
use mathlib.Core.List.{List, [], ◌∷◌, Memᴰ}
use mathlib.Core.Logic.{◌↔◌, inl, ⊎_elim}
use mathlib.Core.Path.{◌≡◌, refl, sym, subst}
use Prim.Native.Nat.{ℕ, ◌≤◌, ◌<◌}
use native.Mathlib.Omega.{arith}
use borrow.Author.Tests.{eq-eqb, le-leb, lt-ltb}
use lib.ListN.{length}
use Rattle.store.specs.Build.{empty}
use Rattle.store.specs.Layout.{max_cap, is_cap, store_len, cap}
use Rattle.store.specs.Word.{Member, members, SoundStore}
use Rattle.store.proofs.Build.{fine_empty}
use Rattle.store.proofs.Geometry.{is_store_lem}
use Rattle.store.proofs.Members.{own, members_are, fine_same}
use Rattle.set_edit.specs.Calls.{all_below, add_list_of}
use Rattle.set_laws.proofs.Theorems.{fine_after_add, fine_after_remove, fine_after_list, member_add_list}
use Rattle.set_whole.specs.Calls.{open_refusal, open_of, clear_of}
use Rattle.set_whole.proofs.Theorems.{opened as opened-none}
use Rattle.summary.proofs.Said.{rebuild_same}
use Rattle.ops_merge.proofs.Theorems.{fine_merged}
use Rattle.map_laws.proofs.Theorems.{read_keeps}
use Rattle.claims.specs.Reached.{OneCall, Reached}
use Rattle.claims.specs.Reached.OneCall.{adds, removes, lists, clears, rebuilds, merges, reads}
use Rattle.claims.specs.Reached.Reached.{opened, after}

fine_clear : {N : ℕ} {s : List ℕ} → SoundStore N s → SoundStore N (clear_of s).lent
unfolding clear_of
fine_clear {N} f = rw (is_store_lem f.is, f.is.names) (fine_empty N f.is.some f.is.most)

cap_is : {N : ℕ} → 1 ≤ N → N ≤ max_cap → is_cap N ≡ true
unfolding is_cap
cap_is {N} some most = rw (le-leb 1 N some, le-leb N max_cap most)

-- "Open zeroes all words and writes N."
pub open_empties : {N : ℕ} (s : List ℕ) → 1 ≤ N → N ≤ max_cap → length s ≡ store_len N → (open_of s N).lent ≡ empty N
unfolding open_of open_refusal
open_empties {N} s some most l = rw (cap_is some most, eq-eqb (length s) (store_len N) l)

pub fine_open : {N : ℕ} (s : List ℕ) → 1 ≤ N → N ≤ max_cap → length s ≡ store_len N → SoundStore N (open_of s N).lent
fine_open {N} s some most l = subst (SoundStore N) (sym (open_empties s some most l)) (fine_empty N some most)

-- ONE CALL on a sound store leaves a sound store of its capacity.
pub fine_one : {N : ℕ} {s u : List ℕ} → SoundStore N s → OneCall N s u → SoundStore N u
fine_one f (adds i) = fine_after_add f i
fine_one f (removes i) = fine_after_remove f i
fine_one f (lists ids) = fine_after_list f ids
fine_one f clears = fine_clear f
fine_one {N} {s} f rebuilds = let g = own f in subst (SoundStore N) (sym (rebuild_same s g.is g.words g.sound)) f
fine_one f (merges g op v) = fine_merged f g v
fine_one f (reads m) = read_keeps m f

-- A REACHED STORE is a store of its capacity, of words, and sound.
pub reached_fine : {N : ℕ} {s : List ℕ} → Reached N s → SoundStore N s
reached_fine (opened s some most l) = fine_open s some most l
reached_fine (after r c) = fine_one (reached_fine r) c

-- ---- EVERY SOUND STORE IS REACHED: opened, and its members added

-- ids that are below N, one by one, are so together
below_each : (N : ℕ) (ids : List ℕ) → ((j : ℕ) → Memᴰ j ids → j < N) → all_below N ids ≡ true
unfolding all_below
below_each N [] h = refl
below_each N (i ∷ l) h = rw (lt-ltb i N (h i (Memᴰ.head refl)), below_each N l (λ j m. h j (Memᴰ.tail m)))

pub sound_reached : {N : ℕ} {s : List ℕ} → SoundStore N s → Reached N s
sound_reached {N} {s} f =
    let z = f.is in
    let e : Reached N (empty N) = subst (Reached N) (open_empties s z.some z.most z.long) (opened s z.some z.most z.long) in
    subst (Reached N) same (after e (lists (members s)))
  where
    none : SoundStore N (empty N) × ((i : ℕ) → Member (empty N) i → ⊥)
    none = opened-none N f.is.some f.is.most

    fits : all_below (cap (empty N)) (members s) ≡ true
    fits = below_each N (members s) (λ j m. omega (arith, ((members_are s j).0 m).below, f.is.names))

    one : (j : ℕ) → Member (add_list_of (empty N) (members s)).lent j ↔ Member s j
    one j =
        let m = member_add_list (empty N) (members s) j (is_store_lem none.0.is) fits in
        (λ h. ⊎_elim (λ q. (members_are s j).0 q) (λ q. absurd (none.1 j q)) (m.0 h), λ h. m.1 (inl ((members_are s j).1 h)))

    same : (add_list_of (empty N) (members s)).lent ≡ s
    same = fine_same (fine_after_list none.0 (members s)) f one
