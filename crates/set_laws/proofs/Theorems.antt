-- What a caller wants of the calls, for every slice and id: soundness is kept, the members change as said and not otherwise, and the
-- answers speak of membership.
use mathlib.Core.Bool.{Bool, true, false, cond, ◌&&◌, true≢false}
use mathlib.Core.List.Memᴰ
use mathlib.Core.List.{List, [], ◌∷◌, Memᴰ}
use mathlib.Core.Logic.{◌≢◌, ◌↔◌, ◌⊎◌, inl, inr, ⊎_elim}
use mathlib.Core.Path.{◌≡◌, refl, sym, ap, ◌∙◌, subst}
use Prim.Native.Nat.{ℕ, suc, ◌+◌, ◌≤◌, ◌<◌}
use native.Mathlib.Decide.{dec_lt, ℕ_discrete}
use native.Mathlib.Omega.{arith}
use borrow.Author.Tests.{le-ltb, lt-ltb, ltb-true}
use lib.Dec.{ltb}
use lib.ListN.{length}
use Rattle.util.specs.Outcome.{Outcome}
use Rattle.util.proofs.Same.{both}
use Rattle.store.specs.Answer.{says, does, refuses}
use Rattle.store.specs.Layout.{store_len, cap, is_store, StoreOf}
use Rattle.store.specs.Word.{on, Member, count_below, Sound, SoundStore}
use Rattle.store.proofs.Answers.{says_yes}
use Rattle.store.proofs.Geometry.{store_is, is_store_lem}
use Rattle.store.proofs.Members.{member-on, on-member, own}
use Rattle.store.proofs.Words.{on_lt}
use Rattle.set_member.specs.Calls.{holds, is_member, contains_of}
use Rattle.set_member.proofs.Tested.{is_member_lem}
use Rattle.set_edit.specs.Calls.{move_of, add_of, remove_of, all_below, add_all, add_list_of}
use Rattle.set_edit.specs.Edit.{moved_by}
use Rattle.set_edit.proofs.Edits.{cap_moved, store_moved}
use Rattle.set_laws.proofs.Moves.{sound_moved, fine_moved, on_moved_same, on_moved_other, count_moved_beyond}

-- ---- `contains` says yes exactly for a member

pub contains_member : (s : List ℕ) (i : ℕ) → is_store s ≡ true → (contains_of s i ≡ says true tt) ↔ Member s i
unfolding contains_of
contains_member s i h =
    let asked : contains_of s i ≡ says (is_member s i) tt = rw h in (
      λ e. (is_member_lem s i).0 (says_yes (is_member s i) (sym asked ∙ e)),
      λ m. asked ∙ ap (λ (b : Bool). says b tt) ((is_member_lem s i).1 m),
    )

-- ---- adding and removing, as one

-- THE CALL TAKEN APART: what holds of the store as it was, and of the store with the id moved, holds of what it leaves
pub move_leaves : (b : Bool) (past : Outcome (List ℕ)) (s : List ℕ) (i : ℕ) → past.lent ≡ s → (P : List ℕ → Type 0)
    → P s → (StoreOf (cap s) s → i < cap s → P (moved_by b (cap s) s i)) → P (move_of b past s i).lent
unfolding move_of
move_leaves b past s i same P was now = go (is_store s) refl (ltb i (cap s)) refl
  where
    go : (x : Bool) → is_store s ≡ x → (y : Bool) → ltb i (cap s) ≡ y
        → P (cond x (cond y (says (holds (cap s) s i) (moved_by b (cap s) s i)) past) (refuses 2 s)).lent
    go true e true f = now (store_is e) (ltb-true i (cap s) f)
    go true e false f = subst P (sym same) was
    go false e y f = was

-- an id with room in a store
pub move_room : (b : Bool) (past : Outcome (List ℕ)) {N : ℕ} {s : List ℕ} → StoreOf N s → (i : ℕ) → i < N → (move_of b past s i).lent ≡ moved_by b N s i
unfolding move_of
move_room b past {N} z i h = rw (is_store_lem z, z.names, lt-ltb i N h)

module _ (b : Bool) (past : Outcome (List ℕ)) where
  pub cap-after : (s : List ℕ) (i : ℕ) → past.lent ≡ s → cap (move_of b past s i).lent ≡ cap s
  cap-after s i e = move_leaves b past s i e (λ t. cap t ≡ cap s) refl (λ z h. cap_moved b (cap s) s i)

  pub fine_after : {N : ℕ} {s : List ℕ} → SoundStore N s → (i : ℕ) → past.lent ≡ s → SoundStore N (move_of b past s i).lent
  fine_after {N} {s} f i e =
      let g = own f in
      subst (λ (n : ℕ). SoundStore n (move_of b past s i).lent) f.is.names (move_leaves b past s i e (SoundStore (cap s)) g (λ z h. fine_moved b g i h))

  -- soundness is kept by any list of numbers that is sound, store or not
  pub sound_after : (s : List ℕ) (i : ℕ) → past.lent ≡ s → Sound (cap s) s → Sound (cap (move_of b past s i).lent) (move_of b past s i).lent
  sound_after s i e z =
      subst (λ (n : ℕ). Sound n (move_of b past s i).lent) (sym (cap-after s i e))
      (move_leaves b past s i e (Sound (cap s)) z (λ y h. sound_moved (cap s) s i y.long h z b))

-- ---- `add` keeps soundness; its members are those before and the id

pub sound_after_add : (s : List ℕ) (i : ℕ) → Sound (cap s) s → Sound (cap (add_of s i).lent) (add_of s i).lent
sound_after_add s i z = sound_after true (refuses 3 s) s i refl z

pub fine_after_add : {N : ℕ} {s : List ℕ} → SoundStore N s → (i : ℕ) → SoundStore N (add_of s i).lent
fine_after_add {s = s} f i = fine_after true (refuses 3 s) f i refl

-- ---- `remove` keeps soundness; its members are those before but for the id

pub sound_after_remove : (s : List ℕ) (i : ℕ) → Sound (cap s) s → Sound (cap (remove_of s i).lent) (remove_of s i).lent
sound_after_remove s i z = sound_after false (says false s) s i refl z

pub fine_after_remove : {N : ℕ} {s : List ℕ} → SoundStore N s → (i : ℕ) → SoundStore N (remove_of s i).lent
fine_after_remove {s = s} f i = fine_after false (says false s) f i refl

-- a member afterwards
module _ (b : Bool) (past : Outcome (List ℕ)) (s : List ℕ) (i j : ℕ) (h : is_store s ≡ true) (g : i < cap s) where
  abbrev t : List ℕ
  t = (move_of b past s i).lent

  is : t ≡ moved_by b (cap s) s i
  is = move_room b past (store_is h) i g

  names : cap t ≡ cap s
  names = ap cap is ∙ cap_moved b (cap s) s i

  pub id-after : on (cap s) t 0 i ≡ cond b 1 0
  id-after = rw is (on_moved_same b (cap s) s i (store_is h).long g)

  pub other_after : j ≢ i → Member t j ↔ Member s j
  other_after n =
      let e : on (cap s) t 0 j ≡ on (cap s) s 0 j = rw is (on_moved_other b (cap s) s i (store_is h).long g j n) in (
        λ m. let o = member-on names m in record { below = o.0; held = sym e ∙ o.1 },
        λ m. on-member names m.below (e ∙ m.held),
      )

pub member_add : (s : List ℕ) (i j : ℕ) → is_store s ≡ true → i < cap s → Member (add_of s i).lent j ↔ ((j ≡ i) ⊎ Member s j)
member_add s i j h g = go (ℕ_discrete j i)
  where
    go : Dec (j ≡ i) → Member (add_of s i).lent j ↔ ((j ≡ i) ⊎ Member s j)
    go (yes e) = (
      λ m. inl e,
      λ m. on-member (names true (refuses 3 s) s i j h g) (subst (λ (x : ℕ). x < cap s) (sym e) g) (ap (on (cap s) (add_of s i).lent 0) e ∙ id-after true (refuses 3 s) s i j h g),
    )
    go (no n) = let o = other_after true (refuses 3 s) s i j h g n in (λ m. inr (o.0 m), ⊎_elim (λ e. absurd (n e)) (λ m. o.1 m))

-- "`contains` and `remove` for an id at or past N answer no and change nothing."
pub remove_past : (s : List ℕ) (i : ℕ) → is_store s ≡ true → cap s ≤ i → remove_of s i ≡ says false s
unfolding move_of
remove_past s i h g = rw (h, le-ltb i (cap s) g)

-- for every id: one at or past N is no member, and nothing is changed
pub member_remove : (s : List ℕ) (i j : ℕ) → is_store s ≡ true → Member (remove_of s i).lent j ↔ ((j ≢ i) × Member s j)
member_remove s i j h = go (dec_lt i (cap s)) (ℕ_discrete j i)
  where
    go : Dec (i < cap s) → Dec (j ≡ i) → Member (remove_of s i).lent j ↔ ((j ≢ i) × Member s j)
    go (yes g) (yes e) = (
      λ m. absurd (omega (arith, id-after false (says false s) s i j h g, ap (on (cap s) (remove_of s i).lent 0) (sym e) ∙ (member-on (names false (says false s) s i j h g) m).1)),
      λ m. absurd (m.0 e),
    )
    go (yes g) (no n) = let o = other_after false (says false s) s i j h g n in (λ m. (n, o.0 m), λ m. o.1 m.1)
    go (no g) d =
        subst (λ (t : List ℕ). Member t j ↔ ((j ≢ i) × Member s j)) (sym (ap (λ (o : Outcome (List ℕ)). o.lent) (remove_past s i h (omega (arith, g)))))
        (λ m. ((λ e. g (subst (λ (x : ℕ). x < cap s) e m.below)), m), λ m. m.1)

-- ---- HOW MANY members are below any id beyond the one moved

module _ (s : List ℕ) (i : ℕ) (h : is_store s ≡ true) (a : ℕ) (beyond : i < a) where
  count-after : (b : Bool) (past : Outcome (List ℕ)) → i < cap s
      → count_below (cap s) (move_of b past s i).lent a + on (cap s) s 0 i ≡ count_below (cap s) s a + cond b 1 0
  count-after b past g = rw (move_room b past (store_is h) i g) (count_moved_beyond b (cap s) s i (store_is h).long g a beyond)

  -- one more, where the id was none
  pub count_add : i < cap s → (Member s i → ⊥) → count_below (cap s) (add_of s i).lent a ≡ suc (count_below (cap s) s a)
  count_add g none = go (ℕ_discrete (on (cap s) s 0 i) 1)
    where
      go : Dec (on (cap s) s 0 i ≡ 1) → count_below (cap s) (add_of s i).lent a ≡ suc (count_below (cap s) s a)
      go (yes e) = absurd (none (record { below = g; held = e }))
      go (no n) = omega (arith, count-after true (refuses 3 s) g, on_lt (cap s) s 0 i)

  -- one less, where it was one
  pub count_remove : Member s i → suc (count_below (cap s) (remove_of s i).lent a) ≡ count_below (cap s) s a
  count_remove m = omega (arith, count-after false (says false s) m.below, m.held)

-- ---- THE ANSWERS of `add` and `remove`: what `contains` would have said before

as_contains : (b : Bool) (past : Outcome (List ℕ)) (s : List ℕ) (i : ℕ) → (ltb i (cap s) ≡ false → past.numbers ≡ (says false s).numbers)
    → (move_of b past s i).numbers ≡ (contains_of s i).numbers
unfolding move_of contains_of
as_contains b past s i out = go (is_store s) (ltb i (cap s)) refl
  where
    go : (x y : Bool) → ltb i (cap s) ≡ y
        → (cond x (cond y (says (holds (cap s) s i) (moved_by b (cap s) s i)) past) (refuses 2 s)).numbers
        ≡ (cond x (says {X = Unit {0}} (y && holds (cap s) s i) tt) (refuses 2 tt)).numbers
    go true true e = refl
    go true false e = out e
    go false y e = refl

-- an id with room, and of a removal every id, in every slice
pub add_as_contains : (s : List ℕ) (i : ℕ) → i < cap s → (add_of s i).numbers ≡ (contains_of s i).numbers
add_as_contains s i g = as_contains true (refuses 3 s) s i (λ e. absurd (true≢false (sym (lt-ltb i (cap s) g) ∙ e)))

pub remove_as_contains : (s : List ℕ) (i : ℕ) → (remove_of s i).numbers ≡ (contains_of s i).numbers
remove_as_contains s i = as_contains false (says false s) s i (λ e. refl)

yes_as : (s : List ℕ) (i : ℕ) → is_store s ≡ true → (o : Outcome (List ℕ)) → o.numbers ≡ (contains_of s i).numbers → (o ≡ says true o.lent) ↔ Member s i
yes_as s i h o e =
    let c = contains_member s i h in (
      λ q. c.0 (ap (λ (l : List ℕ). record { numbers = l; lent = tt }) (sym e ∙ ap (λ (p : Outcome (List ℕ)). p.numbers) q)),
      λ m. ap (λ (l : List ℕ). record { numbers = l; lent = o.lent }) (e ∙ ap (λ (p : Outcome (Unit {0})). p.numbers) (c.1 m)),
    )

-- "`add` answers whether the id was held already."
pub add_answers : (s : List ℕ) (i : ℕ) → is_store s ≡ true → i < cap s → (add_of s i ≡ says true (add_of s i).lent) ↔ Member s i
add_answers s i h g = yes_as s i h (add_of s i) (add_as_contains s i g)

-- "`remove` answers whether it was held.", for every id: past N the answer is no
pub remove_answers : (s : List ℕ) (i : ℕ) → is_store s ≡ true → (remove_of s i ≡ says true (remove_of s i).lent) ↔ Member s i
remove_answers s i h = yes_as s i h (remove_of s i) (remove_as_contains s i)

-- ---- a list of ids: each is added in turn

-- what each id added keeps, the list keeps
all_keep : (N : ℕ) (P : List ℕ → Type 0) → ((t : List ℕ) (i : ℕ) → StoreOf N t → i < N → P t → P (moved_by true N t i))
    → (s ids : List ℕ) → StoreOf N s → all_below N ids ≡ true → P s → P (add_all N s ids)
unfolding add_all all_below
all_keep N P one s [] y h p = p
all_keep N P one s (i ∷ l) y h p =
    let b = both (ltb i N) (all_below N l) h in
    all_keep N P one (moved_by true N s i) l (store_moved true N s i y) b.1 (one s i y (ltb-true i N b.0) p)

pub fine_add_all : {N : ℕ} {s : List ℕ} (ids : List ℕ) → SoundStore N s → all_below N ids ≡ true → SoundStore N (add_all N s ids)
fine_add_all {N} {s} ids f h = all_keep N (SoundStore N) (λ t i y g z. fine_moved true z i g) s ids f.is h f

cap-all : (s ids : List ℕ) → StoreOf (cap s) s → all_below (cap s) ids ≡ true → cap (add_all (cap s) s ids) ≡ cap s
cap-all s ids y h = all_keep (cap s) (λ t. cap t ≡ cap s) (λ t i z g e. cap_moved true (cap s) t i ∙ e) s ids y h refl

on_add : (N : ℕ) (s : List ℕ) (i : ℕ) → length s ≡ store_len N → i < N → (j : ℕ) → (on N (moved_by true N s i) 0 j ≡ 1) ↔ ((j ≡ i) ⊎ (on N s 0 j ≡ 1))
on_add N s i long hi j = go (ℕ_discrete j i)
  where
    go : Dec (j ≡ i) → (on N (moved_by true N s i) 0 j ≡ 1) ↔ ((j ≡ i) ⊎ (on N s 0 j ≡ 1))
    go (yes e) = (λ x. inl e, λ x. ap (on N (moved_by true N s i) 0) e ∙ on_moved_same true N s i long hi)
    go (no n) = let o = on_moved_other true N s i long hi j n in (λ x. inr (sym o ∙ x), ⊎_elim (λ e. absurd (n e)) (λ x. o ∙ x))

pub on_add_all : (N : ℕ) (s ids : List ℕ) → StoreOf N s → all_below N ids ≡ true → (j : ℕ)
    → (on N (add_all N s ids) 0 j ≡ 1) ↔ (Memᴰ j ids ⊎ (on N s 0 j ≡ 1))
unfolding add_all all_below
on_add_all N s [] y h j = ((λ x. inr x), ⊎_elim (λ m. absurd (Memᴰ.not-nil m)) (λ x. x))
on_add_all N s (i ∷ l) y h j =
    let b = both (ltb i N) (all_below N l) h in
    let first = on_add N s i y.long (ltb-true i N b.0) j in
    let rest = on_add_all N (moved_by true N s i) l (store_moved true N s i y) b.1 j in (
      λ x. ⊎_elim (λ q. inl (Memᴰ.tail q)) (λ q. ⊎_elim (λ e. inl (Memᴰ.head e)) (λ o. inr o) (first.0 q)) (rest.0 x),
      ⊎_elim
          (λ q. ⊎_elim (λ e. rest.1 (inr (first.1 (inl e)))) (λ t. rest.1 (inl t)) (Memᴰ.cases_cons q))
          (λ o. rest.1 (inr (first.1 (inr o)))),
    )

-- an id of a list that is taken has room
below_all : (N : ℕ) (ids : List ℕ) → all_below N ids ≡ true → (j : ℕ) → Memᴰ j ids → j < N
unfolding all_below
below_all N [] h j m = absurd (Memᴰ.not-nil m)
below_all N (i ∷ l) h j m =
    let b = both (ltb i N) (all_below N l) h in
    ⊎_elim (λ (e : j ≡ i). subst (λ (x : ℕ). x < N) (sym e) (ltb-true i N b.0)) (λ t. below_all N l b.1 j t) (Memᴰ.cases_cons m)

-- THE CALL TAKEN APART: what holds of the store as it was, and of the store with all ids added, holds of what it leaves
pub list_leaves : (s ids : List ℕ) (P : List ℕ → Type 0) → P s → (StoreOf (cap s) s → all_below (cap s) ids ≡ true → P (add_all (cap s) s ids)) → P (add_list_of s ids).lent
unfolding add_list_of
list_leaves s ids P was now = go (is_store s) refl (all_below (cap s) ids) refl
  where
    go : (x : Bool) → is_store s ≡ x → (y : Bool) → all_below (cap s) ids ≡ y
        → P (cond x (cond y (does (add_all (cap s) s ids)) (refuses 3 s)) (refuses 2 s)).lent
    go true e true f = now (store_is e) f
    go true e false f = was
    go false e y f = was

pub fine_after_list : {N : ℕ} {s : List ℕ} → SoundStore N s → (ids : List ℕ) → SoundStore N (add_list_of s ids).lent
fine_after_list {N} {s} f ids =
    let g = own f in
    subst (λ (n : ℕ). SoundStore n (add_list_of s ids).lent) f.is.names (list_leaves s ids (SoundStore (cap s)) g (λ y h. fine_add_all ids g h))

-- `add_list` keeps soundness, for every slice and list
pub sound_after_add_list : (s ids : List ℕ) → Sound (cap s) s → Sound (cap (add_list_of s ids).lent) (add_list_of s ids).lent
sound_after_add_list s ids z = list_leaves s ids (λ t. Sound (cap t) t) z all
  where
    all : StoreOf (cap s) s → all_below (cap s) ids ≡ true → Sound (cap (add_all (cap s) s ids)) (add_all (cap s) s ids)
    all y h =
        subst (λ (n : ℕ). Sound n (add_all (cap s) s ids)) (sym (cap-all s ids y h))
        (all_keep (cap s) (Sound (cap s)) (λ t i w g x. sound_moved (cap s) t i w.long g x true) s ids y h z)

-- "Adding a list of ids checks every id first, then adds all": the members are those before and the ids of the list
pub member_add_list : (s ids : List ℕ) (j : ℕ) → is_store s ≡ true → all_below (cap s) ids ≡ true → Member (add_list_of s ids).lent j ↔ (Memᴰ j ids ⊎ Member s j)
unfolding add_list_of
member_add_list s ids j h b = rw (h, b) (to, from)
  where
    names_all : cap (add_all (cap s) s ids) ≡ cap s
    names_all = cap-all s ids (store_is h) b

    bits : (on (cap s) (add_all (cap s) s ids) 0 j ≡ 1) ↔ (Memᴰ j ids ⊎ (on (cap s) s 0 j ≡ 1))
    bits = on_add_all (cap s) s ids (store_is h) b j

    to : Member (add_all (cap s) s ids) j → Memᴰ j ids ⊎ Member s j
    to m = let o = member-on names_all m in ⊎_elim (λ q. inl q) (λ x. inr (record { below = o.0; held = x })) (bits.0 o.1)

    from : Memᴰ j ids ⊎ Member s j → Member (add_all (cap s) s ids) j
    from (inl q) = on-member names_all (below_all (cap s) ids b j q) (bits.1 (inl q))
    from (inr m) = on-member names_all m.below (bits.1 (inr m.held))
