-- NO CLAIM IS EMPTY: slices of the right lengths are opened, and then a chunk is given and returned, or none where there is the header alone.
use mathlib.Core.Bool.{true}
use mathlib.Core.List.{List, [], ◌∷◌}
use mathlib.Core.Logic.{⊎_elim}
use mathlib.Core.Path.{◌≡◌, refl, sym, ap, ◌∙◌}
use Prim.Native.Nat.{ℕ, ◌<◌}
use native.Mathlib.Omega.{arith}
use borrow.Author.Tests.{eq-eqb}
use lib.ListN.{length, replicate}
use Rattle.store.specs.Answer.{gives, does, refuses, refusal_number, value_of}
use Rattle.store.specs.Layout.{cap}
use Rattle.store.specs.Word.{Member, count_below, SoundStore}
use Rattle.set_free.specs.Calls.{search_start, first_free_of}
use Rattle.set_free.proofs.Lowest.{free_told, free_none}
use Rattle.set_whole.specs.Calls.{open_of}
use Rattle.set_whole.proofs.Theorems.{opened_by}
use Rattle.directory.specs.Calls.{Directory, directory, owner_at, is_item, room_refusal, item_refusal, directory_open_of, give_of, take_back_of}
use Rattle.directory.specs.History.{history_of, InOrder}
use Rattle.directory.specs.History.DirectoryCall.{opening, giving}
use Rattle.directory.proofs.Answers.{room_in, return_0}
use Rattle.directory.proofs.History.{in_order, in_order_ready}
use Rattle.directory.proofs.Header.{one-gives_none}

module _ (d : Directory) (N : ℕ) (room : room_refusal (length d.store) (length d.owners) N ≡ 0) where
  abbrev new : List ℕ
  new = (open_of d.store N).lent

  goes_through : directory_open_of d N ≡ does (directory new (replicate N 0))
  unfolding directory_open_of
  goes_through = rw (eq-eqb (room_refusal (length d.store) (length d.owners) N) 0 room)

  pub some_opens : (history_of d (opening N ∷ [])).figures.opened ≡ true
  some_opens = rw goes_through

  -- no chunk is taken then
  opened_new : SoundStore N new × ((i : ℕ) → Member new i → ⊥) × (count_below N new N ≡ 0)
  opened_new = opened_by d.store N (room_in (length d.store) (length d.owners) N room).0

  opened_free : (i : ℕ) → Member (history_of d (opening N ∷ [])).now.store i → ⊥
  opened_free = rw goes_through opened_new.1

  opened_cap : cap (history_of d (opening N ∷ [])).now.store ≡ N
  opened_cap = rw goes_through opened_new.0.is.names

  abbrev e : Directory
  e = (history_of d (opening N ∷ [])).now

  opened_order : InOrder (history_of d (opening N ∷ []))
  opened_order = in_order d (opening N ∷ []) some_opens

  opened_ready : (x : ℕ) → is_item x ≡ true → item_refusal e x ≡ 0
  opened_ready = in_order_ready opened_order

  -- of the header alone nothing is given
  pub none_given : N ≡ 1 → (x : ℕ) → is_item x ≡ true → give_of e x ≡ refuses 12 e
  none_given one x item = one-gives_none e x (opened_ready x item) (opened_cap ∙ one)

  module _ (some : search_start < N) (x : ℕ) (item : is_item x ≡ true) where
    pub some_given : refusal_number (give_of e x) ≡ 0
    unfolding give_of
    some_given = rw (opened_ready x item, found) refl
      where
        found : refusal_number (first_free_of e.store) ≡ 0
        found =
            let is = opened_order.sound.is in
            ⊎_elim
            (λ (g : (i : ℕ) × (first_free_of e.store ≡ gives i tt)). ap refusal_number g.1)
            (λ (g : first_free_of e.store ≡ refuses 12 tt). absurd (opened_free search_start ((free_none e.store is).0 g search_start (omega arith) (omega (arith, opened_cap)))))
            (free_told e.store is)

    abbrev c : ℕ
    c = value_of (give_of e x)

    -- and the chunk given is the item's, which may return it
    pub some_returned : refusal_number (take_back_of (give_of e x).lent x c) ≡ 0
    unfolding take_back_of
    some_returned = rw (sym (return_0 u x c (in_order_ready h x item) below byte)) refl
      where
        u : Directory
        u = (give_of e x).lent

        opened : (history_of d (opening N ∷ giving x ∷ [])).figures.opened ≡ true
        opened = rw some_given some_opens

        h : InOrder (history_of d (opening N ∷ giving x ∷ []))
        h = in_order d (opening N ∷ giving x ∷ []) opened

        byte : owner_at u c ≡ x
        byte = h.told c ∙ rw (some_given, eq-eqb c c refl) refl

        below : c < length u.owners
        below = omega (arith, ((h.owned c).1 (x, record { item = item; byte = byte })).below, h.long)
