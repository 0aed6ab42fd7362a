-- CHUNK 0 IS THE HEADER: "the directory follows".
use mathlib.Core.Bool.{true}
use mathlib.Core.List.{List}
use mathlib.Core.Logic.{◌≢◌}
use mathlib.Core.Path.{◌≡◌, sym, subst}
use Prim.Native.Nat.{ℕ, ◌<◌}
use native.Mathlib.Omega.{arith}
use lib.ListN.{length}
use Rattle.store.specs.Answer.{refuses, refusal_number, value_of}
use Rattle.store.specs.Layout.{cap, StoreOf}
use Rattle.store.specs.Word.{Member}
use Rattle.store.proofs.Geometry.{store_is}
use Rattle.set_free.proofs.Header.{one_is_full}
use Rattle.directory.specs.Calls.{Directory, owner_at, is_item, item_refusal, give_of, take_back_of}
use Rattle.directory.specs.History.{DirectoryCall, history_of, InOrder, HeaderKept}
use Rattle.directory.proofs.Answers.{item_in, for_item, return_15}
use Rattle.directory.proofs.Accepted.{give_lowest}
use Rattle.directory.proofs.History.{in_order, in_order_ready}

-- no chunk that is given is 0, in any slices
pub never_given : (d : Directory) (x : ℕ) → refusal_number (give_of d x) ≡ 0 → value_of (give_of d x) ≢ 0
never_given d x e z = omega (arith, z, (give_lowest d x e).from)

-- "a capacity of 1 is always full": a give that nothing else stands in the way of is refused by 12
pub one-gives_none : (d : Directory) (x : ℕ) → item_refusal d x ≡ 0 → cap d.store ≡ 1 → give_of d x ≡ refuses 12 d
unfolding give_of
one-gives_none d x j e = rw (j, one_is_full (subst (λ (n : ℕ). StoreOf n d.store) e (store_is (for_item d x j).is)))

-- OVER ANY LIST OF CALLS, from any slices: once an opening was accepted, byte 0 is 0, and a return of chunk 0 is refused by 15
module _ (d : Directory) (ks : List DirectoryCall) (opened : (history_of d ks).figures.opened ≡ true) where
  abbrev e : Directory
  e = (history_of d ks).now

  order : InOrder (history_of d ks)
  order = in_order d ks opened

  not_given : Member e.store 0 → ⊥
  not_given m = omega (arith, order.from 0 m)

  byte_0 : owner_at e 0 ≡ 0
  byte_0 = order.none 0 not_given

  refused : (x : ℕ) → is_item x ≡ true → take_back_of e x 0 ≡ refuses 15 e
  unfolding take_back_of
  refused x i = rw (sym (return_15 e x 0 (in_order_ready order x i) some other))
    where
      some : 0 < length e.owners
      some = omega (arith, order.long, order.sound.is.some)

      other : owner_at e 0 ≢ x
      other q = omega (arith, byte_0, q, (item_in x i).0)

  pub header_kept : HeaderKept e
  header_kept = record { free = not_given; byte = byte_0; stays = refused }
