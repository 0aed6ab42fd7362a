-- "DEMAND 3 READS THE DIRECTORY'S STORE LIKE ANY OTHER": over any calls of the directory, once an opening was accepted.
use mathlib.Core.Bool.{true}
use mathlib.Core.List.{List, Memᴰ}
use mathlib.Core.Logic.{◌↔◌}
use mathlib.Core.Path.{◌≡◌}
use Prim.Native.Nat.{ℕ}
use Rattle.store.specs.Layout.{cap}
use Rattle.walk.specs.declared.Cursor.{Cursor}
use Rattle.walk_laws.specs.Calls.{Ask}
use Rattle.walk_laws.specs.Walks.{walk_on}
use Rattle.directory.specs.Calls.{Directory}
use Rattle.directory.specs.History.{DirectoryCall, history_of, Owns}
use Rattle.directory.proofs.History.{in_order}
use Rattle.claims.specs.OneWalk.{OneWalked}
use Rattle.claims.specs.Reached.{Reached}
use Rattle.claims.proofs.Histories.{sound_reached}
use Rattle.claims.proofs.OneStore.{one-members}

module _ (d : Directory) (ks : List DirectoryCall) (opened : (history_of d ks).figures.opened ≡ true) where
  abbrev e : Directory
  e = (history_of d ks).now

  pub directory_reached : Reached (cap e.store) e.store
  directory_reached = sound_reached (in_order d ks opened).sound

  -- A WALK of it that ends has handed out exactly the members and reported the definition's reads
  pub directory-walked : (k : Cursor) (q : List Ask) → OneWalked e.store k q
  directory-walked = one-members directory_reached

  -- which are exactly the chunks that an item owns
  pub directory_listed : (k : Cursor) (q : List Ask) → (walk_on e.store k q).over ≡ true → (i : ℕ)
      → Memᴰ i (walk_on e.store k q).members ↔ ((x : ℕ) × Owns e x i)
  directory_listed k q over i =
      let w = (directory-walked k q over).exact i in
      let o = (in_order d ks opened).owned i in
      ((λ m. o.0 (w.0 m)), λ x. w.1 (o.1 x))
