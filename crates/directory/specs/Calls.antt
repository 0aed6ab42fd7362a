-- What the directory's calls answer and leave, for all inputs. Document 02, request 1, over the set's promises.
use Rattle.std.specs.Prelude.{Bool, cond, ◌&&◌, List, ℕ, leb, ltb, eqb, length, get_or, set, replicate}
use Rattle.util.specs.Outcome.{Outcome}
use Rattle.store.specs.Answer.{gives, does, refuses, refusal_number, value_of}
use Rattle.store.specs.Layout.{cap, is_store}
use Rattle.set_edit.specs.Calls.{add_of, remove_of}
use Rattle.set_free.specs.Calls.{first_free_of}
use Rattle.set_whole.specs.Calls.{open_refusal, open_of}

-- "one store and one byte per chunk for the owner, 0 for free .. which are always lent together"
pub record Directory : Type 0 where
  pub store : List ℕ
  pub owners : List ℕ

abbrev pub directory : List ℕ → List ℕ → Directory
directory s o = record { store = s; owners = o }

-- the byte of chunk i
abbrev pub owner_at : Directory → ℕ → ℕ
owner_at d i = get_or d.owners i 0

-- refused by the number, if it is one; else the outcome
abbrev pub unless : ℕ → Directory → Outcome Directory → Outcome Directory
unless r d o = cond (eqb r 0) o (refuses r d)

-- ---- refusals, in their order

-- "items .. numbered 1 to 200"
unfoldable pub is_item : ℕ → Bool
is_item x = leb 1 x && leb x 200

-- opening: 1 and 2 as the set refuses, then "owner bytes not N long 13", by the N given
unfoldable pub room_refusal : ℕ → ℕ → ℕ → ℕ
room_refusal words bytes N = let r = open_refusal N words in cond (eqb r 0) (cond (eqb bytes N) 0 13) r

-- the others: "after 2, owner bytes not N long 13, item number out of range 14"
unfoldable pub item_refusal : Directory → ℕ → ℕ
item_refusal d x = cond (is_store d.store) (cond (eqb (length d.owners) (cap d.store)) (cond (is_item x) 0 14) 13) 2

-- "return of a chunk at or past N or whose owner byte is not that item 15"
unfoldable pub return_refusal : Directory → ℕ → ℕ → ℕ
return_refusal d x c =
    let r = item_refusal d x in
    cond (eqb r 0) (cond (ltb c (cap d.store) && eqb (owner_at d c) x) 0 15) r

-- ---- the calls

-- "Opening empties store and bytes"
unfoldable pub directory_open_of : Directory → ℕ → Outcome Directory
directory_open_of d N =
    unless (room_refusal (length d.store) (length d.owners) N) d (does (directory (open_of d.store N).lent (replicate N 0)))

-- "Give takes the lowest free chunk", which is by the store; "last, give with none free 12", as the search refuses
unfoldable pub give_of : Directory → ℕ → Outcome Directory
give_of d x =
    let f = first_free_of d.store in
    let c = value_of f in
    unless (item_refusal d x) d (unless (refusal_number f) d (gives c (directory (add_of d.store c).lent (set d.owners c x))))

-- "return needs the item that owns it .. return removes the chunk and zeroes its byte"
unfoldable pub take_back_of : Directory → ℕ → ℕ → Outcome Directory
take_back_of d x c = unless (return_refusal d x c) d (does (directory (remove_of d.store c).lent (set d.owners c 0)))
