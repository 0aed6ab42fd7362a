-- What holds of a directory after any calls. Document 02: "Over any calls, chunks given less chunks returned since the last opening, counted from
-- the history, equals the number of members, and each member has one owner."
use Rattle.std.specs.Prelude.{Bool, true, false, cond, List, [], ◌∷◌, ◌↔◌, ◌≡◌, ℕ, suc, ◌+◌, ◌≤◌, eqb, length}
use Rattle.util.specs.Outcome.{Outcome}
use Rattle.store.specs.Answer.{refuses, refusal_number, value_of}
use Rattle.store.specs.Layout.{cap}
use Rattle.store.specs.Word.{Member, count_below, SoundStore}
use Rattle.set_free.specs.Calls.{search_start}
use Rattle.directory.specs.Calls.{Directory, owner_at, is_item, directory_open_of, give_of, take_back_of}

-- one of the three calls, with any arguments
pub data DirectoryCall : Type 0 where
  opening : (n : ℕ) → DirectoryCall
  giving : (item : ℕ) → DirectoryCall
  returning : (item chunk : ℕ) → DirectoryCall

abbrev pub outcome_of : Directory → DirectoryCall → Outcome Directory
outcome_of d (opening n) = directory_open_of d n
outcome_of d (giving x) = give_of d x
outcome_of d (returning x c) = take_back_of d x c

-- ---- counted from the history: from the calls and their answers alone

-- whether an opening was accepted; chunks given and returned since the last one; and, of each chunk, the item that it was last given to, 0 once
-- it was returned
pub record Figures : Type 0 where
  pub opened : Bool
  pub given : ℕ
  pub returned : ℕ
  pub owner : ℕ → ℕ

-- nothing was called yet
abbrev pub no_figures : Figures
no_figures = record { opened = false; given = 0; returned = 0; owner = λ i. 0 }

-- of chunk c, another item
abbrev pub owned_by : (ℕ → ℕ) → ℕ → ℕ → ℕ → ℕ
owned_by f c x i = cond (eqb i c) x (f i)

-- a call that was accepted, with the value of its answer
abbrev pub after_accepted : Figures → DirectoryCall → ℕ → Figures
after_accepted f (opening n) v = record { opened = true; given = 0; returned = 0; owner = λ i. 0 }
after_accepted f (giving x) v = record { opened = f.opened; given = suc f.given; returned = f.returned; owner = owned_by f.owner v x }
after_accepted f (returning x c) v = record { opened = f.opened; given = f.given; returned = suc f.returned; owner = owned_by f.owner c 0 }

-- one that was refused counts nothing
abbrev pub figures_after : Figures → DirectoryCall → Outcome Directory → Figures
figures_after f k o = cond (eqb (refusal_number o) 0) (after_accepted f k (value_of o)) f

-- ---- calls in a row, each on what the one before it left

pub record History : Type 0 where
  pub now : Directory
  pub figures : Figures

abbrev pub one_more : History → DirectoryCall → History
one_more h k = let o = outcome_of h.now k in record { now = o.lent; figures = figures_after h.figures k o }

abbrev pub go_on_with : History → List DirectoryCall → History
go_on_with h [] = h
go_on_with h (k ∷ ks) = go_on_with (one_more h k) ks

-- from any slices
abbrev pub history_of : Directory → List DirectoryCall → History
history_of d ks = go_on_with (record { now = d; figures = no_figures }) ks

-- ---- what is claimed once an opening was accepted

-- item x owns chunk i: its byte says so
pub record Owns (d : Directory) (x i : ℕ) : Type 0 where
  pub item : is_item x ≡ true
  pub byte : owner_at d i ≡ x

-- the number of members
abbrev pub chunks_taken : Directory → ℕ
chunks_taken d = let s = d.store in count_below (cap s) s (cap s)

pub record InOrder (h : History) : Type 0 where
  -- the store is sound, and has one byte per chunk
  pub sound : SoundStore (cap h.now.store) h.now.store
  pub long : length h.now.owners ≡ cap h.now.store
  -- "chunks given less chunks returned since the last opening .. equals the number of members"
  pub balance : h.figures.given ≡ h.figures.returned + chunks_taken h.now
  -- "each member has one owner", and what is no member has none: its byte is 0
  pub owned : (i : ℕ) → Member h.now.store i ↔ ((x : ℕ) × Owns h.now x i)
  pub one : (x y i : ℕ) → Owns h.now x i → Owns h.now y i → x ≡ y
  pub none : (i : ℕ) → (Member h.now.store i → ⊥) → owner_at h.now i ≡ 0
  -- the owner is the item that the chunk was last given to
  pub told : (i : ℕ) → owner_at h.now i ≡ h.figures.owner i
  -- no chunk below the search's first is ever given
  pub from : (i : ℕ) → Member h.now.store i → search_start ≤ i

-- "chunk 0 always belongs to the container header": no item has it, and none can return it
pub record HeaderKept (d : Directory) : Type 0 where
  pub free : Member d.store 0 → ⊥
  pub byte : owner_at d 0 ≡ 0
  pub stays : (x : ℕ) → is_item x ≡ true → take_back_of d x 0 ≡ refuses 15 d

-- ---- "Give takes the lowest free chunk, so returned chunks are used again"

-- whether a call gave a chunk
abbrev pub gave : DirectoryCall → Outcome Directory → Bool
gave (opening n) o = false
gave (giving x) o = eqb (refusal_number o) 0
gave (returning x c) o = false

-- none of the calls in a row does
abbrev pub NoneGiven : Directory → List DirectoryCall → Type 0
NoneGiven d [] = Unit {0}
NoneGiven d (k ∷ ks) = let o = outcome_of d k in (gave k o ≡ false) × NoneGiven o.lent ks

-- the next chunk given after chunk c was returned in d, whatever is called in between: c, or a lower one
abbrev pub UsedAgain : Directory → ℕ → Type 0
UsedAgain d c =
    (ks : List DirectoryCall) (x : ℕ) → let e = (history_of d ks).now in
    NoneGiven d ks → refusal_number (give_of e x) ≡ 0 → value_of (give_of e x) ≤ c
