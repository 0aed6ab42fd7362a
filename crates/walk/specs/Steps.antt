-- What the private steps ask and leave; t is the number of the top layer.
use Rattle.std.specs.Prelude.{Bool, true, false, cond, List, [], ◌≡◌, ℕ, zero, suc, ◌-◌, ◌%◌, ◌≤◌, get_or}
use Rattle.store.specs.Layout.{top, cap, is_store}
unfoldable pub use Rattle.walk_masks.specs.Prefixes.{refusal_of}
use Rattle.walk.specs.Calls.{fits, Fine}
use Rattle.walk.specs.Walk.{Kind, low_layer, kind, place_at, handed, handled, more, descend, next}
use Rattle.walk.specs.Walk.Kind.{gives, reads, done}
use Rattle.walk.specs.declared.Cursor.{Cursor}
use Rattle.walk.specs.declared.Next.TheVariants.{Member, Paused, End}
use Rattle.walk.specs.declared.Step.{Step}
use Rattle.walk.specs.declared.Sunk.{Sunk}

-- what a walk of a store is refused for, by its number, or 0: refusals 2, then 7
unfoldable pub refusal_on : List ℕ → Cursor → ℕ
refusal_on s c =
    let N = cap s in
    cond (is_store s) (cond (fits (top N) c) 0 7) 2

-- the words of layers that are lent as lists, the lowest first
abbrev pub parts : List (List ℕ) → ℕ → ℕ → ℕ
parts ls k i = get_or (get_or ls k []) i 0

-- a word has to be read
abbrev pub is_reading : Kind → Bool
is_reading gives = false
is_reading (reads j) = true
is_reading done = false

-- the lowest bit of layer j + 1 was taken, and the word below it read
pub record Descended (lw : ℕ → ℕ → ℕ) (t j : ℕ) (c d : Cursor) : Type 0 where
  pub cursor : d ≡ descend lw t j c
  pub fine : Fine t d.prefix

-- Between r₀ and r reads of a budget b: next from c₀ is next from c, with the reads made since before it.
pub record Going (lw : ℕ → ℕ → ℕ) (t b r₀ : ℕ) (c₀ c : Cursor) (r : ℕ) : Type 0 where
  pub from : r₀ ≤ r
  pub spent : r ≤ b
  pub fine : Fine t c.prefix
  pub same : next lw t (b - r₀) c₀ ≡ more (r - r₀) (next lw t (b - r) c)

-- until no word is wanted or the budget is spent
pub record Sank (lw : ℕ → ℕ → ℕ) (t b r₀ : ℕ) (c : Cursor) (d : Sunk) : Type 0 where
  pub going : Going lw t b r₀ c d.cursor d.reads
  pub stopped : is_reading (kind t d.cursor) ≡ true → d.reads ≡ b

-- ---- the same for every cursor, its prefixes fine or not

-- the lowest bit of layer j + 1 is taken, and the word below it read
abbrev pub lowered : (ℕ → ℕ → ℕ) → ℕ → ℕ → Cursor → Cursor
lowered lw t j c = handled t j (lw j (place_at t c (suc j))) c

-- with what it is where they are fine
pub record Lowers (lw : ℕ → ℕ → ℕ) (t j : ℕ) (c d : Cursor) : Type 0 where
  pub is : d ≡ lowered lw t j c
  pub down : Fine t c.prefix → Descended lw t j c d

-- after r reads: so many words more are read, or as many as are wanted
unfoldable pub sunk : (ℕ → ℕ → ℕ) → ℕ → ℕ → ℕ → Cursor → Sunk
sunk lw t zero r c = record { cursor = c; reads = r }
sunk lw t (suc b) r c =
    let d = sunk lw t b (suc r) (lowered lw t (low_layer t c - 1) c) in
    cond (is_reading (kind t c)) d (record { cursor = c; reads = r })

pub record Sinks (lw : ℕ → ℕ → ℕ) (t b r₀ : ℕ) (c : Cursor) (d : Sunk) : Type 0 where
  pub is : d ≡ sunk lw t (b - r₀) r₀ c
  pub sank : Fine t c.prefix → r₀ ≤ b → Sank lw t b r₀ c d

-- what is answered after r reads where no word is read any more
abbrev pub finished_by : ℕ → ℕ → Cursor → Kind → Step
finished_by t r c gives = record { cursor = handed c; reads = r; answer = Member (place_at t c 0 % 4294967296) }
finished_by t r c (reads j) = record { cursor = c; reads = r; answer = Paused }
finished_by t r c done = record { cursor = c; reads = r; answer = End }

abbrev pub finished : ℕ → ℕ → Cursor → Step
finished t r c = finished_by t r c (kind t c)

pub record Finishes (t r : ℕ) (c : Cursor) (a : Step) : Type 0 where
  pub is : a ≡ finished t r c
  pub same : Fine t c.prefix → a ≡ more r (next (λ (k i : ℕ). 0) t 0 c)
