-- The walk over any layer words, with no store in it: `lw k i` is word i of layer k, and t is the number of the top layer. One store is an
-- instance of it. Document 01: "A cursor holds four masks and three prefixes, as `BitIter`." Layer k's mask and prefix stand at place k.
use Rattle.std.specs.Prelude.{cond, List, ℕ, zero, suc, ◌+◌, ◌-◌, ◌*◌, ◌%◌, ◌^◌, ltb, get_or, set, replicate}
use Rattle.walk_masks.specs.Masks.{lowest_bit, bare}
unfoldable pub use Rattle.walk_masks.specs.Masks.{low_from, prefix_at}
use Rattle.walk.specs.declared.Cursor.{Cursor}
use Rattle.walk.specs.declared.Next.TheVariants.{Member, Paused, End}
use Rattle.walk.specs.declared.Step.{Step}

-- ---- what a cursor stands before

-- "the lowest layer with a non-zero mask", of the layers 0 to t; t + 1 where all masks are 0
abbrev pub low_layer : ℕ → Cursor → ℕ
low_layer t c = low_from c.masks 0 (suc t)

-- a member in the layer-0 mask; a read, of the layer below the lowest one with a mask; or the end
pub data Kind : Type 0 where
  gives : Kind
  reads : ℕ → Kind
  done : Kind

abbrev pub kind_of : ℕ → ℕ → Kind
kind_of t zero = gives
kind_of t (suc j) = cond (ltb j t) (reads j) done

abbrev pub kind : ℕ → Cursor → Kind
kind t c = kind_of t (low_layer t c)

-- ---- a bit taken

-- layer k "gives its lowest bit"
abbrev pub first_bit : Cursor → ℕ → ℕ
first_bit c k = lowest_bit c.masks k

-- the place of that bit in its layer; a prefix is a multiple of 64, so the sum is the crate's bitwise or
unfoldable pub place_at : ℕ → Cursor → ℕ → ℕ
place_at t c k = prefix_at t c.prefix k + first_bit c k

-- layer k's mask without it, and the masks so
abbrev pub cleared : Cursor → ℕ → ℕ
cleared c k = get_or c.masks k 0 - 2 ^ first_bit c k

unfoldable pub less : Cursor → ℕ → List ℕ
less c k = bare c.masks k

-- "A member in the layer-0 mask costs nothing": layer 0's lowest bit is handed out
unfoldable pub handed : Cursor → Cursor
handed c = record { masks = less c 0; prefix = c.prefix }

-- the lowest bit of layer j + 1, at place q, is taken, "and one word below is read": w
unfoldable pub taken : Cursor → ℕ → ℕ → ℕ → Cursor
taken c j q w = record { masks = set (less c (suc j)) j w; prefix = set c.prefix j (q * 64) }

-- the same with the place counted modulo 2 ^ 26, as many as prefixes of 32 bits have: so it is said of every cursor
abbrev pub handled : ℕ → ℕ → ℕ → Cursor → Cursor
handled t j w c = taken c j (place_at t c (suc j) % 67108864) w

-- ---- answers

abbrev pub member : ℕ → Cursor → Step
member t c = record { cursor = handed c; reads = 0; answer = Member (place_at t c 0) }

-- "It pauses exactly when a read is needed and the budget is spent, the cursor then standing before that read."
abbrev pub paused : Cursor → Step
paused c = record { cursor = c; reads = 0; answer = Paused }

-- "End is answered when all masks are zero, also with budget 0."
abbrev pub ended : Cursor → Step
ended c = record { cursor = c; reads = 0; answer = End }

-- n reads before those of a step
abbrev pub more : ℕ → Step → Step
more n a = record { cursor = a.cursor; reads = n + a.reads; answer = a.answer }

-- what is done where a read is needed is a function, so that it waits
abbrev pub by_kind : ℕ → Cursor → (ℕ → Step) → Kind → Step
by_kind t c read gives = member t c
by_kind t c read (reads j) = read j
by_kind t c read done = ended c

-- "Starting reads the top word": w
abbrev pub start_at : ℕ → ℕ → Cursor
start_at t w = record { masks = set (replicate (suc t) 0) t w; prefix = replicate t 0 }

-- ---- the walk

module _ (lw : ℕ → ℕ → ℕ) (t : ℕ) where
  -- "the lowest layer with a non-zero mask gives its lowest bit, and one word below is read": the lowest layer is j + 1
  abbrev pub descend : ℕ → Cursor → Cursor
  descend j c = let q = place_at t c (suc j) in taken c j q (lw j q)

  -- "Next takes a budget of word reads and hands back the cursor, the reads made and one of: member, paused, end."
  unfoldable pub next : ℕ → Cursor → Step
  next zero c = by_kind t c (λ j. paused c) (kind t c)
  next (suc b) c = by_kind t c (λ j. more 1 (next b (descend j c))) (kind t c)
