-- What is said of walks: over any layer words `lw`, with t the top layer, and on one store.
use Rattle.std.specs.Prelude.{true, ◌↔◌, ◌≡◌, ℕ, suc, ◌+◌, ◌*◌, ◌/◌, ◌%◌, ◌^◌, ◌≤◌, ◌<◌, length}
use mathlib.Core.List.{List, [], ◌∷◌, map, Memᴰ}
use Rattle.util.specs.Word.{bit, Rising}
use Rattle.store.specs.Layout.{top, cap}
use Rattle.store.specs.Word.{word, Member as MemberOf, members}
use Rattle.walk.specs.Calls.{start_in, next_in}
use Rattle.walk.specs.declared.Cursor.{Cursor}
use Rattle.walk.specs.declared.Next.{Next}
use Rattle.walk.specs.declared.Next.TheVariants.{Member, Paused, End, Refused}
use Rattle.walk.specs.declared.Step.{Step}
use Rattle.walk_fill.specs.Fill.{Filled, fill_in}
use Rattle.walk_laws.specs.Calls.{Ask, asked_of, Run, run_by}
use Rattle.walk_laws.specs.Calls.Ask.{one}
use Rattle.walk_laws.specs.Under.{all_reads}

-- ---- layer words

-- every layer word is a 64-bit word
abbrev pub Bounded : (ℕ → ℕ → ℕ) → Type 0
Bounded lw = (k i : ℕ) → lw k i < 2 ^ 64

-- the bit at place p of layer k
unfoldable pub on_at : (ℕ → ℕ → ℕ) → ℕ → ℕ → ℕ
on_at lw k p = bit (lw k (p / 64)) (p % 64)

-- a summary bit that is off, in the layers up to t, stands over a word that is 0
abbrev pub Clear : (ℕ → ℕ → ℕ) → ℕ → Type 0
Clear lw t = (k p : ℕ) → k < t → on_at lw (suc k) p ≡ 0 → lw k p ≡ 0

-- and one that is on stands over a word that is not
abbrev pub Full : (ℕ → ℕ → ℕ) → ℕ → Type 0
Full lw t = (k p : ℕ) → k < t → on_at lw (suc k) p ≡ 1 → 0 < lw k p

-- every bit of lw is on in lv, in the layers up to t
abbrev pub InsideOf : (ℕ → ℕ → ℕ) → (ℕ → ℕ → ℕ) → ℕ → Type 0
InsideOf lw lv t = (k p i : ℕ) → k ≤ t → i < 64 → bit (lw k p) i ≤ bit (lv k p) i

-- ---- budgets and gaps

-- an answer at budget b with its reads: a member or the end within the budget, or paused with all of it spent; never a refusal
pub data KeptBudget (b : ℕ) : Next → ℕ → Type 0 where
  member : {v r : ℕ} → r ≤ b → KeptBudget b (Member v) r
  paused : KeptBudget b Paused b
  ended : {r : ℕ} → r ≤ b → KeptBudget b End r

-- "after the top word, at most three words are read before each next member and none before the end": n words were read since the last
-- member, or since the start, when this answer comes; t is the top layer's number
abbrev pub spaced_by : ℕ → Next → ℕ → (ℕ → Type 0) → Type 0
spaced_by t (Member v) n later = (n ≤ t) × later 0
spaced_by t Paused n later = (n ≤ t) × later n
spaced_by t End n later = n ≡ 0
spaced_by t (Refused m) n later = ⊥

-- the same of a call for each budget of a list, where r words were read before the first
unfoldable pub Spaced : ℕ → (ℕ → Cursor → Step) → List ℕ → Cursor → ℕ → Type 0
Spaced t call [] c r = Unit {0}
Spaced t call (b ∷ bs) c r = let a = call b c in spaced_by t a.answer (r + a.reads) (Spaced t call bs a.cursor)

-- the same of calls of next and fill in any mix: they hand out and read what calls of next alone do, at some budgets, which are spaced
pub record SpacedAs (t : ℕ) (nexts : ℕ → Cursor → Step) (fills : ℕ → ℕ → Cursor → Filled) (l : List Ask) (c : Cursor) : Type 0 where
  pub budgets : List ℕ
  pub same : run_by (asked_of nexts fills) c l ≡ run_by (asked_of nexts fills) c (map one budgets)
  pub gaps : Spaced t nexts budgets c 0

-- what follows of the words that such calls read in all: at most t for each member handed out and t more, and where they ended none more
abbrev pub FewReads : ℕ → Run → Type 0
FewReads t w = (w.total ≤ t * suc (length w.members)) × (w.over ≡ true → w.total ≤ t * length w.members)

-- ---- on one store

-- a call of next and of fill, the budget first, and one of either by what it is asked for
abbrev pub next_on : List ℕ → ℕ → Cursor → Step
next_on s b c = next_in s c b

abbrev pub fill_on : List ℕ → ℕ → ℕ → Cursor → Filled
fill_on s b m c = fill_in s c b m

abbrev pub call_on : List ℕ → Ask → Cursor → Filled
call_on s = asked_of (next_on s) (fill_on s)

-- started with any cursor, and then a call for each ask of a list; its total is the reads after the start's
abbrev pub walk_on : List ℕ → Cursor → List Ask → Run
walk_on s c l = run_by (call_on s) (start_in s c).cursor l

-- what a walk that ended did: exactly the members, each once, rising; and the reads, the start's among them, that the definition counts
pub record Walked (s : List ℕ) (c : Cursor) (l : List Ask) : Type 0 where
  pub members-all : (walk_on s c l).members ≡ members s
  pub exact : (i : ℕ) → Memᴰ i (walk_on s c l).members ↔ MemberOf s i
  pub rising : Rising 0 (walk_on s c l).members
  pub counted : (start_in s c).reads + (walk_on s c l).total ≡ all_reads (word (cap s) s) (top (cap s))
