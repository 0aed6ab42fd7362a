-- Start and next on one store, for all inputs. Document 01: "Each returns its number and zeros elsewhere and changes nothing lent; a refused
-- next hands back its cursor as given."
use Rattle.std.specs.Prelude.{Bool, cond, List, ◌∷◌, ◌++◌, ◌≡◌, refl, ℕ, zero, suc, ◌-◌, ◌%◌, ◌^◌, ◌<◌, length, get_or, take, drop}
use Rattle.std.proofs.Common.{ap, ap₂}
use Rattle.std.proofs.Math.Seq.{take-append_seam, drop-append_seam}
use Rattle.util.specs.Outcome.{Outcome, Paper}
use Rattle.store.specs.Answer.{number, numbered, numbered_number}
use Rattle.store.specs.Layout.{top, cap, is_store}
use Rattle.store.specs.Word.{word}
unfoldable pub use Rattle.walk_masks.specs.Prefixes.{prefixes_fit}
use Rattle.walk.specs.Walk.{start_at, next}
use Rattle.walk.specs.declared.Cursor.{Cursor}
use Rattle.walk.specs.declared.Next.{Next}
use Rattle.walk.specs.declared.Next.TheVariants.{Member, Paused, End, Refused}
use Rattle.walk.specs.declared.Step.{Step}

-- ---- a step on paper: the refusal's number or 0; 1 for a member, 2 for paused, 3 for the end, 0 for a refusal; the id or 0; the reads; how
-- many masks there are, the masks, the prefixes

abbrev refusal_in : Next → ℕ
refusal_in (Member v) = 0
refusal_in Paused = 0
refusal_in End = 0
refusal_in (Refused e) = number e

abbrev which : Next → ℕ
which (Member v) = 1
which Paused = 2
which End = 3
which (Refused e) = 0

abbrev id : Next → ℕ
id (Member v) = v
id Paused = 0
id End = 0
id (Refused e) = 0

abbrev numbers : Step → List ℕ
numbers a =
    let c = a.cursor in
    refusal_in a.answer ∷ which a.answer ∷ id a.answer ∷ a.reads ∷ length c.masks ∷ (c.masks ++ c.prefix)

-- the step read off its numbers
abbrev answer_of : ℕ → ℕ → ℕ → Next
answer_of n zero v = Refused (numbered n)
answer_of n (suc zero) v = Member v
answer_of n (suc (suc zero)) v = Paused
answer_of n (suc (suc (suc w))) v = End

abbrev read_back : List ℕ → Step
read_back l = record {
  cursor = record { masks = take (get_or l 4 0) (drop 5 l); prefix = drop (get_or l 4 0) (drop 5 l) };
  reads = get_or l 3 0;
  answer = answer_of (get_or l 0 0) (get_or l 1 0) (get_or l 2 0);
}

abbrev answer_back : (n : Next) → answer_of (refusal_in n) (which n) (id n) ≡ n
answer_back (Member v) = refl
answer_back Paused = refl
answer_back End = refl
answer_back (Refused e) = ap Refused (numbered_number e)

abbrev step_back : (a : Step) → read_back (numbers a) ≡ a
step_back a =
    let c = a.cursor in
    ap₂ (λ (d : Cursor) (n : Next). record { cursor = d; reads = a.reads; answer = n })
    (ap₂ (λ (m p : List ℕ). record { masks = m; prefix = p }) (take-append_seam c.masks c.prefix) (drop-append_seam c.masks c.prefix))
    (answer_back a.answer)

abbrev pub step_paper : Paper Step
step_paper = record { numbers = numbers; answer = read_back; same = step_back }

abbrev pub written : Step → Outcome (Unit {0})
written a = record { numbers = step_paper.numbers a; lent = tt }

-- ---- refusals

-- by its number
abbrev pub refused : ℕ → Cursor → Step
refused n c = record { cursor = c; reads = 0; answer = Refused (numbered n) }

-- refusal 7 is given where this is false
abbrev pub fits : ℕ → Cursor → Bool
fits t c = prefixes_fit t c.prefix t

-- the same as facts of each prefix
abbrev pub Fine : ℕ → List ℕ → Type 0
Fine t ps = (k : ℕ) → k < t → (get_or ps k 0 % 64 ≡ 0) × (get_or ps k 0 < 64 ^ (suc t - k))

-- ---- the calls

-- "Starting reads the top word and reports one read": the walk stands before its first member, and the cursor given does not matter
unfoldable pub start_in : List ℕ → Cursor → Step
start_in s c =
    let N = cap s in
    cond (is_store s)
    (record { cursor = start_at (top N) (word N s (top N) 0); reads = 1; answer = Paused })
    (refused 2 c)

-- refusals 2, then 7
unfoldable pub next_in : List ℕ → Cursor → ℕ → Step
next_in s c b =
    let N = cap s in
    let a = next (word N s) (top N) b c in
    cond (is_store s) (cond (fits (top N) c) a (refused 7 c)) (refused 2 c)

abbrev pub start_of : List ℕ → Cursor → Outcome (Unit {0})
start_of s c = written (start_in s c)

abbrev pub next_of : List ℕ → Cursor → ℕ → Outcome (Unit {0})
next_of s c b = written (next_in s c b)
