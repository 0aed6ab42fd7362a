-- The definition of a line says what document 01 says: which lines are commands, that an id as it is printed is read as itself, and that
-- 13 bytes of a line decide what it means.
use mathlib.Core.Bool.{Bool, true, false, cond}
use mathlib.Core.List.{List, [], ◌∷◌, append-nil}
use mathlib.Core.Path.{◌≡◌, refl, sym, ap, ◌∙◌}
use Prim.Native.Nat.{ℕ, zero, suc, ◌+◌, ◌/◌, ◌%◌, ◌^◌, ◌≤◌, ◌<◌}
use native.Mathlib.Decide.{dec_lt}
use native.Mathlib.Omega.{arith}
use borrow.Author.Tests.{eqb-true}
use lib.Dec.{eqb}
use lib.ListN.{length, take, get_or, length-append, length-take}
use lib.Seq.{take_all}
use Rattle.text_out.specs.Out.{spelled, decimal_of}
use Rattle.text_out.proofs.Spelling.{next_power, spelled-one, spelled-more}
use Rattle.text_in.specs.Number.{digit_of, digits, value_after}
use Rattle.text_in.proofs.Digits.{digit_low, digit_high, digit_is}
use Rattle.listing_line.specs.Line.{id_of, with_id, command_of}
use Rattle.listing_line.specs.Spells.{Digit, Spells, Means}
use Rattle.listing_line.specs.declared.Command.{Command}
use Rattle.listing_line.specs.declared.Command.TheVariants.{Add, Remove, Contains, List as Members, Unknown}
use Rattle.std.specs.Prelude.{Option, Some, None}
use Rattle.listing_line.proofs.Parsing.{id_long, id_none, id_great, id-more, id_is, digit_first, no_first, no_more}
use Rattle.listing_line.proofs.Spelled.{as_spelled}

-- ---- decimal digits

is_digit : (b : ℕ) → digit_of b < 10 → Digit b
is_digit b h = go (dec_lt b 48) (dec_lt 57 b)
  where
    go : Dec (b < 48) → Dec (57 < b) → Digit b
    go (yes l) t = absurd (omega (arith, digit_low b l))
    go (no l) (yes t) = absurd (omega (arith, digit_high b t))
    go (no l) (no t) = (omega arith, omega arith)

-- digits to the end: every byte is one
all_digits : (bs : List ℕ) → ((k : ℕ) → k < length bs → Digit (get_or bs k 0)) → length (digits bs) ≡ length bs
unfolding digits
all_digits [] h = refl
all_digits (b ∷ bs) h =
    let d = h 0 (omega arith) in
    let l : digit_of b < 10 = omega (arith, digit_is b d.0 d.1) in
    ap length (digit_first b bs l) ∙ ap suc (all_digits bs (λ k i. h (suc k) (omega arith)))

each_digit : (bs : List ℕ) → length bs ≤ length (digits bs) → (k : ℕ) → k < length bs → Digit (get_or bs k 0)
each_digit [] e k l = absurd (omega arith)
each_digit (b ∷ bs) e k l = go (each_digit bs) k l (dec_lt (digit_of b) 10)
  where
    go : (length bs ≤ length (digits bs) → (k : ℕ) → k < length bs → Digit (get_or bs k 0))
        → (k : ℕ) → k < length (b ∷ bs) → Dec (digit_of b < 10) → Digit (get_or (b ∷ bs) k 0)
    go rest k l (no n) = absurd (omega (arith, ap length (no_first b bs (omega arith))))
    go rest zero l (yes d) = is_digit b d
    go rest (suc k) l (yes d) = rest (omega (arith, ap length (digit_first b bs d))) k (omega arith)

-- ---- which lines are commands

-- A line that spells a letter and an id is that letter's command.
pub meant : {letter i : ℕ} {line : List ℕ} → Spells letter i line → command_of line ≡ with_id letter (Some i)
unfolding command_of
meant {letter} {i} s =
    let all = all_digits s.bytes s.each in
    ap command_of s.line_is
    ∙ ap (with_id letter)
    (id_is s.bytes s.few (λ z. omega (arith, s.some)) (omega (arith, s.value, s.fits)) (omega arith) ∙ ap Some s.value)

-- and no other line is that command
pick : (line : List ℕ) (a b : Command) (t : Bool) → (t ≡ true → Means line a) → Means line b → Means line (cond t a b)
pick line a b true f g = f refl
pick line a b false f g = g

module _ (letter : ℕ) (bs : List ℕ) where
  none : {x : Option ℕ} → x ≡ None → Means (letter ∷ 32 ∷ bs) (with_id letter x)
  unfolding with_id
  none e = rw e tt

  one : {x : Option ℕ} {i : ℕ} → x ≡ Some i → ((l : ℕ) → letter ≡ l → Spells l i (letter ∷ 32 ∷ bs)) → Means (letter ∷ 32 ∷ bs) (with_id letter x)
  unfolding with_id
  one e s =
      rw e
      (pick _ _ _ (eqb letter 97) (λ t. s 97 (eqb-true _ _ t))
      (pick _ _ _ (eqb letter 114) (λ t. s 114 (eqb-true _ _ t)) (pick _ _ _ (eqb letter 99) (λ t. s 99 (eqb-true _ _ t)) tt)))

  behind_blank : Means (letter ∷ 32 ∷ bs) (with_id letter (id_of bs))
  behind_blank =
      go (dec_lt 10 (length bs)) (dec_lt 0 (length (digits bs))) (dec_lt 4294967295 (value_after 0 (digits bs)))
      (dec_lt (length (digits bs)) (length bs))
    where
      go : Dec (10 < length bs) → Dec (0 < length (digits bs)) → Dec (4294967295 < value_after 0 (digits bs))
          → Dec (length (digits bs) < length bs) → Means (letter ∷ 32 ∷ bs) (with_id letter (id_of bs))
      go (yes l) d v m = none (id_long bs l)
      go (no l) (no d) v m = none (id_none bs (omega arith) (omega arith))
      go (no l) (yes d) (yes v) m = none (id_great bs (omega arith) (λ z. omega arith) v)
      go (no l) (yes d) (no v) (yes m) = none (id-more bs (omega arith) (λ z. omega arith) (omega arith) m)
      go (no l) (yes d) (no v) (no m) =
          let whole : length bs ≤ length (digits bs) = omega arith in
          let fits : value_after 0 (digits bs) ≤ 4294967295 = omega arith in
          let short : length bs ≤ 10 = omega arith in
          let some : 1 ≤ length bs = omega (arith, no_more bs) in
          one (id_is bs short (λ z. omega arith) fits whole)
          (λ l e. record {
            bytes = bs;
            line_is = ap (λ (x : ℕ). x ∷ 32 ∷ bs) e;
            some = some;
            few = short;
            each = each_digit bs whole;
            value = refl;
            fits = fits;
          })

-- THE COMMANDS. A line is a command only where it spells that command's letter and id, and `w` only where it is `w`.
pub means : (line : List ℕ) → Means line (command_of line)
unfolding command_of
means [] = tt
means (b ∷ []) = pick _ _ _ (eqb b 119) (λ t. ap (λ (x : ℕ). x ∷ []) (eqb-true _ _ t)) tt
means (letter ∷ b ∷ bs) =
    pick _ _ _ (eqb b 32) (λ t. let e : b ≡ 32 = eqb-true _ _ t in rw e (behind_blank letter bs)) tt

-- ---- an id as it is printed is read as itself

abbrev Short : ℕ → ℕ → ℕ → Type 0
Short k m n = (1 ≤ length (spelled (suc k) n)) × (length (spelled (suc k) n) ≤ suc m)

short_one : (k m n : ℕ) → n < 10 → Short k m n
short_one k m n l = let e = ap length (spelled-one n k l) in (omega arith, omega arith)

short_spelling : (k m n : ℕ) → n < 10 ^ suc m → Short k m n
unfolding spelled
short_spelling zero m n h = go (dec_lt n 10)
  where
    go : Dec (n < 10) → Short zero m n
    go (yes l) = short_one zero m n l
    go (no l) = let e = ap length (spelled-more n zero (omega arith)) in (omega arith, omega arith)
short_spelling (suc k) zero n h = short_one (suc k) zero n (omega arith)
short_spelling (suc k) (suc m) n h = go (short_spelling k m (n / 10) (omega (arith, next_power (suc m)))) (dec_lt n 10)
  where
    go : Short k m (n / 10) → Dec (n < 10) → Short (suc k) (suc m) n
    go tenth (yes l) = short_one (suc k) (suc m) n l
    go tenth (no l) =
        let e = ap length (spelled-more n (suc k) (omega arith)) ∙ length-append (spelled (suc k) (n / 10)) ((48 + n % 10) ∷ []) in
        (omega arith, omega arith)

spelled-id : (i : ℕ) → i < 2 ^ 32 → id_of (decimal_of i) ≡ Some i
unfolding digits value_after
spelled-id i h =
    let read = as_spelled 19 i [] (omega arith) in
    let short = short_spelling 19 9 i (omega arith) in
    let value : value_after 0 (digits (decimal_of i)) ≡ i = rw append-nil at read.0 in
    let size : length (digits (decimal_of i)) ≡ length (decimal_of i) = omega (arith, rw append-nil at read.1) in
    id_is (decimal_of i) short.1 (λ z. omega arith) (omega arith) (omega arith) ∙ ap Some value

-- READ AS PRINTED. A letter, a blank and the spelling of an id below 2^32 is that letter's command.
module _ (i : ℕ) (h : i < 2 ^ 32) where
  pub add_read : command_of (97 ∷ 32 ∷ decimal_of i) ≡ Add i
  unfolding command_of with_id
  add_read = ap (with_id 97) (spelled-id i h)

  pub remove_read : command_of (114 ∷ 32 ∷ decimal_of i) ≡ Remove i
  unfolding command_of with_id
  remove_read = ap (with_id 114) (spelled-id i h)

  pub contains_read : command_of (99 ∷ 32 ∷ decimal_of i) ≡ Contains i
  unfolding command_of with_id
  contains_read = ap (with_id 99) (spelled-id i h)

-- ---- 13 bytes decide

same-both : (t : Bool) → cond t Unknown Unknown ≡ Unknown
same-both true = refl
same-both false = refl

-- a line longer than 12 bytes is no command
pub long_line : (line : List ℕ) → 12 < length line → command_of line ≡ Unknown
unfolding command_of with_id
long_line [] h = absurd (omega arith)
long_line (b ∷ []) h = absurd (omega arith)
long_line (letter ∷ b ∷ bs) h = let e : id_of bs ≡ None = id_long bs (omega arith) in rw e (same-both (eqb b 32))

-- so the buffer of 13 bytes loses nothing
pub cut : (line : List ℕ) → command_of (take 13 line) ≡ command_of line
cut line = go (dec_lt 13 (length line))
  where
    go : Dec (13 < length line) → command_of (take 13 line) ≡ command_of line
    go (yes l) = long_line (take 13 line) (omega (arith, length-take 13 line)) ∙ sym (long_line line (omega arith))
    go (no l) = ap command_of (take_all 13 line (omega arith))

-- ---- samples, computed

-- document 01: `a 5`, `a 70`, `c 6`, `r 5`, `a 262144`, `w`, `x`
pub sample_commands : (command_of (97 ∷ 32 ∷ 53 ∷ []) ≡ Add 5)
    × (command_of (97 ∷ 32 ∷ 55 ∷ 48 ∷ []) ≡ Add 70)
    × (command_of (99 ∷ 32 ∷ 54 ∷ []) ≡ Contains 6)
    × (command_of (114 ∷ 32 ∷ 53 ∷ []) ≡ Remove 5)
    × (command_of (97 ∷ 32 ∷ 50 ∷ 54 ∷ 50 ∷ 49 ∷ 52 ∷ 52 ∷ []) ≡ Add 262144)
    × (command_of (119 ∷ []) ≡ Members)
    × (command_of (120 ∷ []) ≡ Unknown)
unfolding command_of id_of with_id digits digit_of value_after
sample_commands = (refl, refl, refl, refl, refl, refl, refl)

-- zeros in front: `c 0000000070` is 70, and with one more digit it is none; `c 4294967295` is the last id, `c 4294967296` is none
pub sample_digits : (command_of (99 ∷ 32 ∷ 48 ∷ 48 ∷ 48 ∷ 48 ∷ 48 ∷ 48 ∷ 48 ∷ 48 ∷ 55 ∷ 48 ∷ []) ≡ Contains 70)
    × (command_of (99 ∷ 32 ∷ 48 ∷ 48 ∷ 48 ∷ 48 ∷ 48 ∷ 48 ∷ 48 ∷ 48 ∷ 48 ∷ 55 ∷ 48 ∷ []) ≡ Unknown)
    × (command_of (99 ∷ 32 ∷ 52 ∷ 50 ∷ 57 ∷ 52 ∷ 57 ∷ 54 ∷ 55 ∷ 50 ∷ 57 ∷ 53 ∷ []) ≡ Contains 4294967295)
    × (command_of (99 ∷ 32 ∷ 52 ∷ 50 ∷ 57 ∷ 52 ∷ 57 ∷ 54 ∷ 55 ∷ 50 ∷ 57 ∷ 54 ∷ []) ≡ Unknown)
unfolding command_of id_of with_id digits digit_of value_after
sample_digits = (refl, refl, refl, refl)

-- two blanks, a blank behind, a letter alone, a letter and a blank, `w` and a blank
pub sample_blanks : (command_of (99 ∷ 32 ∷ 32 ∷ 55 ∷ 48 ∷ []) ≡ Unknown)
    × (command_of (99 ∷ 32 ∷ 55 ∷ 48 ∷ 32 ∷ []) ≡ Unknown)
    × (command_of (99 ∷ []) ≡ Unknown)
    × (command_of (99 ∷ 32 ∷ []) ≡ Unknown)
    × (command_of (119 ∷ 32 ∷ []) ≡ Unknown)
unfolding command_of id_of with_id digits digit_of value_after
sample_blanks = (refl, refl, refl, refl, refl)
