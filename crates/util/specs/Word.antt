-- Words, bit by bit. A word is a number below 2 ^ 64; its bits are numbered from 0, the lowest, to 63.
use Rattle.std.specs.Prelude.{Bool, true, false, cond, ◌&&◌, List, [], ◌∷◌, ℕ, zero, suc, ◌-◌, ◌/◌, ◌%◌, ◌^◌, ◌≤◌, eqb}
use Rattle.std.specs.Int.Bits.{bit_and, bit_or}
use Rattle.std.specs.Int.Count.{ones_in}

-- bit b of w: 0 or 1
unfoldable pub bit : ℕ → ℕ → ℕ
bit w b = w / 2 ^ b % 2

-- the complement of a word
abbrev pub flip : ℕ → ℕ
flip w = (2 ^ 64 - 1) - w

-- the word w with bit b set, or cleared
unfoldable pub change : Bool → ℕ → ℕ → ℕ
change set w b = cond set (bit_or w (2 ^ b)) (bit_and w (flip (2 ^ b)))

-- how many bits of a word are set
unfoldable pub count : ℕ → ℕ
count w = ones_in 64 w

-- b in front of l, unless d is 0
abbrev pub keep : ℕ → ℕ → List ℕ → List ℕ
keep zero b l = l
keep (suc d) b l = b ∷ l

-- of the n numbers from b on, those at which f is not 0, ascending
unfoldable pub places : (ℕ → ℕ) → ℕ → ℕ → List ℕ
places f b zero = []
places f b (suc n) = keep (f b) b (places f (suc b) n)

-- the set bits of a word, ascending
unfoldable pub bits : ℕ → List ℕ
bits w = places (bit w) 0 64

-- the numbers of a list rise, each above the one before it, from b on: so each stands there once
abbrev pub Rising : ℕ → List ℕ → Type 0
Rising b [] = Unit {0}
Rising b (x ∷ l) = (b ≤ x) × Rising (suc x) l

-- whether two lists are equal
unfoldable pub same : List ℕ → List ℕ → Bool
same [] [] = true
same [] (b ∷ t) = false
same (a ∷ s) [] = false
same (a ∷ s) (b ∷ t) = eqb a b && same s t
