-- A group: up to 64 words of a layer under one word above it, whose bits tell which of them are not zero.
use Rattle.std.specs.Prelude.{Bool, cond, ◌&&◌, List, [], ◌∷◌, ◌≡◌, ℕ, suc, ◌-◌, ◌^◌, ◌≤◌, ◌<◌, eqb, leb, length, get_or}
use Rattle.std.specs.Int.Bits.{bit_and, bit_or}
use Rattle.util.specs.Word.{bit, flip, count}
use Rattle.store.specs.Build.{flags}
use Rattle.ops_word.specs.Op.{op_word}

-- of the words from place i on, those that m names become the operation's, each with the other word at its place; the rest stay
unfoldable pub merge_named : ℕ → ℕ → ℕ → List ℕ → List ℕ → List ℕ
merge_named op m i [] ys = []
merge_named op m i (x ∷ xs) ys = cond (eqb (bit m i) 1) (op_word op x (get_or ys i 0)) x ∷ merge_named op m (suc i) xs ys

-- the word above: the bits that m names tell of the words zs, the rest stay
unfoldable pub mark_named : ℕ → List ℕ → ℕ → ℕ
mark_named m zs w = bit_or (bit_and w (flip m)) (bit_and m (flags zs))

-- all places
abbrev pub all : ℕ
all = 2 ^ 64 - 1

-- two full groups of which 12 words or more are named go as a whole
unfoldable pub is_dense : ℕ → ℕ → ℕ → Bool
is_dense n l m = eqb n 64 && (eqb l 64 && leb 12 (count m))

abbrev pub chosen : List ℕ → List ℕ → ℕ → ℕ
chosen xs ys m = cond (is_dense (length xs) (length ys) m) all m

-- the group after, and the word above it
unfoldable pub group_words : ℕ → List ℕ → List ℕ → ℕ → List ℕ
group_words op xs ys m = merge_named op (chosen xs ys m) 0 xs ys

unfoldable pub group_over : ℕ → List ℕ → List ℕ → ℕ → ℕ → ℕ
group_over op xs ys w m = mark_named (chosen xs ys m) (group_words op xs ys m) w

-- ---- the loops

-- the first t words of a group are merged
pub record Merging (op : ℕ) (xs ys zs : List ℕ) (t : ℕ) : Type 0 where
  pub upto : t ≤ 64
  pub long : length zs ≡ length xs
  pub new : (i : ℕ) → i < t → get_or zs i 0 ≡ op_word op (get_or xs i 0) (get_or ys i 0)
  pub old : (i : ℕ) → t ≤ i → get_or zs i 0 ≡ get_or xs i 0

-- what m still names gives what must come out
pub record Naming (op : ℕ) (xs ys : List ℕ) (w m : ℕ) (zs : List ℕ) (v n : ℕ) : Type 0 where
  pub few : n < 2 ^ 64
  pub small : v < 2 ^ 64
  pub long : length zs ≡ length xs
  pub words : merge_named op n 0 zs ys ≡ merge_named op m 0 xs ys
  pub over : mark_named n (merge_named op m 0 xs ys) v ≡ mark_named m (merge_named op m 0 xs ys) w
