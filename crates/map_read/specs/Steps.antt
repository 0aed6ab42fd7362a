-- What the private steps ask and answer: a map's entries are taken one by one, as a list of 12 bytes each.
use Rattle.std.specs.Prelude.{Bool, true, false, cond, ◌&&◌, List, [], ◌∷◌, ◌≡◌, ◌≢◌, ℕ, suc, ◌≤◌, eqb, length, set, fold, sum_by}
use Rattle.std.specs.Simd.{first_chunks}
use Rattle.util.specs.Word.{count}
use Rattle.store.specs.Answer.{number}
use Rattle.store.specs.Layout.{max_cap, layer_len}
use Rattle.store.specs.declared.Refusal.{Refusal}
use Rattle.store.specs.declared.Refusal.TheVariants.{Header}
use Rattle.map_read.specs.Judge.{cap_in, count_in, used_in, table_in, number_in, word_in, head_ok, entry_ok, judge_of}
use Rattle.map_read.specs.declared.Head.{Head}

-- the entries that a map lists
abbrev pub entries_in : List ℕ → List (List ℕ)
entries_in m = first_chunks 12 (used_in m) (table_in m)

-- whether all of them are good, their numbers not below lo
unfoldable pub all_good : ℕ → ℕ → List (List ℕ) → Bool
all_good N lo [] = true
all_good N lo (e ∷ es) = let r = all_good N (suc (number_in e)) es in entry_ok N lo (number_in e) (word_in e) && r

-- the set bits of their words
abbrev pub ones_in_all : List (List ℕ) → ℕ
ones_in_all es = sum_by (λ e. count (word_in e)) es

-- ws with their words at their numbers
abbrev pub filled : List ℕ → List (List ℕ) → List ℕ
filled ws es = fold (λ l e. set l (number_in e) (word_in e)) ws es

-- what is wrong with entries that are to have m set bits
unfoldable pub entries_of : ℕ → ℕ → List (List ℕ) → ℕ
entries_of N m es = cond (all_good N 0 es) (cond (eqb (ones_in_all es) m) 0 11) 10

-- entries for capacity N, no more than it has words
pub record Entries (N : ℕ) (es : List (List ℕ)) : Type 0 where
  pub some : 1 ≤ N
  pub most : N ≤ max_cap
  pub few : length es ≤ layer_len N 0

-- the header of the map m
pub record HeadOf (m : List ℕ) (h : Head) : Type 0 where
  pub is : head_ok m ≡ true
  pub capacity : h.n ≡ cap_in m
  pub members : h.members ≡ count_in m
  pub entries : h.entries.now ≡ entries_in m

-- it has none
pub record NoHead (m : List ℕ) (e : Refusal) : Type 0 where
  pub none : head_ok m ≡ false
  pub why : e ≡ Header

-- nothing is wrong with the map m for a store of capacity N, and these are its entries
pub record Taken (m : List ℕ) (N : ℕ) (es : List (List ℕ)) : Type 0 where
  pub accepted : judge_of m N ≡ 0
  pub entries : es ≡ entries_in m

-- something is
pub record Wrong (m : List ℕ) (N : ℕ) (e : Refusal) : Type 0 where
  pub wrong : judge_of m N ≢ 0
  pub why : number e ≡ judge_of m N
