-- What the private steps ask and leave.
use Rattle.std.specs.Prelude.{List, ◌≡◌, ℕ, false, ◌+◌, ◌*◌, ◌≤◌, length}
use Rattle.std.proofs.lemmas.List.Edits.{sets}
use Rattle.store.specs.Layout.{max_cap, words, is_store, StoreOf}
use Rattle.store.specs.declared.Refusal.{Refusal}
use Rattle.store.specs.declared.Refusal.TheVariants.{NoStore}
use Rattle.map_format.specs.Steps.{with_last}
use Rattle.map_write.specs.Map.{count_all, used, entries, told_words, map_len}
use Rattle.map_write.specs.declared.Draft.{Draft}
use Rattle.map_write.specs.declared.Told.{Told}

-- the words that a map tells of
abbrev pub words_of : Told → List ℕ
words_of t = with_last t.layer.now t.last

-- the store s is told of
pub record Tells (s : List ℕ) (t : Told) : Type 0 where
  pub store : StoreOf t.n s
  pub some : 1 ≤ length t.layer.now
  pub few : length t.layer.now ≤ words max_cap
  pub told : words_of t ≡ told_words t.n s

-- its map fits a buffer
pub record MapFits (t : Told) (b : List ℕ) : Type 0 where
  pub some : 1 ≤ length t.layer.now
  pub few : length t.layer.now ≤ words max_cap
  pub most : t.n ≤ max_cap
  pub room : map_len (words_of t) ≤ length b

-- there is room for the entries of the words xs, numbered from q on, and the numbers and the members are few enough
pub record Room (q : ℕ) (xs : List ℕ) (d : Draft) : Type 0 where
  pub bytes : d.at + 12 * used xs ≤ length d.buf.now
  pub numbers : q + length xs ≤ words max_cap
  pub members : d.members + 64 * length xs ≤ max_cap

-- they were put, and their members counted
pub record Entered (q : ℕ) (xs : List ℕ) (d d' : Draft) : Type 0 where
  pub at : d'.at ≡ d.at + 12 * used xs
  pub members : d'.members ≡ d.members + count_all xs
  pub bytes : d'.buf.now ≡ sets d.buf.now d.at (entries q xs)
  pub same : d'.buf.ghost_name ≡ d.buf.ghost_name

-- there is room for the header before the entries that were put
pub record Headed (n : ℕ) (d : Draft) : Type 0 where
  pub most : n ≤ max_cap
  pub behind : 16 ≤ d.at
  pub room : d.at ≤ length d.buf.now
  pub few : d.at ≤ 16 + 12 * words max_cap

-- the slice s is no store
pub record NoStoreHere (s : List ℕ) (e : Refusal) : Type 0 where
  pub none : is_store s ≡ false
  pub why : e ≡ NoStore
