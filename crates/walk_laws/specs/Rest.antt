-- What a cursor has still to hand out and to read, over any layer words, for any number of layers.
use Rattle.std.specs.Prelude.{List, [], ◌++◌, ℕ, zero, suc, ◌+◌, ◌^◌, ◌≤◌, ◌<◌, length, get_or}
use Rattle.util.specs.Word.{bits}
use Rattle.walk.specs.Walk.{prefix_at}
use Rattle.walk.specs.declared.Cursor.{Cursor}
use Rattle.walk_laws.specs.Under.{gathered, summed, under, reads_under}

-- a cursor over the layers 0 to t, as machine words
pub record Wf (t : ℕ) (c : Cursor) : Type 0 where
  pub masked : t < length c.masks
  pub prefixed : t ≤ length c.prefix
  pub words : (k : ℕ) → get_or c.masks k 0 < 2 ^ 64

module _ (lw : ℕ → ℕ → ℕ) where
  -- what is below the set bits of a mask of layer k, at a prefix; and how many words are read below them
  unfoldable pub scan : ℕ → ℕ → ℕ → List ℕ
  scan k m p = gathered (λ b. under lw k (p + b)) (bits m)

  unfoldable pub scan_reads : ℕ → ℕ → ℕ → ℕ
  scan_reads k m p = summed (λ b. reads_under lw k (p + b)) (bits m)

module _ (lw : ℕ → ℕ → ℕ) (t : ℕ) where
  -- what the layers below layer n have still to hand out, lowest layer first; and to read
  unfoldable pub rest : Cursor → ℕ → List ℕ
  rest c zero = []
  rest c (suc k) = rest c k ++ scan lw k (get_or c.masks k 0) (prefix_at t c.prefix k)

  unfoldable pub cost : Cursor → ℕ → ℕ
  cost c zero = 0
  cost c (suc k) = cost c k + scan_reads lw k (get_or c.masks k 0) (prefix_at t c.prefix k)
