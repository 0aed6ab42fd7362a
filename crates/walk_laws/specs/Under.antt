-- What a walk hands out and reads, as the layer words say it, with no cursor. Place p of layer k stands for word p of the layer below; the
-- one place of the layer above the top stands for the top word.
use Rattle.std.specs.Prelude.{List, [], ◌∷◌, ◌++◌, ℕ, zero, suc, ◌+◌, ◌*◌}
use Rattle.util.specs.Word.{bits}

-- f at each number of a list, the lists joined, and the numbers summed
unfoldable pub gathered : (ℕ → List ℕ) → List ℕ → List ℕ
gathered f [] = []
gathered f (b ∷ l) = f b ++ gathered f l

unfoldable pub summed : (ℕ → ℕ) → List ℕ → ℕ
summed f [] = 0
summed f (b ∷ l) = f b + summed f l

module _ (lw : ℕ → ℕ → ℕ) where
  -- the ids below place p of layer k, ascending: the place itself in layer 0, else those below each set bit of the word it stands for
  unfoldable pub under : ℕ → ℕ → List ℕ
  under zero p = p ∷ []
  under (suc k) p = gathered (λ b. under k (p * 64 + b)) (bits (lw k p))

  -- "The definition's count: the top word, and each word whose summary bit is set in a word that is read." The words read below place p
  -- of layer k: the word it stands for, and those below each of its set bits.
  unfoldable pub reads_under : ℕ → ℕ → ℕ
  reads_under zero p = 0
  reads_under (suc k) p = 1 + summed (λ b. reads_under k (p * 64 + b)) (bits (lw k p))

  -- all of a walk, with t the top layer
  abbrev pub all_ids : ℕ → List ℕ
  all_ids t = under (suc t) 0

  abbrev pub all_reads : ℕ → ℕ
  all_reads t = reads_under (suc t) 0
