-- The words under a word: word q of layer l stands d layers under word j of layer l + d where anc q d ≡ j.
use Rattle.std.specs.Prelude.{List, ◌↔◌, ◌≢◌, ◌≡◌, ℕ, suc, ◌+◌, ◌-◌, ◌*◌, ◌/◌, ◌%◌, ◌^◌, ◌≤◌, ◌<◌, length, get_or}
use Rattle.util.specs.Word.{bit}
use Rattle.store.specs.Layout.{header, top, layer_len, StoreOf}
use Rattle.store.specs.Word.{word, on, anc}
use Rattle.ops_word.specs.Op.{op_word, decider}

-- the summary bits over the words under word j of layer k are exact
pub record Exact (N : ℕ) (s : List ℕ) (k j : ℕ) : Type 0 where
  pub is : (l d p : ℕ) → l + suc d ≡ k → anc p (suc d) ≡ j → (on N s (suc l) p ≡ 1) ↔ (word N s l p ≢ 0)

-- the words of layer k under word j above: of those that m does not name w tells, and they need not change
pub record ToldMerge (N op : ℕ) (s b : List ℕ) (k j w m : ℕ) : Type 0 where
  pub first : (c : ℕ) → c / 64 ≡ j → Exact N s k c
  pub second : (c : ℕ) → c / 64 ≡ j → Exact N b k c
  pub inside : (c : ℕ) → c / 64 ≡ j → bit m (c % 64) ≡ 1 → c < layer_len N k
  pub flagged : (c : ℕ) → c / 64 ≡ j → bit m (c % 64) ≡ 0 → (bit w (c % 64) ≡ 1) ↔ (word N s k c ≢ 0)
  pub idle : (c : ℕ) → c / 64 ≡ j → bit m (c % 64) ≡ 0 → decider op (word N s k c) (word N b k c) ≡ 0

-- what was to be done under word c of layer k of s is done in t
pub record Done (N op : ℕ) (s b : List ℕ) (k c : ℕ) (t : List ℕ) : Type 0 where
  pub low : (q : ℕ) → anc q k ≡ c → word N t 0 q ≡ op_word op (word N s 0 q) (word N b 0 q)
  pub exact : Exact N t k c

-- and w tells of that word
pub record Child (N op : ℕ) (s b : List ℕ) (k c : ℕ) (t : List ℕ) (w : ℕ) : Type 0 where
  pub flag : (bit w (c % 64) ≡ 1) ↔ (word N t k c ≢ 0)
  pub is : Done N op s b k c t

-- of the words of layer k under word j above, those that m names are left
pub record Along (N op : ℕ) (s b : List ℕ) (k j : ℕ) (t : List ℕ) (w m : ℕ) : Type 0 where
  pub kept : (l q : ℕ) → l ≤ top N → ((d : ℕ) → l + d ≡ k → anc q (suc d) ≡ j → bit m (anc q d % 64) ≡ 0 → ⊥)
      → word N t l q ≡ word N s l q
  pub inside : (c : ℕ) → c / 64 ≡ j → bit m (c % 64) ≡ 1 → c < layer_len N k
  pub done : (c : ℕ) → c / 64 ≡ j → bit m (c % 64) ≡ 0 → Child N op s b k c t w

-- length and header stay; what was told gives the rest
pub record Level (N op : ℕ) (s b : List ℕ) (k j w₀ m₀ : ℕ) (t : List ℕ) (w m : ℕ) : Type 0 where
  pub few : m < 2 ^ 64
  pub long : length t ≡ length s
  pub head : (x : ℕ) → x < header → get_or t x 0 ≡ get_or s x 0
  pub along : ToldMerge N op s b k j w₀ m₀ → Along N op s b k j t w m

-- what is to be merged by op in stores of capacity N: the words of layer k under word j above; w is that word, and m names those that can
-- change
pub record MergeTask : Type 0 where
  pub op : ℕ
  pub N : ℕ
  pub k : ℕ
  pub j : ℕ
  pub w : ℕ
  pub m : ℕ

abbrev pub task_of : ℕ → ℕ → ℕ → ℕ → ℕ → ℕ → MergeTask
task_of op N k j w m = record { op = op; N = N; k = k; j = j; w = w; m = m }

-- it is done: s has become t, and r is the word above
abbrev pub TaskDone : MergeTask → List ℕ → List ℕ → List ℕ → ℕ → Type 0
TaskDone a s b t r = Level a.N a.op s b a.k a.j a.w a.m t r 0

-- two stores, a layer, and a word above it
pub record MergeAt (s b : List ℕ) (N k j : ℕ) : Type 0 where
  pub first : StoreOf N s
  pub second : StoreOf N b
  pub known : k ≤ top N
  pub small : j < 2 ^ (6 * (top N - k))
