-- The store test, which every call on a store begins with. Document 01, refusal 2: "a slice's length is not the one its capacity needs, or word 0
-- is no capacity".
use Rattle.std.specs.Prelude.{List, ℕ}
use Rattle.std.specs.Result.{result_unwrap_or}
use Rattle.store.specs.Answer.{tested}

-- the capacity that it answers, 0 standing for none
abbrev pub capacity_answered : List ℕ → ℕ
capacity_answered s = result_unwrap_or (tested s) 0
