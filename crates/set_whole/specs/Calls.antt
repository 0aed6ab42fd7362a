-- What each call on a whole store does, for all inputs. Document 01, "Calls on one store", and its refusals.
use Rattle.std.specs.Prelude.{cond, ◌&&◌, List, ℕ, eqb, length}
use Rattle.util.specs.Outcome.{Outcome}
use Rattle.util.specs.Word.{same}
use Rattle.store.specs.Answer.{says, does, refuses}
use Rattle.store.specs.Build.{empty}
use Rattle.store.specs.Layout.{top, is_cap, store_len, cap, is_store}
use Rattle.store.specs.Word.{word}

-- What stands in the way of opening `len` words for capacity N, 0 for nothing. Refusals 1, "N is 0 or above 16,777,216", then
-- 2: "open tests the length only, against the N given".
unfoldable pub open_refusal : ℕ → ℕ → ℕ
open_refusal N len = cond (is_cap N) (cond (eqb len (store_len N)) 0 2) 1

-- "Open zeroes all words and writes N."
unfoldable pub open_of : List ℕ → ℕ → Outcome (List ℕ)
open_of s N = let r = open_refusal N (length s) in cond (eqb r 0) (does (empty N)) (refuses r s)

-- "`clear` zeroes the layers and keeps N."
unfoldable pub clear_of : List ℕ → Outcome (List ℕ)
clear_of s = cond (is_store s) (does (empty (cap s))) (refuses 2 s)

-- "`is_empty` reads layer 3."
unfoldable pub is_empty_of : List ℕ → Outcome (Unit {0})
is_empty_of s = cond (is_store s) (says (eqb (word (cap s) s (top (cap s)) 0) 0) tt) (refuses 2 tt)

-- "Equality: all words equal." Refusals 2, then 5: "capacities differ".
unfoldable pub equal_of : List ℕ → List ℕ → Outcome (Unit {0})
equal_of s t =
    cond (is_store s && is_store t)
    (cond (eqb (cap s) (cap t)) (says (same s t) tt) (refuses 5 tt))
    (refuses 2 tt)
