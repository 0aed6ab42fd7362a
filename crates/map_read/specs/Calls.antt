-- What the reader answers and leaves, and which capacity a map is for, for all inputs.
use Rattle.std.specs.Prelude.{cond, List, ℕ, eqb}
use Rattle.util.specs.Outcome.{Outcome}
use Rattle.store.specs.Answer.{gives, does, refuses}
use Rattle.store.specs.Build.{build}
use Rattle.store.specs.Layout.{cap, is_store}
use Rattle.map_read.specs.Judge.{cap_in, head_ok, judge_of, map_words}

-- The capacity that the map m names. Of the reader's refusals, "Map reader 2, 9, 5, 10, 11", only 9 depends on the map alone: 2 asks for
-- a store, and behind 5 come those that ask for a map of the store's capacity.
unfoldable pub map_capacity_of : List ℕ → Outcome (Unit {0})
map_capacity_of m = cond (head_ok m) (gives (cap_in m) tt) (refuses 9 tt)

-- "The reader checks all, then replaces every layer": the store is the one that the map's words make, or it is as it was. "the reader
-- ignores later bytes": nothing here looks at them.
unfoldable pub read_of : List ℕ → List ℕ → Outcome (List ℕ)
read_of m s =
    let N = cap s in
    let why = judge_of m N in
    cond (is_store s) (cond (eqb why 0) (does (build N (map_words N m))) (refuses why s)) (refuses 2 s)
