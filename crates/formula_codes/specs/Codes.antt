-- The codes of a formula: the tree that they stand for, and which lists of codes are a formula. Document 01, refusal 6: "formula empty,
-- over 32 codes, unknown code, store not lent, too few or over 8 values, not one left".
use Rattle.std.specs.Prelude.{Bool, cond, ◌&&◌, List, [], ◌∷◌, map, ℕ, suc, ◌-◌, leb, ltb, eqb, length, get_or}
use Rattle.std.specs.List.{list_any}
use Rattle.formula_codes.specs.Tree.{Tree}
use Rattle.formula_codes.specs.Tree.Tree.{store, both, either, one_of, inverse, every}

-- "0 to 3 a store, 16 and, 17 or, 18 xor, 19 not, 20 all; every other code is unknown."
pub data CodeKind : Type 0 where
  is_store is_both is_either is_one_of is_inverse is_every is_unknown : CodeKind

unfoldable pub code_kind : ℕ → CodeKind
code_kind c =
    cond (ltb c 4) is_store
    (cond (eqb c 16) is_both
    (cond (eqb c 17) is_either
    (cond (eqb c 18) is_one_of
    (cond (eqb c 19) is_inverse
    (cond (eqb c 20) is_every is_unknown)))))

-- ---- the tree

-- the last two that wait become one, or the last another; where too few wait the codes are no formula
abbrev pub join_two : (Tree → Tree → Tree) → List Tree → List Tree
join_two f [] = []
join_two f (b ∷ []) = b ∷ []
join_two f (b ∷ a ∷ st) = f a b ∷ st

abbrev pub turn_one : (Tree → Tree) → List Tree → List Tree
turn_one f [] = []
turn_one f (a ∷ st) = f a ∷ st

-- one code on the trees that wait, the last of them first
abbrev pub grow : CodeKind → ℕ → List Tree → List Tree
grow is_store c st = store c ∷ st
grow is_both c st = join_two both st
grow is_either c st = join_two either st
grow is_one_of c st = join_two one_of st
grow is_inverse c st = turn_one inverse st
grow is_every c st = every ∷ st
grow is_unknown c st = st

unfoldable pub trees : List ℕ → List Tree → List Tree
trees [] st = st
trees (c ∷ cs) st = trees cs (grow (code_kind c) c st)

abbrev pub first_tree : List Tree → Tree
first_tree [] = every
first_tree (e ∷ st) = e

-- the formula that the codes stand for
unfoldable pub tree_of : List ℕ → Tree
tree_of cs = first_tree (trees cs [])

-- ---- which codes look at the bits that exist

-- "19 not, 20 all": whether some code looks at which bits exist; every code above 20 counts as one
abbrev pub cuts_in : List ℕ → Bool
cuts_in = list_any (leb 19)

-- ---- the check

-- the values that a code takes, of those that wait, before it puts one: 9, more than ever wait, for a code that may not stand there
abbrev pub takes : CodeKind → Bool → ℕ
takes is_store lent = cond lent 0 9
takes is_both lent = 2
takes is_either lent = 2
takes is_one_of lent = 2
takes is_inverse lent = 1
takes is_every lent = 0
takes is_unknown lent = 9

-- the values that a code takes where the four slices have these lengths: "an empty slice among the other three means not lent"
unfoldable pub takes_in : List ℕ → ℕ → ℕ
takes_in ls c = takes (code_kind c) (ltb 0 (get_or ls c 0))

-- "At most 8 values wait at once and exactly one is left": how many wait after the codes, where d wait before them; 0 if some code finds
-- too few values, or leaves eight of them where it would put one more
unfoldable pub left : List ℕ → List ℕ → ℕ → ℕ
left ls [] d = d
left ls (c ∷ cs) d =
    let t = takes_in ls c in
    let r = left ls cs (suc (d - t)) in
    cond (leb t d && ltb (d - t) 8) r 0

-- refusal 6 is given exactly where this is false
unfoldable pub is_formula : List (List ℕ) → List ℕ → Bool
is_formula ss cs = (leb 1 (length cs) && leb (length cs) 32) && eqb (left (map length ss) cs 0) 1
