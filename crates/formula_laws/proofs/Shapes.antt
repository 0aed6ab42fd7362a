-- From codes to trees: a formula leaves its tree above whatever waits; two formulas and 16 are the intersection; stores and 17 alone are a
-- union.
use mathlib.Core.Bool.{Bool, true, false}
use mathlib.Core.List.{List, [], ◌∷◌, ◌++◌, map}
use mathlib.Core.Logic.{◌≢◌, ◌⊎◌, inl, inr}
use mathlib.Core.Path.{◌≡◌, refl, sym, ap, ◌∙◌, subst}
use Prim.Native.Nat.{ℕ, suc, ◌-◌, ◌≤◌, ◌<◌}
use native.Mathlib.Omega.{arith}
use lib.Dec.{ltb}
use lib.ListN.{length, get_or}
use Rattle.formula_codes.specs.Codes.{CodeKind, code_kind, join_two, turn_one, grow, trees, first_tree, tree_of, takes, takes_in, left, is_formula}
use Rattle.formula_codes.specs.Codes.CodeKind.{is_store, is_both, is_either, is_one_of, is_inverse, is_every, is_unknown}
use Rattle.formula_codes.specs.Tree.{Tree}
use Rattle.formula_codes.specs.Tree.Tree.{both, either, one_of, inverse}
use Rattle.formula_codes.proofs.Accepted.{formula_one}
use Rattle.formula_codes.proofs.Turns.{kind_store}
use Rattle.formula_word.proofs.Held.{code_fits}
use Rattle.formula_laws.specs.Sides.{Union, UnionCodes}

-- ---- one code: the trees below those that it takes stay

-- what is said of the trees after a code that takes t of those in st
abbrev Frames : (List Tree → List Tree) → List Tree → List Tree → ℕ → Type 0
Frames f st r t = (f (st ++ r) ≡ f st ++ r) × (length (f st) ≡ suc (length st - t))

two : (f : Tree → Tree → Tree) (st r : List Tree) → 2 ≤ length st → Frames (join_two f) st r 2
two f [] r h = absurd (omega arith)
two f (b ∷ []) r h = absurd (omega arith)
two f (b ∷ a ∷ st) r h = (refl, omega arith)

one : (f : Tree → Tree) (st r : List Tree) → 1 ≤ length st → Frames (turn_one f) st r 1
one f [] r h = absurd (omega arith)
one f (a ∷ st) r h = (refl, omega arith)

grow_frame : (κ : CodeKind) (lent : Bool) (c : ℕ) (st r : List Tree) → length st ≤ 8 → takes κ lent ≤ length st → Frames (grow κ c) st r (takes κ lent)
grow_frame is_store true c st r m h = (refl, omega arith)
grow_frame is_store false c st r m h = absurd (omega arith)
grow_frame is_both lent c st r m h = two both st r h
grow_frame is_either lent c st r m h = two either st r h
grow_frame is_one_of lent c st r m h = two one_of st r h
grow_frame is_inverse lent c st r m h = one inverse st r h
grow_frame is_every lent c st r m h = (refl, omega arith)
grow_frame is_unknown lent c st r m h = absurd (omega arith)

-- ---- many codes

trees_frame : (ls cs : List ℕ) (st r : List Tree) → length st ≤ 8 → left ls cs (length st) ≢ 0
    → (trees cs (st ++ r) ≡ trees cs st ++ r) × (length (trees cs st) ≡ left ls cs (length st))
unfolding trees left takes_in
trees_frame ls [] st r m n = (refl, refl)
trees_frame ls (c ∷ cs) st r m n =
    let f = code_fits ls c cs (length st) (left ls (c ∷ cs) (length st)) n refl in
    let g = grow_frame (code_kind c) (ltb 0 (get_or ls c 0)) c st r m f.enough in
    let e : left ls cs (length (grow (code_kind c) c st)) ≡ left ls (c ∷ cs) (length st) = ap (left ls cs) g.1 ∙ f.onward in
    let i = trees_frame ls cs (grow (code_kind c) c st) r (omega (arith, g.1, f.few)) (λ z. n (sym e ∙ z)) in
    (ap (trees cs) g.0 ∙ i.0, i.1 ∙ e)

pub trees-append : (xs ys : List ℕ) (st : List Tree) → trees (xs ++ ys) st ≡ trees ys (trees xs st)
unfolding trees
trees-append [] ys st = refl
trees-append (x ∷ xs) ys st = trees-append xs ys (grow (code_kind x) x st)

one_tree : (st : List Tree) → length st ≡ 1 → st ≡ first_tree st ∷ []
one_tree [] h = absurd (omega arith)
one_tree (e ∷ []) h = refl
one_tree (e ∷ f ∷ st) h = absurd (omega arith)

-- A FORMULA leaves its tree, above whatever waits.
pub leaves_one : (ss : List (List ℕ)) (cs : List ℕ) (r : List Tree) → is_formula ss cs ≡ true → trees cs r ≡ tree_of cs ∷ r
unfolding tree_of
leaves_one ss cs r e =
    let l = formula_one ss cs e in
    let f = trees_frame (map length ss) cs [] r (omega arith) (λ z. omega (arith, l, z)) in
    f.0 ∙ ap (λ (x : List Tree). x ++ r) (one_tree (trees cs []) (f.1 ∙ l))

-- TWO FORMULAS AND A CODE, and one and a code: the code's tree over theirs
pub tree_two : (ss : List (List ℕ)) (f g : List ℕ) (c : ℕ) → is_formula ss f ≡ true → is_formula ss g ≡ true
    → tree_of (f ++ (g ++ c ∷ [])) ≡ first_tree (grow (code_kind c) c (tree_of g ∷ tree_of f ∷ []))
unfolding tree_of trees
tree_two ss f g c p q =
    ap first_tree
    (trees-append f (g ++ c ∷ []) []
    ∙ ap (trees (g ++ c ∷ [])) (leaves_one ss f [] p)
    ∙ trees-append g (c ∷ []) (tree_of f ∷ [])
    ∙ ap (trees (c ∷ [])) (leaves_one ss g (tree_of f ∷ []) q))

pub tree_one : (ss : List (List ℕ)) (f : List ℕ) (c : ℕ) → is_formula ss f ≡ true → tree_of (f ++ c ∷ []) ≡ first_tree (grow (code_kind c) c (tree_of f ∷ []))
unfolding tree_of trees
tree_one ss f c p = ap first_tree (trees-append f (c ∷ []) [] ∙ ap (trees (c ∷ [])) (leaves_one ss f [] p))

-- ---- a union by its codes

abbrev Unions : List Tree → Type 0
Unions [] = Unit {0}
Unions (e ∷ st) = Union e × Unions st

join_union : (st : List Tree) → Unions st → Unions (join_two either st)
join_union [] u = tt
join_union (b ∷ []) u = u
join_union (b ∷ a ∷ st) u = ((u.1.0, u.0), u.1.1)

grow_union : (c : ℕ) (st : List Tree) → (c < 4) ⊎ (c ≡ 17) → Unions st → Unions (grow (code_kind c) c st)
unfolding code_kind
grow_union c st (inl h) u = subst (λ (κ : CodeKind). Unions (grow κ c st)) (sym (kind_store c h)) (tt, u)
grow_union c st (inr e) u = subst (λ (x : ℕ). Unions (grow (code_kind x) c st)) (sym e) (join_union st u)

trees_union : (cs : List ℕ) (st : List Tree) → UnionCodes cs → Unions st → Unions (trees cs st)
unfolding trees
trees_union [] st o u = u
trees_union (c ∷ cs) st o u = trees_union cs (grow (code_kind c) c st) o.1 (grow_union c st o.0 u)

pub tree_union : (ss : List (List ℕ)) (cs : List ℕ) → is_formula ss cs ≡ true → UnionCodes cs → Union (tree_of cs)
tree_union ss cs e o = (subst Unions (leaves_one ss cs [] e) (trees_union cs [] o tt)).0

-- such codes there are: of one store, and of four
pub union_some : UnionCodes (0 ∷ []) × UnionCodes (0 ∷ 1 ∷ 17 ∷ 2 ∷ 17 ∷ 3 ∷ 17 ∷ [])
union_some = ((inl (omega arith), tt), (inl (omega arith), (inl (omega arith), (inr refl, (inl (omega arith), (inr refl, (inl (omega arith), (inr refl, tt))))))))
