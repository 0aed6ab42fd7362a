-- The codes of a formula leave the value of its tree: the stack holds the values of the trees that wait.
use mathlib.Core.Bool.{Bool, true, false, cond, ◌&&◌}
use mathlib.Core.List.{List, [], ◌∷◌}
use mathlib.Core.Logic.{◌≢◌}
use mathlib.Core.Path.{◌≡◌, refl, sym, ap, ap₂, ◌∙◌}
use Prim.Native.Nat.{ℕ, suc, ◌+◌, ◌-◌, ◌%◌, ◌≤◌, ◌<◌}
use native.Mathlib.Omega.{arith}
use borrow.Author.Tests.{leb-true, ltb-true}
use lib.Dec.{leb, ltb}
use lib.ListN.{length, get_or, set, length-set}
use lib.Seq.{get_or-set_same, get_or-set_other}
use Rattle.formula_codes.specs.Codes.{CodeKind, code_kind, join_two, turn_one, grow, trees, first_tree, takes, takes_in, left}
use Rattle.formula_codes.specs.Codes.CodeKind.{is_store, is_both, is_either, is_one_of, is_inverse, is_every, is_unknown}
use Rattle.formula_codes.specs.Tree.{Tree, joined, not_in, value}
use Rattle.formula_codes.specs.Tree.Tree.{store, both, either, one_of, inverse, every}
use Rattle.formula_word.specs.Machine.{Stack, made_of, moves, stepped, evaluated}

-- what a code of a formula finds: values enough, and at most seven that it leaves
pub record FitsStack (ls : List ℕ) (c : ℕ) (cs : List ℕ) (d w : ℕ) : Type 0 where
  pub enough : takes_in ls c ≤ d
  pub few : d - takes_in ls c < 8
  pub onward : left ls cs (suc (d - takes_in ls c)) ≡ w

pub code_fits : (ls : List ℕ) (c : ℕ) (cs : List ℕ) (d w : ℕ) → w ≢ 0 → left ls (c ∷ cs) d ≡ w → FitsStack ls c cs d w
unfolding left
code_fits ls c cs d w n e = go (leb t d) (ltb (d - t) 8) refl refl e
  where
    t : ℕ
    t = takes_in ls c

    go : (x y : Bool) → leb t d ≡ x → ltb (d - t) 8 ≡ y → cond (x && y) (left ls cs (suc (d - t))) 0 ≡ w → FitsStack ls c cs d w
    go true true p q e = record { enough = leb-true t d p; few = ltb-true (d - t) 8 q; onward = e }
    go true false p q e = absurd (n (sym e))
    go false y p q e = absurd (n (sym e))

module _ (w : ℕ → ℕ) (k cut : ℕ) where
  -- the trees under the last one have their values in the stack, each at the place after those below it
  abbrev Under : List ℕ → List Tree → Type 0
  Under v [] = Unit {0}
  Under v (e ∷ st) = (get_or v (suc (length st)) 0 ≡ value w k cut e) × Under v st

  abbrev Tops : List ℕ → ℕ → List Tree → Type 0
  Tops v b [] = Unit {0}
  Tops v b (e ∷ st) = (b ≡ value w k cut e) × Under v st

  -- a place that is none of theirs may be written
  under-set : (v : List ℕ) (st : List Tree) (p y : ℕ) → ((q : ℕ) → 0 < q → q ≤ length st → q ≢ p) → Under v st → Under (set v p y) st
  under-set v [] p y off u = tt
  under-set v (e ∷ st) p y off u =
      let n = off (suc (length st)) (omega arith) (omega arith) in
      (get_or-set_other v p (suc (length st)) y 0 n ∙ u.0, under-set v st p y (λ q a b. off q a (omega arith)) u.1)

  pub record HeldOn (s : Stack) (st : List Tree) : Type 0 where
    pub size : length s.words ≡ 8
    pub few : length st ≤ 8
    pub here : s.place ≡ length st % 8
    pub tops : Tops s.words s.last st

  -- ---- what each kind of code does

  module _ (s : Stack) where
    abbrev put : List ℕ
    put = set s.words s.place s.last

    abbrev below : ℕ
    below = get_or put ((s.place + 7) % 8) 0

    abbrev after : ℕ → ℕ → Stack
    after m b = record { words = put; place = (s.place + m) % 8; last = b }

    pushed : (st : List Tree) (e : Tree) (b : ℕ) → length st < 8 → b ≡ value w k cut e → HeldOn s st → HeldOn (after 1 b) (e ∷ st)
    pushed st e b l eb h = record {
      size = length-set s.words s.place s.last ∙ h.size;
      few = omega arith;
      here = omega (arith, h.here);
      tops = (eb, under st h.tops l h.here);
    }
      where
        under : (st : List Tree) → Tops s.words s.last st → length st < 8 → s.place ≡ length st % 8 → Under put st
        under [] t l p = tt
        under (x ∷ st) t l p =
            let q : s.place ≡ suc (length st) = omega arith in (
              ap (λ (y : ℕ). get_or put y 0) (sym q) ∙ get_or-set_same s.words s.place s.last 0 (omega (arith, h.size)) ∙ t.0,
              under-set s.words st s.place s.last (λ y a b e. omega arith) t.1,
            )

    held_joined : (st : List Tree) (a b e : Tree) (x : ℕ) → (below ≡ value w k cut a → s.last ≡ value w k cut b → x ≡ value w k cut e)
        → HeldOn s (b ∷ a ∷ st) → HeldOn (after 7 x) (e ∷ st)
    held_joined st a b e x f h =
        let n : suc (suc (length st)) ≤ 8 = h.few in
        let i : (s.place + 7) % 8 ≡ suc (length st) = omega (arith, h.here) in
        let o : suc (length st) ≢ s.place = λ q. omega (arith, h.here) in
        let y : below ≡ value w k cut a = ap (λ (z : ℕ). get_or put z 0) i ∙ get_or-set_other s.words s.place (suc (length st)) s.last 0 o ∙ h.tops.1.0 in
        record {
          size = length-set s.words s.place s.last ∙ h.size;
          few = omega arith;
          here = omega (arith, i);
          tops = (f y h.tops.0, under-set s.words st s.place s.last (λ z p q e. omega (arith, h.here)) h.tops.1.1);
        }

    turned : (st : List Tree) (a e : Tree) (x : ℕ) → (s.last ≡ value w k cut a → x ≡ value w k cut e) → HeldOn s (a ∷ st) → HeldOn (after 0 x) (e ∷ st)
    turned st a e x f h = record {
      size = length-set s.words s.place s.last ∙ h.size;
      few = h.few;
      here = omega (arith, h.here);
      tops = (f h.tops.0, under-set s.words st s.place s.last (λ z p q e. omega (arith, h.here, h.few)) h.tops.1);
    }

  -- ---- any code of a formula

  -- what a code leaves, where it takes t of the d that wait
  abbrev Left : Stack → List Tree → ℕ → ℕ → Type 0
  Left s st d t = HeldOn s st × (length st ≡ suc (d - t))

  two : (f : Tree → Tree → Tree) (s : Stack) (st : List Tree) (x : ℕ) → 2 ≤ length st
      → ((a b : Tree) → below s ≡ value w k cut a → s.last ≡ value w k cut b → x ≡ value w k cut (f a b)) → HeldOn s st → Left (after s 7 x) (join_two f st) (length st) 2
  two f s [] x h g held = absurd (omega arith)
  two f s (b ∷ []) x h g held = absurd (omega arith)
  two f s (b ∷ a ∷ st) x h g held = (held_joined s st a b (f a b) x (g a b) held, omega arith)

  one : (f : Tree → Tree) (s : Stack) (st : List Tree) (x : ℕ) → 1 ≤ length st → ((a : Tree) → s.last ≡ value w k cut a → x ≡ value w k cut (f a)) → HeldOn s st
      → Left (after s 0 x) (turn_one f st) (length st) 1
  one f s [] x h g held = absurd (omega arith)
  one f s (a ∷ st) x h g held = (turned s st a (f a) x (g a) held, omega arith)

  by_kind_lem : (κ : CodeKind) (lent : Bool) (c x : ℕ) (s : Stack) (st : List Tree) → x ≡ w c → takes κ lent ≤ length st → length st - takes κ lent < 8 → HeldOn s st
      → Left (after s (moves κ) (made_of κ x k cut (below s) s.last)) (grow κ c st) (length st) (takes κ lent)
  unfolding moves made_of value
  by_kind_lem is_store true c x s st e h l held = (pushed s st (store c) x (omega (arith, l)) e held, omega arith)
  by_kind_lem is_store false c x s st e h l held = absurd (omega (arith, held.few))
  by_kind_lem is_both lent c x s st e h l held = two both s st (joined 16 k (below s) s.last) h (λ a b p q. ap₂ (joined 16 k) p q) held
  by_kind_lem is_either lent c x s st e h l held = two either s st (joined 17 k (below s) s.last) h (λ a b p q. ap₂ (joined 17 k) p q) held
  by_kind_lem is_one_of lent c x s st e h l held = two one_of s st (joined 18 k (below s) s.last) h (λ a b p q. ap₂ (joined 18 k) p q) held
  by_kind_lem is_inverse lent c x s st e h l held = one inverse s st (not_in k cut s.last) h (λ a p. ap (not_in k cut) p) held
  by_kind_lem is_every lent c x s st e h l held = (pushed s st every cut (omega (arith, l)) refl held, omega arith)
  by_kind_lem is_unknown lent c x s st e h l held = absurd (omega (arith, held.few))

  -- THE CODES, from any trees that wait on: where one value is left, it is the tree's
  pub leaves_value : (ls ws cs : List ℕ) → ((c : ℕ) → get_or ws c 0 ≡ w c) → (s : Stack) (st : List Tree) → HeldOn s st → left ls cs (length st) ≡ 1
      → evaluated k cut ws cs s ≡ value w k cut (first_tree (trees cs st))
  unfolding left trees evaluated takes_in stepped
  leaves_value ls ws [] is s [] held e = absurd (omega (arith, e))
  leaves_value ls ws [] is s (x ∷ []) held e = held.tops.0
  leaves_value ls ws [] is s (x ∷ y ∷ st) held e = absurd (omega (arith, e))
  leaves_value ls ws (c ∷ cs) is s st held e =
      let f = code_fits ls c cs (length st) 1 (λ q. omega arith) e in
      let n = by_kind_lem (code_kind c) (ltb 0 (get_or ls c 0)) c (get_or ws c 0) s st (is c) f.enough f.few held in
      leaves_value ls ws cs is (stepped k cut ws c s) (grow (code_kind c) c st) n.0 (ap (left ls cs) n.1 ∙ f.onward)
