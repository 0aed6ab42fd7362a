-- What is known where nothing is refused.
use mathlib.Core.Bool.{Bool, true, false, cond, ◌&&◌}
use mathlib.Core.List.{List, [], ◌∷◌, map}
use mathlib.Core.Logic.{◌≢◌}
use mathlib.Core.Path.{◌≡◌, refl, ◌∙◌, subst}
use Prim.Native.Nat.{ℕ, zero, suc, ◌≤◌, min}
use native.Mathlib.Omega.{arith}
use borrow.Author.Tests.{eqb-true, eqb-false}
use lib.Dec.{leb, eqb}
use lib.ListN.{length}
use Rattle.std.proofs.lemmas.List.{length-map}
use Rattle.util.proofs.Same.{both}
use Rattle.store.specs.Layout.{store_len, cap, is_store, StoreOf}
use Rattle.store.proofs.Geometry.{store_is}
use Rattle.formula_codes.specs.Check.{beside_of, sooner, stores_of, check_of}
use Rattle.formula_codes.specs.Codes.{left, is_formula}
use Rattle.formula_codes.specs.Formula.{slices}
use Rattle.formula_codes.specs.declared.Formula.{Formula}
use Rattle.formula_codes.specs.Tree.{four, nth}

-- a slice beside a store of capacity N: a store of that capacity where it is lent, and in no case longer
pub record Beside (N : ℕ) (s : List ℕ) : Type 0 where
  pub short : length s ≤ store_len N
  pub lent : length s ≢ 0 → StoreOf N s

-- store 0 is a store, each other slice fits beside it, and the codes are a formula
pub record Accepted (a b c d cs : List ℕ) : Type 0 where
  pub first : StoreOf (cap a) a
  pub beside : (x : ℕ) → Beside (cap a) (nth (four a b c d) x)
  pub formula : is_formula (four a b c d) cs ≡ true

beside_store : {N : ℕ} {s : List ℕ} → StoreOf N s → Beside N s
beside_store z = record { short = omega (arith, z.long); lent = λ n. z }

beside_fits : (N : ℕ) (s : List ℕ) → beside_of N s ≡ 0 → Beside N s
unfolding beside_of
beside_fits N s e = go (eqb (length s) 0) refl (is_store s) refl (eqb (cap s) N) refl e
  where
    go : (x : Bool) → eqb (length s) 0 ≡ x → (y : Bool) → is_store s ≡ y → (z : Bool) → eqb (cap s) N ≡ z → ◌≡◌ {A = ℕ} (cond x 0 (cond y (cond z 0 5) 2)) 0 → Beside N s
    go true p y q z r e = let l = eqb-true (length s) 0 p in record { short = omega (arith, l); lent = λ n. absurd (n l) }
    go false p true q true r e = beside_store (subst (λ (x : ℕ). StoreOf x s) (eqb-true (cap s) N r) (store_is q))
    go false p true q false r e = absurd (omega (arith, e))
    go false p false q z r e = absurd (omega (arith, e))

sooner_none : (x y : ℕ) → sooner x y ≡ 0 → (x ≡ 0) × (y ≡ 0)
unfolding sooner
sooner_none x y e = go (eqb x 0) (eqb y 0) refl refl e
  where
    go : (p q : Bool) → eqb x 0 ≡ p → eqb y 0 ≡ q → cond p y (cond q x (min x y)) ≡ 0 → (x ≡ 0) × (y ≡ 0)
    go true q p r e = (eqb-true x 0 p, e)
    go false true p r e = (e, eqb-true y 0 r)
    go false false p r e = absurd (omega (arith, eqb-false x 0 p, eqb-false y 0 r, e))

-- refusals 2 and 5 alone come from the slices
beside_small : (N : ℕ) (s : List ℕ) → beside_of N s ≤ 5
unfolding beside_of
beside_small N s = go (eqb (length s) 0) (is_store s) (eqb (cap s) N)
  where
    go : (x y z : Bool) → cond x 0 (cond y (cond z 0 5) 2) ≤ 5
    go true y z = omega arith
    go false true true = omega arith
    go false true false = omega arith
    go false false z = omega arith

sooner_small : (x y : ℕ) → x ≤ 5 → y ≤ 5 → sooner x y ≤ 5
unfolding sooner
sooner_small x y h l = go (eqb x 0) (eqb y 0)
  where
    go : (p q : Bool) → cond p y (cond q x (min x y)) ≤ 5
    go true q = l
    go false true = h
    go false false = omega arith

pub stores_small : (ss : List (List ℕ)) → stores_of ss ≤ 5
unfolding stores_of
stores_small ss = go (is_store (nth ss 0))
  where
    N : ℕ
    N = cap (nth ss 0)

    go : (x : Bool) → cond x (sooner (sooner (beside_of N (nth ss 1)) (beside_of N (nth ss 2))) (beside_of N (nth ss 3))) 2 ≤ 5
    go true =
        sooner_small (sooner (beside_of N (nth ss 1)) (beside_of N (nth ss 2))) (beside_of N (nth ss 3))
        (sooner_small (beside_of N (nth ss 1)) (beside_of N (nth ss 2)) (beside_small N (nth ss 1)) (beside_small N (nth ss 2))) (beside_small N (nth ss 3))
    go false = omega arith

pub check_small : (ss : List (List ℕ)) (cs : List ℕ) → check_of ss cs ≤ 6
unfolding check_of
check_small ss cs = go (eqb (stores_of ss) 0) (is_formula ss cs)
  where
    go : (x f : Bool) → cond x (cond f 0 6) (stores_of ss) ≤ 6
    go true true = omega arith
    go true false = omega arith
    go false f = omega (arith, stores_small ss)

pub formula_one : (ss : List (List ℕ)) (cs : List ℕ) → is_formula ss cs ≡ true → left (map length ss) cs 0 ≡ 1
unfolding is_formula
formula_one ss cs e = eqb-true (left (map length ss) cs 0) 1 (both (leb 1 (length cs) && leb (length cs) 32) (eqb (left (map length ss) cs 0) 1) e).1

pub accepted : (a b c d cs : List ℕ) → check_of (four a b c d) cs ≡ 0 → Accepted a b c d cs
unfolding check_of stores_of
accepted a b c d cs e = outer (eqb (stores_of ss) 0) refl (is_formula ss cs) refl e
  where
    ss : List (List ℕ)
    ss = four a b c d

    N : ℕ
    N = cap a

    inner : (x : Bool) → is_store a ≡ x → cond x (sooner (sooner (beside_of N b) (beside_of N c)) (beside_of N d)) 2 ≡ 0 → is_formula ss cs ≡ true → Accepted a b c d cs
    inner true p e f =
        let u = sooner_none (sooner (beside_of N b) (beside_of N c)) (beside_of N d) e in
        let v = sooner_none (beside_of N b) (beside_of N c) u.0 in
        record { first = store_is p; beside = each (store_is p) (beside_fits N b v.0) (beside_fits N c v.1) (beside_fits N d u.1); formula = f }
      where
        each : StoreOf N a → Beside N b → Beside N c → Beside N d → (x : ℕ) → Beside N (nth ss x)
        each za zb zc zd zero = beside_store za
        each za zb zc zd (suc zero) = zb
        each za zb zc zd (suc (suc zero)) = zc
        each za zb zc zd (suc (suc (suc zero))) = zd
        each za zb zc zd (suc (suc (suc (suc x)))) = record { short = omega arith; lent = λ n. absurd (n refl) }
    inner false p e f = absurd (omega (arith, e))

    outer : (x : Bool) → eqb (stores_of ss) 0 ≡ x → (f : Bool) → is_formula ss cs ≡ f → cond x (cond f 0 6) (stores_of ss) ≡ 0 → Accepted a b c d cs
    outer true q true f e = inner (is_store a) refl (eqb-true (stores_of ss) 0 q) f
    outer true q false f e = absurd (omega (arith, e))
    outer false q y f e = absurd (eqb-false (stores_of ss) 0 q e)

-- ---- any four slices

pub four_slices : (ss : List (List ℕ)) → length ss ≡ 4 → ss ≡ four (nth ss 0) (nth ss 1) (nth ss 2) (nth ss 3)
four_slices [] l = absurd (omega arith)
four_slices (a ∷ []) l = absurd (omega arith)
four_slices (a ∷ b ∷ []) l = absurd (omega arith)
four_slices (a ∷ b ∷ c ∷ []) l = absurd (omega arith)
four_slices (a ∷ b ∷ c ∷ d ∷ []) l = refl
four_slices (a ∷ b ∷ c ∷ d ∷ e ∷ ss) l = absurd (omega arith)

-- store 0 is a store where the slices are not refused, nor with the codes
pub stores_first : (ss : List (List ℕ)) → stores_of ss ≡ 0 → StoreOf (cap (nth ss 0)) (nth ss 0)
unfolding stores_of
stores_first ss e = go _ (is_store (nth ss 0)) refl e
  where
    go : (m : ℕ) (x : Bool) → is_store (nth ss 0) ≡ x → cond x m 2 ≡ 0 → StoreOf (cap (nth ss 0)) (nth ss 0)
    go m true p e = store_is p
    go m false p e = absurd (omega (arith, e))

pub accepted_first : (ss : List (List ℕ)) (cs : List ℕ) → check_of ss cs ≡ 0 → StoreOf (cap (nth ss 0)) (nth ss 0)
unfolding check_of
accepted_first ss cs e = stores_first ss (go _ (eqb (stores_of ss) 0) refl e)
  where
    go : (m : ℕ) (x : Bool) → eqb (stores_of ss) 0 ≡ x → cond x m (stores_of ss) ≡ 0 → stores_of ss ≡ 0
    go m true p e = eqb-true (stores_of ss) 0 p
    go m false p e = e

-- each slice of an accepted formula fits beside store 0
pub lent_beside : (f : Formula) → length f.stores ≡ 4 → check_of (slices f) f.codes.now ≡ 0 → (x : ℕ) → Beside (cap (nth (slices f) 0)) (nth (slices f) x)
lent_beside f l e x =
    let ss = slices f in
    let q = four_slices ss (length-map f.stores (λ s. s.now) ∙ l) in
    rw q ((accepted (nth ss 0) (nth ss 1) (nth ss 2) (nth ss 3) f.codes.now (rw q at e)).beside x)
