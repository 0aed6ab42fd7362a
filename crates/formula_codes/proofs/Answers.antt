-- What each way out of the code answers is what the definition answers there.
use mathlib.Core.Bool.{Bool, true, false, cond, ◌&&◌}
use mathlib.Core.List.{List, [], ◌∷◌, map}
use mathlib.Core.Logic.{◌≢◌}
use mathlib.Core.Path.{◌≡◌, refl, sym, ap, ◌∙◌}
use Prim.Native.Nat.{ℕ, suc, ◌-◌, ◌≤◌, ◌<◌}
use borrow.Author.Tests.{eq-eqb, ne_eqb, le-leb, lt-leb}
use lib.Dec.{leb, ltb, eqb}
use lib.ListN.{length, get_or}
use Rattle.std.proofs.Common.{arith, nat_eq, Result, Ok, Err, Option, Some, None}
use Rattle.std.specs.Option.{option_eq}
use Rattle.std.proofs.Math.ListN.{get_or-map}
use Rattle.store.specs.Answer.{tested, judged, numbered}
use Rattle.store.specs.declared.Refusal.{Refusal}
use Rattle.store.specs.declared.Refusal.TheVariants.{Capacities, Formula as NoFormula}
use Rattle.store.specs.Layout.{cap, StoreOf}
use Rattle.store.proofs.Ends.{some_store, no_store, no_store_is}
use Rattle.store.proofs.Judged.{nothing, something}
use Rattle.store.proofs.Geometry.{is_store_lem}
use Rattle.formula_codes.specs.Check.{beside_of, sooner, stores_of, check_of}
use Rattle.formula_codes.specs.Codes.{takes_in, left, is_formula}
use Rattle.formula_codes.specs.Formula.{slices, sized}
use Rattle.formula_codes.specs.Steps.{first_refusal, waiting_after}
use Rattle.formula_codes.specs.Tree.{nth}
use Rattle.formula_codes.specs.declared.Formula.{Formula}
use Rattle.formula_codes.proofs.First.{sooner_three}
use Rattle.formula_codes.proofs.Sized.{sized_passed, sized_refused}

-- ---- a slice beside a store of capacity N

module _ (N : ℕ) (s : List ℕ) where
  pub beside_none : length s ≡ 0 → 0 ≡ beside_of N s
  unfolding beside_of
  beside_none e = sym (rw e)

  -- as long as the store, and it names the same capacity
  pub beside_like : (a : List ℕ) → Ok N ≡ tested a → length s ≢ 0 → length s ≡ length a → cap s ≡ N → 0 ≡ beside_of N s
  unfolding beside_of
  beside_like a t some l e =
      let z = some_store a t refl in
      let b : StoreOf N s = record { some = z.some; most = z.most; names = e; long = l ∙ z.long } in
      sym (rw (ne_eqb (length s) 0 some, is_store_lem b, eq-eqb (cap s) N e))

  module _ (some : length s ≢ 0) where
    pub beside_2 : {x : Refusal} → Err x ≡ tested s → Err x ≡ judged (beside_of N s)
    unfolding beside_of numbered
    beside_2 e = rw (no_store_is s e refl, ne_eqb (length s) 0 some, no_store s e refl) refl

    pub beside_fits : {m : ℕ} → Ok m ≡ tested s → m ≡ N → Ok tt ≡ judged (beside_of N s)
    unfolding beside_of
    beside_fits t e = let z = some_store s t refl in sym (rw (ne_eqb (length s) 0 some, is_store_lem z, eq-eqb (cap s) N (z.names ∙ e)))

    pub beside_5 : {m : ℕ} → Ok m ≡ tested s → m ≢ N → Err Capacities ≡ judged (beside_of N s)
    unfolding beside_of numbered
    beside_5 t n = let z = some_store s t refl in sym (rw (ne_eqb (length s) 0 some, is_store_lem z, ne_eqb (cap s) N (λ e. n (sym z.names ∙ e))))

pub ruleset beside_answers = (beside_none, beside_2, beside_fits, beside_5)

pub ruleset like_answers = (beside_none, beside_like)

-- ---- a judge that answers the capacity

module _ (ss : List (List ℕ)) (m : ℕ) where
  sized_err : {x : Refusal} → Err x ≡ judged m → Err x ≡ sized ss m
  sized_err e = let q = something m e refl in sym (rw (ne_eqb m 0 q.0, ← q.1))

  sized_ok : Ok tt ≡ judged m → Ok (cap (nth ss 0)) ≡ sized ss m
  sized_ok e = sym (rw (nothing m e refl))

-- ---- the four slices

module _ (f : Formula) where
  -- slice i, as the code reads it
  abbrev at : ℕ → List ℕ
  at i = (get_or f.stores i (record { ref_ptr = (0, 0); now = [] })).now

  at_is : (i : ℕ) → nth (slices f) i ≡ at i
  at_is i = get_or-map (λ s. s.now) f.stores i (record { ref_ptr = (0, 0); now = [] })

  abbrev judge : Result ℕ Refusal
  judge = sized (slices f) (stores_of (slices f))

  pub stores_none : {x : Refusal} → Err x ≡ tested (at 0) → Err x ≡ judge
  unfolding stores_of numbered
  stores_none e = rw (no_store_is (at 0) e refl, at_is 0, no_store (at 0) e refl) refl

  module _ {n : ℕ} (t : Ok n ≡ tested (at 0)) where
    z : StoreOf n (at 0)
    z = some_store (at 0) t refl

    -- the refusal is that of the three slices beside it
    rest : stores_of (slices f) ≡ sooner (sooner (beside_of n (at 1)) (beside_of n (at 2))) (beside_of n (at 3))
    unfolding stores_of
    rest = rw (at_is 0, at_is 1, at_is 2, at_is 3, is_store_lem z, z.names)

    names : cap (nth (slices f) 0) ≡ n
    names = rw (at_is 0, z.names)

    pub stores_alike : 0 ≡ beside_of n (at 1) → 0 ≡ beside_of n (at 2) → 0 ≡ beside_of n (at 3) → Ok n ≡ judge
    unfolding sooner
    stores_alike x y w = sym (rw (names, rest, ← x, ← y, ← w))

    abbrev first : Result (Unit {0}) Refusal
    first = first_refusal (first_refusal (judged (beside_of n (at 1))) (judged (beside_of n (at 2)))) (judged (beside_of n (at 3)))

    judged_rest : first ≡ judged (stores_of (slices f))
    judged_rest = sooner_three n (at 1) (at 2) (at 3) ∙ ap judged (sym rest)

    pub stores_refused : {x : Refusal} → Err x ≡ first → Err x ≡ judge
    stores_refused e = sized_err (slices f) (stores_of (slices f)) (e ∙ judged_rest)

    pub stores_taken : Ok tt ≡ first → Ok n ≡ judge
    stores_taken e = ap Ok (sym names) ∙ sized_ok (slices f) (stores_of (slices f)) (e ∙ judged_rest)

pub ruleset stores_answers = (stores_none, stores_alike, stores_refused, stores_taken)

-- ---- the codes

abbrev waits_as : Option ℕ → ℕ
waits_as None = 0
waits_as (Some d) = d

-- how many wait is the definition's number, 0 where none do
left_is : (ls cs : List ℕ) (d : ℕ) → left ls cs d ≡ waits_as (waiting_after ls cs d)
unfolding left waiting_after
left_is ls [] d = refl
left_is ls (c ∷ cs) d = let t = takes_in ls c in go (waiting_after ls cs (suc (d - t))) (leb t d && ltb (d - t) 8) (left_is ls cs (suc (d - t)))
  where
    go : {n : ℕ} (o : Option ℕ) (x : Bool) → n ≡ waits_as o → cond x n 0 ≡ waits_as (cond x o None)
    go o true e = e
    go o false e = refl

module _ (ss : List (List ℕ)) (cs : List ℕ) where
  pub formula_long : 32 < length cs → false ≡ is_formula ss cs
  unfolding is_formula
  formula_long l = sym (rw (le-leb 1 (length cs) (omega (arith, l)), lt-leb (length cs) 32 l))

-- of no codes no value is left
pub formula_left : (ss : List (List ℕ)) (cs : List ℕ) → length cs ≤ 32 → eqb (waits_as (waiting_after (map length ss) cs 0)) 1 ≡ is_formula ss cs
unfolding is_formula waiting_after
formula_left ss [] l = refl
formula_left ss (c ∷ cs) l = sym (rw (le-leb 1 (length (c ∷ cs)) (omega arith), le-leb (length (c ∷ cs)) 32 l, left_is (map length ss) (c ∷ cs) 0))

pub one_left : (o : Option ℕ) → option_eq nat_eq o (Some 1) ≡ eqb (waits_as o) 1
one_left None = refl
one_left (Some d) = refl

pub ruleset formula_answers = (formula_long, formula_left, one_left)

-- ---- the judge

module _ (ss : List (List ℕ)) (cs : List ℕ) where
  abbrev judged_stores : Result ℕ Refusal
  judged_stores = sized ss (stores_of ss)

  abbrev judged_all : Result ℕ Refusal
  judged_all = sized ss (check_of ss cs)

  pub check_stores : {x : Refusal} → Err x ≡ judged_stores → Err x ≡ judged_all
  unfolding check_of
  check_stores e = let q : check_of ss cs ≡ stores_of ss = rw (ne_eqb (stores_of ss) 0 (sized_refused ss (stores_of ss) e).0) in e ∙ ap (sized ss) (sym q)

  pub check_taken : {n : ℕ} → Ok n ≡ judged_stores → true ≡ is_formula ss cs → Ok n ≡ judged_all
  unfolding check_of
  check_taken e h = let z = sized_passed ss (stores_of ss) e in sym (rw (z.0, ← h, ← z.1))

  pub check_codes : {n : ℕ} → Ok n ≡ judged_stores → false ≡ is_formula ss cs → Err NoFormula ≡ judged_all
  unfolding check_of numbered
  check_codes e h = let z = sized_passed ss (stores_of ss) e in sym (rw (z.0, ← h))

pub ruleset check_answers = (check_stores, check_taken, check_codes)
