-- What the steps of `read_id` find, said of the definition of an id.
use mathlib.Core.List.{List, [], ◌∷◌}
use mathlib.Core.Path.{◌≡◌, ap}
use Prim.Native.Nat.{ℕ, ◌≤◌, ◌<◌}
use native.Mathlib.Decide.{dec_lt}
use native.Mathlib.Omega.{arith}
use borrow.Author.Tests.{lt-ltb, le-ltb, eq-eqb, ne_eqb}
use lib.Dec.{eqb}
use Rattle.std.proofs.lemmas.Bool.Decides.{nat_tests}
use lib.ListN.{length}
use Rattle.std.specs.Prelude.{Some, None}
use Rattle.std.specs.Bool.{then_some}
use Rattle.text_in.specs.Number.{digit_of, digits, value_after, number_of}
use Rattle.listing_line.specs.Line.{id_of}

-- ---- the definition of an id, by cases on the digits that it starts with

module _ (bs : List ℕ) where
  pub id_long : 10 < length bs → id_of bs ≡ None
  unfolding id_of
  id_long h = simp (lt-ltb _ _ h)

  module _ (short : length bs ≤ 10) where
    pub id_none : length (digits bs) ≡ 0 → id_of bs ≡ None
    unfolding id_of
    id_none z = simp (le-ltb _ _ short, eq-eqb _ _ z)

    module _ (some : length (digits bs) ≡ 0 → ⊥) where
      pub id_great : 4294967295 < value_after 0 (digits bs) → id_of bs ≡ None
      unfolding id_of
      id_great h = simp (le-ltb _ _ short, ne_eqb _ _ some, lt-ltb _ _ h)

      module _ (fits : value_after 0 (digits bs) ≤ 4294967295) where
        pub id-more : length (digits bs) < length bs → id_of bs ≡ None
        unfolding id_of
        id-more h = simp (le-ltb _ _ short, ne_eqb _ _ some, le-ltb _ _ fits, lt-ltb _ _ h)

        pub id_is : length bs ≤ length (digits bs) → id_of bs ≡ Some (value_after 0 (digits bs))
        unfolding id_of
        id_is h = simp (le-ltb _ _ short, ne_eqb _ _ some, le-ltb _ _ fits, le-ltb _ _ h)

-- ---- what `text_in::number` read

pub digit_first : (b : ℕ) (bs : List ℕ) → digit_of b < 10 → digits (b ∷ bs) ≡ digit_of b ∷ digits bs
unfolding digits
digit_first b bs h = simp (lt-ltb _ _ h)

pub no_first : (b : ℕ) (bs : List ℕ) → 10 ≤ digit_of b → digits (b ∷ bs) ≡ []
unfolding digits
no_first b bs h = simp (le-ltb _ _ h)

pub no_more : (bs : List ℕ) → length (digits bs) ≤ length bs
unfolding digits
no_more [] = omega arith
no_more (b ∷ bs) = go (no_more bs) (dec_lt (digit_of b) 10)
  where
    go : length (digits bs) ≤ length bs → Dec (digit_of b < 10) → length (digits (b ∷ bs)) ≤ length (b ∷ bs)
    go rest (yes d) = omega (arith, ap length (digit_first b bs d))
    go rest (no d) = omega (arith, ap length (no_first b bs (omega arith)))

module _ (bs : List ℕ) (short : length bs ≤ 10) where
  pub read_none : None ≡ number_of bs 0 4294967295 → None ≡ id_of bs
  unfolding number_of id_of
  read_none e = grind (arith, nat_tests)

  pub read_fits : {n e : ℕ} → Some (n, e) ≡ number_of bs 0 4294967295 → n ≤ 4294967295
  unfolding number_of
  read_fits e = grind (arith, nat_tests)

  pub read_some : {n e : ℕ} → Some (n, e) ≡ number_of bs 0 4294967295 → then_some (eqb e (length bs)) n ≡ id_of bs
  unfolding number_of id_of
  read_some e = let l = no_more bs in grind (arith, nat_tests)
