-- The kind of a code, by the tests that the code makes; what it takes; one turn of the check.
use mathlib.Core.Bool.{Bool, true, false, cond, ◌&&◌}
use mathlib.Core.List.{List, map}
use mathlib.Core.Logic.{◌≢◌, ◌⊎◌, inl, inr, ⊎_elim}
use mathlib.Core.Path.{◌≡◌, refl, sym, ap, ◌∙◌}
use Prim.Native.Nat.{ℕ, suc, ◌+◌, ◌-◌, ◌%◌, ◌≤◌, ◌<◌}
use native.Mathlib.Decide.{ℕ_discrete}
use native.Mathlib.Omega.{arith}
use borrow.Author.Tests.{lt-ltb, le-ltb, ne_eqb, ltb-true}
use lib.Dec.{leb, ltb}
use lib.ListN.{length, get_or}
use Rattle.std.proofs.Common.{[], Option, None, Some, drop, drop-cons, drop_of_length-le, add-one}
use Rattle.std.proofs.lemmas.Option.{none-some, cond_some}
use Rattle.std.proofs.Math.ListN.{get_or-map}
use Rattle.util.proofs.Same.{both}
use Rattle.formula_codes.specs.Codes.{code_kind, takes, takes_in}
use Rattle.formula_codes.specs.Codes.CodeKind.{is_store, is_unknown}
use Rattle.formula_codes.specs.Steps.{waiting, waiting_after, Counting}
use Rattle.formula_codes.specs.Tree.{nth}

-- ---- the kinds

module _ (c : ℕ) where
  pub kind_store : c < 4 → code_kind c ≡ is_store
  unfolding code_kind
  kind_store h = rw (lt-ltb c 4 h)

  pub kind_unknown : 4 ≤ c → (c < 16) ⊎ (19 ≤ c) → c ≢ 19 → c ≢ 20 → code_kind c ≡ is_unknown
  unfolding code_kind
  kind_unknown h o n19 n20 =
      let out : (n : ℕ) → 16 ≤ n → n < 19 → c ≢ n = λ n a b e. ⊎_elim (λ (l : c < 16). omega arith) (λ (l : 19 ≤ c). omega arith) o in
      rw (
        le-ltb c 4 h,
        ne_eqb c 16 (out 16 (omega arith) (omega arith)),
        ne_eqb c 17 (out 17 (omega arith) (omega arith)),
        ne_eqb c 18 (out 18 (omega arith) (omega arith)),
        ne_eqb c 19 n19,
        ne_eqb c 20 n20,
      )

-- ---- what a code takes

module _ (ss : List (List ℕ)) (c : ℕ) (h : c < 4) where
  -- the length by which a store is lent
  long : get_or (map length ss) c 0 ≡ length (nth ss (c % 4))
  long = let e : c % 4 ≡ c = omega arith in get_or-map length ss c [] ∙ ap (λ (x : ℕ). length (nth ss x)) (sym e)

  pub takes_lent : length (nth ss (c % 4)) ≢ 0 → takes_in (map length ss) c ≡ 0
  unfolding takes_in
  takes_lent n = rw (kind_store c h, long, lt-ltb 0 (length (nth ss (c % 4))) (omega arith))

  pub takes_missing : length (nth ss (c % 4)) ≡ 0 → takes_in (map length ss) c ≡ 9
  unfolding takes_in
  takes_missing e = rw (kind_store c h, long, e)

module _ (ls : List ℕ) (c : ℕ) where
  pub takes_two : 16 ≤ c → c < 19 → takes_in ls c ≡ 2
  unfolding takes_in code_kind
  takes_two h l = go (ℕ_discrete c 16) (ℕ_discrete c 17)
    where
      go : Dec (c ≡ 16) → Dec (c ≡ 17) → takes (code_kind c) (ltb 0 (get_or ls c 0)) ≡ 2
      go (yes e) d = rw e
      go (no a) (yes e) = rw e
      go (no a) (no b) = let e : c ≡ 18 = omega arith in rw e

  pub takes_last : 19 ≤ c → c < 21 → takes_in ls c ≡ 20 - c
  unfolding takes_in code_kind
  takes_last h l = go (ℕ_discrete c 19)
    where
      go : Dec (c ≡ 19) → takes (code_kind c) (ltb 0 (get_or ls c 0)) ≡ 20 - c
      go (yes e) = rw e
      go (no n) = let e : c ≡ 20 = omega arith in rw e

  pub takes_low : 4 ≤ c → c < 16 → takes_in ls c ≡ 9
  unfolding takes_in
  takes_low h l = rw (kind_unknown c h (inl l) (λ e. omega arith) (λ e. omega arith))

  pub takes_high : 21 ≤ c → takes_in ls c ≡ 9
  unfolding takes_in
  takes_high h = rw (kind_unknown c (omega arith) (inr (omega arith)) (λ e. omega arith) (λ e. omega arith))

pub ruleset taken = (takes_lent, takes_missing, takes_two, takes_last, takes_low, takes_high)

-- ---- the codes one after another

pub counting_start : (ls cs : List ℕ) → Counting ls cs 0 0
counting_start ls cs = record { few = omega arith; same = refl }

module _ {ls cs : List ℕ} {d j : ℕ} (g : Counting ls cs d j) where
  module _ (more : j < length cs) where
    abbrev t : ℕ
    t = takes_in ls (get_or cs j 0)

    -- the definition at this code
    here : cond (leb t d && ltb (d - t) 8) (waiting_after ls (drop (suc j) cs) (suc (d - t))) None ≡ waiting_after ls cs 0
    unfolding waiting_after
    here = ap (λ (l : List ℕ). waiting_after ls l d) (sym (drop-cons cs j 0 more)) ∙ g.same

    pub counting_stops : None ≡ waiting t d → None ≡ waiting_after ls cs 0
    counting_stops e = go (waiting_after ls (drop (suc j) cs) (suc (d - t))) (leb t d && ltb (d - t) 8) e here
      where
        go : (o : Option ℕ) (x : Bool) → None ≡ cond x (Some (suc (d - t))) None → cond x o None ≡ waiting_after ls cs 0 → None ≡ waiting_after ls cs 0
        go o true e h = absurd (none-some _ e)
        go o false e h = h

    pub counting_on : {r : ℕ} → Some r ≡ waiting t d → Counting ls cs r (j + 1)
    counting_on {r} e =
        let q = cond_some (leb t d && ltb (d - t) 8) _ r (sym e) in
        record { few = omega (arith, q.1, ltb-true (d - t) 8 (both (leb t d) (ltb (d - t) 8) q.0).1); same = rw (add-one j, ← q.1) (sym (rw q.0) ∙ here) }

  pub counting_done : length cs ≤ j → Some d ≡ waiting_after ls cs 0
  unfolding waiting_after
  counting_done h = sym (ap (λ (l : List ℕ). waiting_after ls l d) (drop_of_length-le cs h)) ∙ g.same

pub ruleset counting = (counting_start, counting_stops, counting_on, counting_done)
