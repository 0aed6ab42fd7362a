-- What the judge's steps answer, and what the loop over the codes keeps.
use Rattle.std.specs.Prelude.{cond, ◌&&◌, List, [], ◌∷◌, ◌≡◌, ℕ, suc, ◌-◌, ◌≤◌, leb, ltb, drop, Option, None, Some, Result, Ok, Err}
use Rattle.store.specs.Answer.{number}
use Rattle.store.specs.declared.Refusal.{Refusal}
use Rattle.formula_codes.specs.Codes.{takes_in}

-- of two answers the refusal of the lesser number, if there is one
abbrev pub first_refusal : Result (Unit {0}) Refusal → Result (Unit {0}) Refusal → Result (Unit {0}) Refusal
first_refusal (Ok u) b = b
first_refusal (Err x) (Ok u) = Err x
first_refusal (Err x) (Err y) = cond (ltb (number x) (number y)) (Err x) (Err y)

-- how many wait once a code has taken t of d values and put one; none where there are too few, or where eight stay
abbrev pub waiting : ℕ → ℕ → Option ℕ
waiting t d = cond (leb t d && ltb (d - t) 8) (Some (suc (d - t))) None

-- how many wait after the codes, where d wait before them
unfoldable pub waiting_after : List ℕ → List ℕ → ℕ → Option ℕ
waiting_after ls [] d = Some d
waiting_after ls (c ∷ cs) d =
    let t = takes_in ls c in
    let r = waiting_after ls cs (suc (d - t)) in
    cond (leb t d && ltb (d - t) 8) r None

-- after j codes d values wait, and what waits after the others is what waits after all
pub record Counting (ls cs : List ℕ) (d j : ℕ) : Type 0 where
  pub few : d ≤ 8
  pub same : waiting_after ls (drop j cs) d ≡ waiting_after ls cs 0
