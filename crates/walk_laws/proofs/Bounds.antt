-- HOW MANY WORDS a walk reads for each member, as its gaps say it: calls of next and fill in any mix.
use mathlib.Core.Bool.{true, true≢false}
use mathlib.Core.List.{List, [], ◌∷◌, map}
use mathlib.Core.Path.{◌≡◌, sym, subst}
use Prim.Native.Nat.{ℕ, suc, ◌+◌, ◌*◌, ◌≤◌}
use native.Mathlib.Numerals.{unary_clauses}
use native.Mathlib.Omega.{arith}
use lib.ListN.{length}
use Rattle.walk.specs.declared.Cursor.{Cursor}
use Rattle.walk.specs.declared.Next.{Next}
use Rattle.walk.specs.declared.Next.TheVariants.{Member, Paused, End, Refused}
use Rattle.walk.specs.declared.Step.{Step}
use Rattle.walk_fill.specs.Fill.{Filled, stopped, go_on}
use Rattle.walk_fill.specs.declared.Stop.TheVariants.{Full}
use Rattle.walk_laws.specs.Calls.{Ask, asked_of, Run, onward, run_by}
use Rattle.walk_laws.specs.Calls.Ask.{one}
use Rattle.walk_laws.specs.Walks.{spaced_by, Spaced, SpacedAs, FewReads}

module _ (t : ℕ) (nexts : ℕ → Cursor → Step) (fills : ℕ → ℕ → Cursor → Filled) where
  abbrev run : Cursor → List ℕ → Run
  run c bs = run_by (asked_of nexts fills) c (map one bs)

  -- of a run before which r words were read since the last member
  abbrev Within : ℕ → Run → Type 0
  Within r w = (r ≤ t → r + w.total ≤ t * suc (length w.members)) × (w.over ≡ true → r + w.total ≤ t * length w.members)

  times_suc : (n : ℕ) → t * suc n ≡ t * n + t
  times_suc n = simp unary_clauses (omega arith)

  first_within : (o : Next) (q : ℕ) (d : Cursor) (r : ℕ) (bs : List ℕ) → spaced_by t o (r + q) (Spaced t nexts bs d)
      → ((n : ℕ) → Spaced t nexts bs d n → Within n (run d bs))
      → (let f = go_on o q d (stopped Full 0) in Within r (onward f.stop f.ids f.reads (run f.cursor bs)))
  first_within (Member v) q d r bs h ih =
      let i = ih 0 h.1 in
      let n = length (run d bs).members in
      (λ l. omega (arith, i.0 (omega arith), h.0, times_suc n, times_suc (suc n)), λ e. omega (arith, i.1 e, h.0, times_suc n))
  first_within Paused q d r bs h ih = let i = ih (r + q) h.1 in (λ l. omega (arith, i.0 h.0), λ e. omega (arith, i.1 e))
  first_within End q d r bs h ih = (λ l. omega (arith, h, times_suc 0), λ e. omega (arith, h))
  first_within (Refused n) q d r bs h ih = absurd h

  within : (bs : List ℕ) (c : Cursor) (r : ℕ) → Spaced t nexts bs c r → Within r (run c bs)
  unfolding Spaced run_by
  within [] c r h = (λ l. omega (arith, times_suc 0), λ e. absurd (true≢false (sym e)))
  within (b ∷ bs) c r h =
      let a = nexts b c in
      first_within a.answer a.reads a.cursor r bs h (within bs a.cursor)

-- "at most three words are read before each next member and none before the end", by calls of next and fill in any mix
pub spaced_reads : {t : ℕ} {nexts : ℕ → Cursor → Step} {fills : ℕ → ℕ → Cursor → Filled} {l : List Ask} {c : Cursor}
    → SpacedAs t nexts fills l c → FewReads t (run_by (asked_of nexts fills) c l)
spaced_reads {t} {nexts} {fills} {l} {c} s =
    let h = within t nexts fills s.budgets c 0 s.gaps in
    subst (FewReads t) (sym s.same) (omega (arith, h.0 (omega arith)), λ e. omega (arith, h.1 e))
