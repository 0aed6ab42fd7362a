-- What the first step of a reader tells, in two numbers and a count.
use mathlib.Core.Path.{◌≡◌, sym, ap, ◌∙◌}
use Prim.Native.Nat.{ℕ}
use borrow.Author.Tests.{eq-eqb, ne_eqb}
use Rattle.walk.specs.declared.Step.{Step}
use Rattle.walk_reader.specs.Readers.{told}
use Rattle.walk_reader.specs.declared.Told.{Told}
use Rattle.export_step.specs.Answers.{step_of, moved_of}
use Rattle.export_step.specs.declared.StepAnswer.{StepAnswer}
use Rattle.export_probe.specs.First.{reads_left}

abbrev kind : StepAnswer → ℕ
kind a = a.which

module _ (f : Step) {a : StepAnswer} where
  pub told_moved : {t : Told} → a ≡ step_of t.answer → t ≡ told f → a ≡ moved_of f
  told_moved m e = m ∙ ap (λ (x : Told). step_of x.answer) e

  -- a refused step leaves the count
  pub reads_kept : (r : ℕ) → a ≡ moved_of f → a.which ≡ 0 → r ≡ reads_left f r
  reads_kept r e h = sym (rw (eq-eqb (moved_of f).which 0 (sym (ap kind e) ∙ h)))

  -- any other tells its reads
  pub reads_told : {t : Told} (r : ℕ) → a ≡ moved_of f → t ≡ told f → (a.which ≡ 0 → ⊥) → t.reads ≡ reads_left f r
  reads_told r e s h = ap (λ (x : Told). x.reads) s ∙ sym (rw (ne_eqb (moved_of f).which 0 (λ (z : (moved_of f).which ≡ 0). h (ap kind e ∙ z))))
