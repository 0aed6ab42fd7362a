-- What a public call promises: document 01, "every public call carries a promise that settles result and lent memory for all inputs,
-- refusals too. Any two outcomes that satisfy it are proved equal."
use Rattle.std.specs.Prelude.{List, ◌≡◌, ℕ}
use Rattle.std.proofs.Common.{sym, ap, ◌∙◌}

-- An outcome: the answer as the paper's numbers, and what was lent as it is at exit (a list of words or bytes, several as a tuple,
-- `Unit {0}` where nothing is lent to be written).
pub record Outcome (X : Type 0) : Type 0 where
  pub numbers : List ℕ
  pub lent : X

-- "For enum answers, a definition gives this paper's number and values for each case": the numbers of each answer, and the answer
-- read back off them, so that different answers have different numbers.
pub record Paper (R : Type 0) : Type 0 where
  pub numbers : R → List ℕ
  pub answer : List ℕ → R
  pub same : (r : R) → answer (numbers r) ≡ r

-- The promise: the answer r, on paper, and the memory x at exit are those of the outcome o.
pub record Settled {R X : Type 0} (p : Paper R) (o : Outcome X) (r : R) (x : X) : Type 0 where
  pub answer : p.numbers r ≡ o.numbers
  pub memory : x ≡ o.lent

-- it is met where the outcome is that answer and that memory
pub settled : {R X : Type 0} {p : Paper R} {o : Outcome X} {r : R} {x : X} → o ≡ record { numbers = p.numbers r; lent = x } → Settled p o r x
settled {X = X} e = record { answer = sym (ap (λ (o : Outcome X). o.numbers) e); memory = sym (ap (λ (o : Outcome X). o.lent) e) }

-- any two answers and memories that meet one promise are equal
pub settles : {R X : Type 0} {p : Paper R} {o : Outcome X} {r r' : R} {x x' : X} → Settled p o r x → Settled p o r' x' → (r ≡ r') × (x ≡ x')
settles {p = p} {r = r} {r' = r'} a b = (
  sym (p.same r) ∙ ap p.answer (a.answer ∙ sym b.answer) ∙ p.same r',
  a.memory ∙ sym b.memory,
)
