-- One outcome that may be a refusal: what it is to refuse so, and what follows for the answer and the memory that meet it.
use mathlib.Core.Bool.{Bool, true, false, cond, ◌||◌, ◌&&◌, true≢false}
use mathlib.Core.List.{List, [], ◌∷◌}
use mathlib.Core.Logic.{◌≢◌}
use mathlib.Core.Path.{◌≡◌, refl, sym, ap, ◌∙◌, subst}
use Prim.Native.Nat.{ℕ, ◌≤◌}
use borrow.Author.Tests.{ne_eqb}
use native.Mathlib.Omega.{arith}
use lib.Dec.{eqb, leb}
use Rattle.std.proofs.lemmas.Bool.{eqb-true}
use borrow.Author.Tests.{leb-true}
use Rattle.util.proofs.Same.{both}
use lib.ListN.{get_or}
use Rattle.util.specs.Outcome.{Outcome, Paper, Settled}
use Rattle.store.specs.Answer.{number, numbered, refuses, refusal_number}
use Rattle.store.specs.declared.Refusal.{Refusal}
use Rattle.store.specs.declared.Refusal.TheVariants.{Capacity, NoStore, Id, Layer, Capacities, Formula, Cursor, Buffer, Header, Entry, Members, Full, Owners, Item, Owner}
use Rattle.store.proofs.Exits.{number_numbered}
use Rattle.claims.specs.Calls.{refusal_numbers, is_among, Refuses}

-- what holds of both cases holds of the one chosen
pub by_cond : {A : Type 0} (P : A → Type 0) (b : Bool) {x y : A} → P x → P y → P (cond b x y)
by_cond P true p q = p
by_cond P false p q = q

-- 0, or a number of the table
abbrev pub is_known : ℕ → Bool
is_known = is_among (0 ∷ refusal_numbers)

-- as every refusal's number is
pub number_known : (e : Refusal) → is_known (number e) ≡ true
number_known = elim [ Capacity ↦ refl | NoStore ↦ refl | Id ↦ refl | Layer ↦ refl | Capacities ↦ refl | Formula ↦ refl | Cursor ↦ refl | Buffer ↦ refl | Header ↦ refl | Entry ↦ refl | Members ↦ refl | Full ↦ refl | Owners ↦ refl | Item ↦ refl | Owner ↦ refl ]

not_zero : (n : ℕ) → n ≢ 0 → is_known n ≡ true → is_among refusal_numbers n ≡ true
not_zero n h e = go (eqb n 0) (ne_eqb n 0 h) e
  where
    go : (x : Bool) → x ≡ false → (x || is_among refusal_numbers n) ≡ true → is_among refusal_numbers n ≡ true
    go true f e = absurd (true≢false f)
    go false f e = e

-- the numbers of the table are at most 15
at_most : ℕ → List ℕ → Bool
at_most k [] = true
at_most k (m ∷ l) = leb m k && at_most k l

among_step : (k n m : ℕ) (x y : Bool) → eqb n m ≡ x → leb m k ≡ true → (y ≡ true → n ≤ k) → (x || y) ≡ true → n ≤ k
among_step k n m true y p l below z = let q : n ≡ m = eqb-true n m p in omega (arith, q, leb-true m k l)
among_step k n m false y p l below z = below z

among_at_most : (k n : ℕ) (l : List ℕ) → at_most k l ≡ true → is_among l n ≡ true → n ≤ k
unfolding at_most
among_at_most k n [] h e = absurd (true≢false (sym e))
among_at_most k n (m ∷ l) h e =
    let b = both (leb m k) (at_most k l) h in
    among_step k n m (eqb n m) (is_among l n) refl b.0 (among_at_most k n l b.1) e

-- a number of the table is that of its refusal
said : (n : ℕ) → is_known n ≡ true → n ≢ 0 → number (numbered n) ∷ [] ≡ n ∷ []
unfolding at_most
said n h z = ap (λ (m : ℕ). m ∷ []) (number_numbered n (omega (arith, z)) (among_at_most 15 n (0 ∷ refusal_numbers) refl h))

-- where its first number is not 0, the outcome is a refusal
pub record Stays {R X : Type 0} (p : Paper R) (f : ℕ → R) (x : X) (o : Outcome X) : Type 0 where
  pub known : is_known (refusal_number o) ≡ true
  pub numbers : refusal_number o ≢ 0 → o.numbers ≡ p.numbers (f (refusal_number o))
  pub lent : refusal_number o ≢ 0 → o.lent ≡ x

module _ {R X : Type 0} {p : Paper R} {f : ℕ → R} {x : X} where
  pub goes : {o : Outcome X} → refusal_number o ≡ 0 → Stays p f x o
  goes e = record { known = rw e; numbers = λ n. absurd (n e); lent = λ n. absurd (n e) }

  -- the answer of a number has the number of its refusal, which is that number
  pub no_goes : (n : ℕ) → is_known n ≡ true → p.numbers (f n) ≡ number (numbered n) ∷ [] → Stays p f x (refuses n x)
  no_goes n h e = record { known = h; numbers = λ z. sym (e ∙ said n h z); lent = λ z. refl }

  pub choose : (b : Bool) {o o' : Outcome X} → Stays p f x o → Stays p f x o' → Stays p f x (cond b o o')
  choose = by_cond (Stays p f x)

  -- the answer and the memory that meet the outcome
  pub refuses_so : {o : Outcome X} → Stays p f x o → {r : R} {y : X} → Settled p o r y → get_or (p.numbers r) 0 0 ≢ 0
      → Refuses f x (get_or (p.numbers r) 0 0) r y
  refuses_so {o} k {r} s n =
      let e : get_or (p.numbers r) 0 0 ≡ refusal_number o = ap (λ (l : List ℕ). get_or l 0 0) s.answer in
      let m : refusal_number o ≢ 0 = λ z. n (e ∙ z) in
      record {
        known = subst (λ (i : ℕ). is_among refusal_numbers i ≡ true) (sym e) (not_zero (refusal_number o) m k.known);
        answer =
            sym (p.same r) ∙ ap p.answer (s.answer ∙ k.numbers m) ∙ p.same (f (refusal_number o))
            ∙ ap f (sym e);
        memory = s.memory ∙ k.lent m;
      }
