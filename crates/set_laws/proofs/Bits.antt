-- What setting or clearing the bits over an id does to every bit of every layer, once for both and over the layer number.
use mathlib.Core.Bool.{Bool, cond}
use mathlib.Core.List.{List}
use mathlib.Core.Logic.{◌≢◌, ◌↔◌}
use mathlib.Core.Path.{◌≡◌, sym, ap, ◌∙◌}
use Prim.Native.Nat.{ℕ, suc, ◌/◌, ◌%◌, ◌≤◌, ◌<◌}
use native.Mathlib.Decide.{dec_lt, ℕ_discrete}
use native.Mathlib.Omega.{arith}
use lib.ListN.{length}
use Rattle.util.specs.Word.{bit}
use Rattle.util.proofs.Bits.{change-same, change_other}
use Rattle.store.specs.Layout.{top, room, store_len}
use Rattle.store.specs.Word.{word, on, anc, Sound}
use Rattle.store.proofs.Words.{anc_in}
use Rattle.set_edit.specs.Edit.{edits}
use Rattle.set_edit.proofs.Edits.{word-edits-same, word-edits_other}

module _ (b : Bool) (N : ℕ) (s : List ℕ) (i : ℕ) (long : length s ≡ store_len N) (hi : i < N) where
  -- bits: those over i are changed, and no other
  pub on-edits-same : (m k : ℕ) → m ≤ suc (top N) → k < m → on N (edits b N s i m) k (anc i k) ≡ cond b 1 0
  unfolding on
  on-edits-same m k hm hk =
      ap (λ (w : ℕ). bit w (anc i k % 64)) (word-edits-same b N s i long hi m k hm hk) ∙ change-same b (word N s k (anc i k / 64)) (anc i k % 64) (omega arith)

  pub on-edits_other : (m k p : ℕ) → m ≤ suc (top N) → k ≤ top N → (k < m → p ≢ anc i k) → on N (edits b N s i m) k p ≡ on N s k p
  unfolding on
  on-edits_other m k p hm hk ne = go (dec_lt k m) (ℕ_discrete (p / 64) (anc i k / 64))
    where
      go : Dec (k < m) → Dec (p / 64 ≡ anc i k / 64) → bit (word N (edits b N s i m) k (p / 64)) (p % 64) ≡ bit (word N s k (p / 64)) (p % 64)
      go (yes l) (yes e) =
          ap (λ (q : ℕ). bit (word N (edits b N s i m) k q) (p % 64)) e
          ∙ ap (λ (w : ℕ). bit w (p % 64)) (word-edits-same b N s i long hi m k hm l)
          ∙ change_other b (word N s k (anc i k / 64)) (anc i k % 64) (omega arith) (p % 64) (omega arith) (λ x. ne l (omega arith))
          ∙ sym (ap (λ (q : ℕ). bit (word N s k q) (p % 64)) e)
      go (yes l) (no n) = ap (λ (w : ℕ). bit w (p % 64)) (word-edits_other b N s i long hi m k (p / 64) hm hk (λ x. n))
      go (no n) d = ap (λ (w : ℕ). bit w (p % 64)) (word-edits_other b N s i long hi m k (p / 64) hm hk (λ l. absurd (n l)))

  -- SOUNDNESS is kept if it holds on the way up from i: everywhere else nothing has changed
  pub sound_edits : (m : ℕ) → m ≤ suc (top N) → Sound N s
      → ((k : ℕ) → k < top N → (on N (edits b N s i m) (suc k) (anc i (suc k)) ≡ 1) ↔ (word N (edits b N s i m) k (anc i (suc k)) ≢ 0))
      → Sound N (edits b N s i m)
  unfolding anc
  sound_edits m hm z way = record { layers = record { inside = inside; exact = λ k q h. exact k q h (ℕ_discrete q (anc i (suc k))) } }
    where
      inside : (k p : ℕ) → k ≤ top N → on N (edits b N s i m) k p ≡ 1 → p < room N k
      inside k p hk e = go (ℕ_discrete p (anc i k))
        where
          go : Dec (p ≡ anc i k) → p < room N k
          go (yes q) = rw q (anc_in N i k hi)
          go (no n) = z.layers.inside k p hk (sym (on-edits_other m k p hm hk (λ l. n)) ∙ e)

      exact : (k q : ℕ) → k < top N → Dec (q ≡ anc i (suc k)) → (on N (edits b N s i m) (suc k) q ≡ 1) ↔ (word N (edits b N s i m) k q ≢ 0)
      exact k q h (yes e) = rw e (way k h)
      exact k q h (no n) =
          rw (on-edits_other m (suc k) q hm h (λ l. n), word-edits_other b N s i long hi m k q hm (omega arith) (λ l. n)) (z.layers.exact k q h)
