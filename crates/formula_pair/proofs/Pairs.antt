-- The layers that are lent on are those of the stores.
use mathlib.Core.List.{List}
use mathlib.Core.Logic.{◌≢◌}
use mathlib.Core.Path.{◌≡◌, sym, ap, ap₂, ◌∙◌}
use Prim.Native.Nat.{ℕ, zero, suc, ◌<◌}
use native.Mathlib.Omega.{arith}
use borrow.Author.Tests.{ne_eqb}
use lib.ListN.{length, get_or}
use Rattle.std.specs.Borrow.{Bor}
use Rattle.util.specs.Outcome.{Settled, settled}
use Rattle.store.specs.Answer.{numbered}
use Rattle.store.specs.Layout.{top_most, top}
use Rattle.store.proofs.TopLayer.{top_is}
use Rattle.set_layers.specs.Calls.{layer_part}
use Rattle.walk.specs.Calls.{fits}
use Rattle.walk.specs.Layers.{layer_words, LayersOf}
use Rattle.walk.specs.Steps.{refusal_of}
use Rattle.walk.specs.declared.Cursor.{Cursor}
use Rattle.walk.specs.declared.over.Layers.{Layers}
use Rattle.walk_fill.specs.Fill.{Filled, stopped, fill_from, batch_paper, filled}
use Rattle.walk_fill.specs.declared.Batch.{Batch}
use Rattle.walk_fill.specs.declared.Stop.TheVariants.{Refused}
use Rattle.walk_fill.proofs.Fills.{fill_same, fill_answered}
use Rattle.formula_codes.specs.Tree.{joined}
use Rattle.formula_pair.specs.Pair.{joined_words, pair_words, fill_words, filled_words}
use Rattle.formula_pair.specs.declared.Pair.{Pair}

-- the words of three layers that are lent are the store's
pub three_parts : {s : Bor (List ℕ)} {l : Layers} → LayersOf s l → (k i : ℕ) → k < top_most → layer_words l k i ≡ get_or (layer_part s.now k) i 0
three_parts e zero i h = ap (λ (l : List ℕ). get_or l i 0) e.l0.words
three_parts e (suc zero) i h = ap (λ (l : List ℕ). get_or l i 0) e.l1.words
three_parts e (suc (suc zero)) i h = ap (λ (l : List ℕ). get_or l i 0) e.l2.words
three_parts e (suc (suc (suc k))) i h = absurd (omega arith)

-- ---- the call

module _ (c : Cursor) (N n : ℕ) (out : List ℕ) where
  abbrev no : ℕ
  no = refusal_of N (fits (top N) c)

  pub over_refused : (lw : ℕ → ℕ → ℕ) → no ≢ 0 → {r : Batch} → r ≡ record { cursor = c; reads = 0; count = 0; stop = Refused (numbered no) }
      → Settled batch_paper (filled_words lw N c n out) r out
  unfolding fill_words
  over_refused lw h {r} is =
      let w : fill_words lw N c n (length out) ≡ stopped (Refused (numbered no)) 0 c = rw (ne_eqb no 0 h) in
      settled (ap (λ (z : Filled). filled z out) w ∙ ap (λ (z : Batch). record { numbers = batch_paper.numbers z; lent = out }) (sym is))

  pub over_runs : (lw : ℕ → ℕ → ℕ) → no ≡ 0 → fill_words lw N c n (length out) ≡ fill_from lw top_most (length out) n c
  unfolding fill_words
  over_runs lw h = rw h (ap (λ (t : ℕ). fill_from lw t (length out) n c) (top_is N))

  pub pair_runs : (p : Pair) {a b : Bor (List ℕ)} {d : Cursor} → (no ≡ 0) × (d ≡ c) → LayersOf a p.a → LayersOf b p.b → {r : Batch} {x : List ℕ}
      → Settled batch_paper (filled (fill_from (joined_words p) top_most (length out) n d) out) r x
      → Settled batch_paper (filled_words (pair_words p.code a.now b.now) N c n out) r x
  pair_runs p {a} {b} h ea eb s =
      fill_answered out
      (ap (fill_from (joined_words p) top_most (length out) n) h.1
      ∙ fill_same (joined_words p) (pair_words p.code a.now b.now) top_most
      (λ k i l. ap₂ (joined p.code k) (three_parts ea k i l) (three_parts eb k i l)) (length out) n c
      ∙ sym (over_runs (pair_words p.code a.now b.now) h.0))
      s
