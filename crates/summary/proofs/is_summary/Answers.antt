use mathlib.Core.Bool.{Bool, true, false, ◌&&◌}
use mathlib.Core.Path.{◌≡◌, sym, ap, ◌∙◌}
use Prim.Native.Nat.{ℕ, suc, ◌+◌, ◌*◌, ◌<◌}
use native.Mathlib.Numerals.{add-one}
use native.Mathlib.Omega.{arith}
use borrow.Author.Tests.{eq-eqb, ne_eqb}
use lib.Dec.{eqb}
use mathlib.Core.List.{List}
use lib.ListN.{get_or, take, drop}
use Rattle.util.specs.Word.{same}
use Rattle.store.specs.Build.{flags, summary}
use Rattle.summary.specs.Steps.{Two}
use Rattle.summary.proofs.Layers.{sound_ahead, ahead_turn, ahead_end}
use Rattle.summary.proofs.is_summary.Goals as goal

-- the turn at this word, by what the test of it says
turned : {p : List ℕ} {up : ℕ} (two : Two up p) (i w : ℕ) (b : Bool) → i < up → w ≡ flags (take 64 (drop (up + 64 * i) p))
    → sound_ahead up p i ≡ same (take up p) (summary (drop up p)) → eqb (get_or p i 0) w ≡ b
    → same (take up p) (summary (drop up p)) ≡ (b && sound_ahead up p (suc i))
turned {p} {up} two i w b h g s e = sym s ∙ ahead_turn two i w h g ∙ ap (λ (x : Bool). x && sound_ahead up p (suc i)) e

pub returns-then-part-i : goal.returns-then-part-i
returns-then-part-i c =
    sym (turned c.requires c.loop-i.i c.gather.result false c.loop-i-test.true c.gather.ensures c.loop-i.invariant
    (ne_eqb _ c.gather.result (λ e. omega (arith, c.if-part-i.true))))

pub loop-i-preserved : goal.loop-i-preserved
loop-i-preserved c =
    rw add-one
    (sym (turned c.requires c.loop-i.i c.gather.result true c.loop-i-test.true c.gather.ensures c.loop-i.invariant
    (eq-eqb _ c.gather.result (omega (arith, c.if-part-i.false)))))

pub returns : goal.returns
returns c = sym (ahead_end c.requires c.loop-i.i c.loop-i-test.false) ∙ c.loop-i.invariant
