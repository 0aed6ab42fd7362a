-- What one call does: a next keeps to its budget, and a fill moves exactly its ids and its reads off what the cursor had. Over any layer
-- words.
use mathlib.Core.List.{List, [], ◌∷◌, ◌++◌}
use mathlib.Core.Path.{◌≡◌, refl, sym, ap, ◌∙◌, subst}
use Prim.Native.Nat.{ℕ, zero, suc, ◌+◌, ◌-◌, ◌≤◌}
use native.Mathlib.Numerals.{one-add}
use native.Mathlib.Omega.{arith}
use lib.ListN.{length}
use Rattle.walk.specs.Calls.{Fine}
use Rattle.walk.specs.Walk.{Kind, kind, paused as before, more, by_kind, descend, next}
use Rattle.walk.specs.Walk.Kind.{gives, reads, done}
use Rattle.walk.specs.declared.Cursor.{Cursor}
use Rattle.walk.specs.declared.Next.{Next}
use Rattle.walk.specs.declared.Next.TheVariants.{Member, Paused, End, Refused}
use Rattle.walk.specs.declared.Step.{Step}
use Rattle.walk_fill.specs.Fill.{Filled, go_on, fill_from}
use Rattle.walk_fill.specs.declared.Stop.{Stop}
use Rattle.walk_fill.specs.declared.Stop.TheVariants.{Full, Paused as StopPaused, End as StopEnd, Refused as StopRefused}
use Rattle.walk_laws.specs.Calls.{Stopped, Keeps}
use Rattle.walk_laws.specs.Calls.Stopped.{full, paused, ended}
use Rattle.walk_laws.specs.Walks.{Bounded, KeptBudget}
use Rattle.walk_laws.specs.Walks.KeptBudget.{member, paused as paused_at, ended as ended_at}
use Rattle.walk_laws.proofs.Prefixes.{next_fine}
use Rattle.walk_laws.proofs.Rest.{rest, cost, MovesOn, gone, MovedOn, moved_next}
use Rattle.walk_laws.proofs.Taken.{Wf}

-- ---- one next

module _ (lw : ℕ → ℕ → ℕ) (t : ℕ) where
  kept_by : (b : ℕ) (c : Cursor) (f : ℕ → Step) → ((j : ℕ) → KeptBudget b (f j).answer (f j).reads) → (k : Kind)
      → KeptBudget b (by_kind t c f k).answer (by_kind t c f k).reads
  kept_by b c f g gives = member {r = 0} (omega arith)
  kept_by b c f g (reads j) = g j
  kept_by b c f g done = ended_at {r = 0} (omega arith)

  kept_more : (b r : ℕ) (o : Next) → KeptBudget b o r → KeptBudget (suc b) o (1 + r)
  kept_more b r o (member h) = member {r = 1 + r} (omega arith)
  kept_more b r o paused_at = subst (KeptBudget (suc b) Paused) (sym (one-add b)) paused_at
  kept_more b r o (ended_at h) = ended_at {r = 1 + r} (omega arith)

  -- A CALL never reads past its budget, a paused one has spent it exactly, and none refuses.
  pub next_kept : (b : ℕ) (c : Cursor) → KeptBudget b (next lw t b c).answer (next lw t b c).reads
  unfolding next
  next_kept zero c = kept_by 0 c (λ j. before c) (λ j. paused_at) (kind t c)
  next_kept (suc b) c = kept_by (suc b) c (λ j. more 1 (next lw t b (descend lw t j c)))
      (λ j. let a = next lw t b (descend lw t j c) in kept_more b a.reads a.answer (next_kept b (descend lw t j c))) (kind t c)

-- ---- one fill

-- a member in r reads before a fill of the other places
stopped_more : (b d m r : ℕ) → r ≤ b → d ≡ b - r → (e : Stop) (n q : ℕ) → Stopped d m e n q → Stopped b (suc m) e (suc n) (r + q)
stopped_more b d m r h is Full n q (full g) = full {r = r + q} (omega arith)
stopped_more b d m r h is StopPaused n q (paused g) = let z : b ≡ r + d = omega arith in subst (Stopped b (suc m) StopPaused (suc n)) z (paused {n = suc n} (omega arith))
stopped_more b d m r h is StopEnd n q (ended g k) = ended {n = suc n} {r = r + q} (omega arith) (omega arith)
stopped_more b d m r h is (StopRefused _) n q g = elim g [ ]

stopped_by : (b m : ℕ) (o : Next) (r : ℕ) → KeptBudget b o r → (c : Cursor) (on : Cursor → Filled) → Keeps (b - r) m (on c)
    → Keeps b (suc m) (go_on o r c on)
stopped_by b m (Member v) r (member h) c on s = stopped_more b (b - r) m r h refl (on c).stop (length (on c).ids) (on c).reads s
stopped_by b m Paused r paused_at c on s = paused {n = 0} (omega arith)
stopped_by b m End r (ended_at h) c on s = ended {n = 0} (omega arith) h
stopped_by b m (Refused _) r k c on s = elim k [ ]

module _ (lw : ℕ → ℕ → ℕ) (t : ℕ) where
  -- What the cursor had to hand out and to read is what this fill did and what its cursor has; at the end nothing is left.
  pub record FillMoved (b m : ℕ) (c : Cursor) (f : Filled) : Type 0 where
    pub moves : MovesOn lw t c f.cursor f.ids f.reads (suc t)
    pub wf : Wf t f.cursor
    pub fine : Fine t c.prefix → Fine t f.cursor.prefix
    pub kept : Keeps b m f
    pub over : f.stop ≡ StopEnd → (rest lw t f.cursor (suc t) ≡ []) × (cost lw t f.cursor (suc t) ≡ 0)

module _ (lw : ℕ → ℕ → ℕ) (bounded : Bounded lw) (t : ℕ) where
  by_answer : (a : Step) (c : Cursor) → MovedOn lw t c a → (b m : ℕ) (f : Cursor → Filled) → Keeps b (suc m) (go_on a.answer a.reads a.cursor f)
      → (Fine t c.prefix → Fine t a.cursor.prefix) → FillMoved lw t (b - a.reads) m a.cursor (f a.cursor)
      → FillMoved lw t b (suc m) c (go_on a.answer a.reads a.cursor f)
  by_answer a c mv b m f kept fine later = go a.answer refl kept
    where
      d : Cursor
      d = a.cursor

      ids : (o : Next) → a.answer ≡ o → rest lw t c (suc t) ≡ gone o ++ rest lw t d (suc t)
      ids o q = mv.moves.ids ∙ ap (λ (x : Next). gone x ++ rest lw t d (suc t)) q

      go : (o : Next) → a.answer ≡ o → Keeps b (suc m) (go_on o a.reads d f)
          → FillMoved lw t b (suc m) c (go_on o a.reads d f)
      go (Member v) q k = record {
        moves = record {
          ids = ids (Member v) q ∙ ap (λ (x : List ℕ). v ∷ x) later.moves.ids;
          count = omega (arith, mv.moves.count, later.moves.count);
        };
        wf = later.wf;
        fine = λ h. later.fine (fine h);
        kept = k;
        over = later.over;
      }
      go Paused q k = record { moves = record { ids = ids Paused q; count = mv.moves.count }; wf = mv.wf; fine = fine; kept = k; over = λ e. cc }
      go End q k = record { moves = record { ids = ids End q; count = mv.moves.count }; wf = mv.wf; fine = fine; kept = k; over = λ e. mv.ended q }
      go (Refused n) q k = record { moves = record { ids = ids (Refused n) q; count = mv.moves.count }; wf = mv.wf; fine = fine; kept = k; over = λ e. cc }

  -- ONE FILL moves what is left to hand out and to read by its ids and its reads, never reads past its budget, and none refuses.
  pub fill_moved : (m b : ℕ) (c : Cursor) → Wf t c → FillMoved lw t b m c (fill_from lw t m b c)
  unfolding fill_from
  fill_moved zero b c wf = record {
    moves = record { ids = refl; count = omega arith };
    wf = wf;
    fine = λ h. h;
    kept = full {r = 0} (omega arith);
    over = λ e. cc;
  }
  fill_moved (suc m) b c wf =
      let a = next lw t b c in
      let mv = moved_next lw bounded t b c wf in
      let later = fill_moved m (b - a.reads) a.cursor mv.wf in
      by_answer a c mv b m (fill_from lw t m (b - a.reads))
      (stopped_by b m a.answer a.reads (next_kept lw t b c) a.cursor (fill_from lw t m (b - a.reads)) later.kept)
      (next_fine lw bounded t b c wf) later
