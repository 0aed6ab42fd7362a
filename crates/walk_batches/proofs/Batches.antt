-- The walk of a store in batches of 64 ids, for a loop over them: what is ahead of it gets less with each batch that is not the last.
use mathlib.Core.Bool.{true, false, true≢false}
use mathlib.Core.List.{List, [], ◌++◌}
use mathlib.Core.Path.{◌≡◌, refl, sym, ap, ◌∙◌, subst}
use Prim.Native.Nat.{ℕ, suc, ◌+◌, ◌≤◌, ◌<◌}
use native.Mathlib.Omega.{arith}
use lib.ListN.{length, take, drop, length-append, length-drop}
use lib.Seq.{take-append_seam}
use Rattle.util.specs.Outcome.{Settled, settles}
use Rattle.store.specs.Layout.{top, cap, is_store, top_most}
use Rattle.store.specs.Word.{word, Words64}
use Rattle.store.proofs.Geometry.{store_is}
use Rattle.store.proofs.Words.{word_lt}
use Rattle.walk.specs.Calls.{Fine}
use Rattle.walk.specs.Walk.{start_at}
use Rattle.walk.specs.declared.Cursor.{Cursor}
use Rattle.walk.specs.declared.Step.{Step}
use Rattle.walk.proofs.Answers.{started_is}
use Rattle.walk_fill.specs.Fill.{Filled, batch_paper, batch, fill_from, fill_in, fill_of}
use Rattle.walk_fill.specs.declared.Batch.{Batch}
use Rattle.walk_fill.specs.declared.Stop.{Stop}
use Rattle.walk_fill.specs.declared.Stop.TheVariants.{Full, Paused, End, Refused}
use Rattle.walk_laws.specs.Calls.{Stopped}
use Rattle.walk_laws.specs.Calls.Stopped.{full, paused, ended}
use Rattle.walk_laws.proofs.Fills.{fill_moved}
use Rattle.walk_laws.proofs.Rest.{rest, cost, MovesOn, start_rest}
use Rattle.walk_laws.proofs.Store.{fill_as_defined}
use Rattle.walk_laws.proofs.Taken.{Wf, start_wf, start_fine}
use Rattle.walk_batches.specs.Calls.{started_of}
use Rattle.walk_batches.specs.Steps.{walked, goes_on}

-- what a cursor in a walk of t has still to hand out, and the words to read and the ids to hand out in number
abbrev pub ahead : List ℕ → Cursor → List ℕ
ahead t c = rest (word (cap t) t) (top (cap t)) c (suc (top (cap t)))

abbrev pub to_go : List ℕ → Cursor → ℕ
to_go t c = cost (word (cap t) t) (top (cap t)) c (suc (top (cap t))) + length (ahead t c)

-- the walk of t stands at c, with ids from earlier batches in the array
pub record At (t ids : List ℕ) (c : Cursor) : Type 0 where
  pub wf : Wf (top (cap t)) c
  pub fine : Fine (top (cap t)) c.prefix
  pub long : length ids ≡ 64

-- what a fill answered, and left in the array
pub record Turn (t : List ℕ) (b : ℕ) (c : Cursor) (r : Batch) (out : List ℕ) : Type 0 where
  pub ids : List ℕ
  pub here : take r.count out ≡ ids
  pub counted : r.count ≡ length ids
  pub inside : r.count ≤ 64
  pub at : At t out r.cursor
  pub moves : MovesOn (word (cap t) t) (top (cap t)) c r.cursor ids r.reads (suc (top (cap t)))
  pub kept : Stopped b 64 r.stop (length ids) r.reads
  pub over : r.stop ≡ End → ahead t r.cursor ≡ []

-- no more ids than places
pub inside_of : {b m n r : ℕ} {e : Stop} → Stopped b m e n r → n ≤ m
inside_of (full h) = omega arith
inside_of (paused h) = h
inside_of (ended h g) = h

module _ (t : List ℕ) (is : is_store t ≡ true) (small : Words64 t) where
  abbrev lw : ℕ → ℕ → ℕ
  lw = word (cap t) t

  abbrev k : ℕ
  k = top (cap t)

  -- at the start all ids of the walk are ahead
  pub at_start : {ids : List ℕ} (c : Cursor) → length ids ≡ 64 → c ≡ started_of t → At t ids c × (ahead t c ≡ walked t)
  at_start {ids} c l e =
      let w = lw k 0 in
      let q : c ≡ start_at k w = e ∙ ap (λ (x : Step). x.cursor) (started_is (store_is is) (start_at top_most 0)) in
      subst (λ (x : Cursor). At t ids x × (ahead t x ≡ walked t)) (sym q) (
        record { wf = start_wf k w (word_lt (cap t) t small k 0); fine = start_fine k w; long = l },
        start_rest lw k,
      )

  pub turn : {b : ℕ} {ids out : List ℕ} {c : Cursor} {r : Batch} → At t ids c → Settled batch_paper (fill_of t c b ids) r out → Turn t b c r out
  turn {b} {ids} {out} {c} {r} g a =
      let f = fill_from lw k 64 b c in
      let e : fill_in t c b (length ids) ≡ f = ap (fill_in t c b) g.long ∙ fill_as_defined t is small b 64 c g.fine in
      let z = settles {r' = batch (fill_in t c b (length ids))} a (record { answer = refl; memory = refl }) in
      let m = fill_moved lw (word_lt (cap t) t small) k 64 b c g.wf in
      let n : length f.ids ≤ 64 = inside_of m.kept in
      subst (λ (x : Batch). Turn t b c x out) (sym (z.0 ∙ ap batch e))
      (subst (Turn t b c (batch f)) (sym (z.1 ∙ ap (λ (x : Filled). x.ids ++ drop (length x.ids) ids) e)) (record {
        ids = f.ids;
        here = take-append_seam f.ids (drop (length f.ids) ids);
        counted = refl;
        inside = n;
        at = record {
          wf = m.wf;
          fine = m.fine g.fine;
          long = omega (arith, length-append f.ids (drop (length f.ids) ids), length-drop (length f.ids) ids, g.long);
        };
        moves = m.moves;
        kept = m.kept;
        over = λ h. (m.over h).0;
      }))

module _ {t out : List ℕ} {b : ℕ} {c : Cursor} {r : Batch} (u : Turn t b c r out) where
  -- what was ahead is the batch, and what is ahead behind it
  pub parts : ahead t c ≡ take r.count out ++ ahead t r.cursor
  parts = u.moves.ids ∙ ap (λ (x : List ℕ). x ++ ahead t r.cursor) (sym u.here)

  -- a batch with as many ids as it counts
  pub batch-length : r.count ≡ length (take r.count out)
  batch-length = u.counted ∙ sym (ap length u.here)

  -- behind the last one nothing is
  pub nothing_ahead : goes_on r.stop ≡ false → ahead t r.cursor ≡ []
  nothing_ahead e = go r.stop refl u.kept e
    where
      go : (o : Stop) {n m : ℕ} → r.stop ≡ o → Stopped b 64 o n m → goes_on o ≡ false → ahead t r.cursor ≡ []
      go End q (ended x y) e = u.over q
      go Full q (full x) e = absurd (true≢false e)
      go Paused q (paused x) e = absurd (true≢false e)
      go (Refused _) q x e = elim x [ ]

  -- a batch that is not the last hands out 64 ids, or spends its budget
  pub less_to_go : 1 ≤ b → goes_on r.stop ≡ true → to_go t r.cursor < to_go t c
  less_to_go p e =
      let l : length (ahead t c) ≡ length u.ids + length (ahead t r.cursor) = ap length u.moves.ids ∙ length-append u.ids (ahead t r.cursor) in
      let m : 1 ≤ r.reads + length u.ids = go r.stop u.kept e in
      omega (arith, l, m, u.moves.count)
    where
      go : (o : Stop) {n q : ℕ} → Stopped b 64 o n q → goes_on o ≡ true → 1 ≤ q + n
      go Full (full x) e = omega arith
      go Paused (paused x) e = omega arith
      go End (ended x y) e = absurd (true≢false (sym e))
      go (Refused _) x e = elim x [ ]
