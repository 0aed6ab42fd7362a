-- What a cursor has still to hand out and to read, and that each call of next moves exactly that. Over any layer words, for any number of
-- layers.
use mathlib.Core.Bool.{Bool, true, false, cond}
use mathlib.Core.List.{List, [], ◌∷◌, ◌++◌, append_assoc}
use mathlib.Core.Path.{◌≡◌, refl, sym, ap, ap₂, ◌∙◌}
use Prim.Native.Nat.{ℕ, zero, suc, ◌+◌, ◌-◌, ◌^◌, ◌≤◌, ◌<◌}
use native.Mathlib.Decide.{le_ind}
use native.Mathlib.Nat.{add_assoc}
use native.Mathlib.Omega.{arith}
use borrow.Author.Tests.{ltb-true, ltb-false}
use lib.Count.{count_trailing_zeros}
use lib.Dec.{ltb}
use lib.ListN.{get_or}
use lib.Seq.{get_or-set_same, get_or-set_other}
use Rattle.util.specs.Word.{bits}
use Rattle.util.proofs.Places.{bits_zero, bits_lowest, lowest}
use Rattle.walk.specs.Walk.{low_layer, kind_of, kind, prefix_at, place_at, cleared, less, handed, paused, more, by_kind, start_at, descend, next}
use Rattle.walk.specs.Walk.Kind.{reads, done}
use Rattle.walk.specs.declared.Cursor.{Cursor}
use Rattle.walk.specs.declared.Next.{Next}
use Rattle.walk.specs.declared.Next.TheVariants.{Member, Paused, End, Refused}
use Rattle.walk.specs.declared.Step.{Step}
use Rattle.walk.proofs.Cursors.{Low, low_found, prefix_top}
unfoldable pub use Rattle.walk_laws.specs.Rest.{scan, scan_reads, rest, cost}
use Rattle.walk_laws.specs.Under.{gathered, summed, under, reads_under, all_ids, all_reads}
use Rattle.walk_laws.proofs.Taken.{Wf, taken_mask, taken_prefix, taken_mask_up, taken_mask_else, taken_prefix_else, taken_wf, handed_wf, start_mask, start_below}

-- ---- one mask

module _ (lw : ℕ → ℕ → ℕ) where
  scan_zero : (k p : ℕ) → scan lw k 0 p ≡ []
  unfolding scan gathered
  scan_zero k p = ap (gathered (λ b. under lw k (p + b))) bits_zero

  scan_reads_zero : (k p : ℕ) → scan_reads lw k 0 p ≡ 0
  unfolding scan_reads summed
  scan_reads_zero k p = ap (summed (λ b. reads_under lw k (p + b))) bits_zero

  module _ (k m p : ℕ) (h : m < 2 ^ 64) (pos : 0 < m) where
    split : bits m ≡ count_trailing_zeros 64 m ∷ bits (m - 2 ^ count_trailing_zeros 64 m)
    split = bits_lowest m (count_trailing_zeros 64 m) h (lowest m h pos)

    scan_lowest : scan lw k m p ≡ under lw k (p + count_trailing_zeros 64 m) ++ scan lw k (m - 2 ^ count_trailing_zeros 64 m) p
    unfolding scan gathered
    scan_lowest = ap (gathered (λ b. under lw k (p + b))) split

    scan_reads_lowest : scan_reads lw k m p ≡ reads_under lw k (p + count_trailing_zeros 64 m) + scan_reads lw k (m - 2 ^ count_trailing_zeros 64 m) p
    unfolding scan_reads summed
    scan_reads_lowest = ap (summed (λ b. reads_under lw k (p + b))) split

-- ---- all masks

module _ (lw : ℕ → ℕ → ℕ) (t : ℕ) where
  pub rest_empty : (c : Cursor) (n : ℕ) → ((k : ℕ) → k < n → get_or c.masks k 0 ≡ 0) → rest lw t c n ≡ []
  unfolding rest
  rest_empty c zero z = refl
  rest_empty c (suc n) z =
      ap₂ (λ (x : List ℕ) (m : ℕ). x ++ scan lw n m (prefix_at t c.prefix n)) (rest_empty c n (λ k h. z k (omega arith))) (z n (omega arith))
      ∙ scan_zero lw n (prefix_at t c.prefix n)

  cost_empty : (c : Cursor) (n : ℕ) → ((k : ℕ) → k < n → get_or c.masks k 0 ≡ 0) → cost lw t c n ≡ 0
  unfolding cost
  cost_empty c zero z = refl
  cost_empty c (suc n) z =
      ap₂ (λ (x m : ℕ). x + scan_reads lw n m (prefix_at t c.prefix n)) (cost_empty c n (λ k h. z k (omega arith))) (z n (omega arith))
      ∙ ap (λ (x : ℕ). 0 + x) (scan_reads_zero lw n (prefix_at t c.prefix n))

  -- what a step moves, of the layers below layer n: x is handed out, r reads are made, and the rest is left
  pub record MovesOn (c d : Cursor) (x : List ℕ) (r n : ℕ) : Type 0 where
    pub ids : rest lw t c n ≡ x ++ rest lw t d n
    pub count : cost lw t c n ≡ r + cost lw t d n

  -- layers from l on that a step leaves alone
  moves_above : (c d : Cursor) (x : List ℕ) (r l : ℕ)
      → ((k : ℕ) → l ≤ k → (get_or d.masks k 0 ≡ get_or c.masks k 0) × (prefix_at t d.prefix k ≡ prefix_at t c.prefix k))
      → MovesOn c d x r l → (n : ℕ) → l ≤ n → MovesOn c d x r n
  unfolding rest cost
  moves_above c d x r l same h = le_ind (λ n. MovesOn c d x r n) h λ k le m. record {
    ids = ap₂ (λ (y : List ℕ) (s : List ℕ). y ++ s) m.ids (ap₂ (scan lw k) (sym (same k le).0) (sym (same k le).1))
        ∙ append_assoc x (rest lw t d k) (scan lw k (get_or d.masks k 0) (prefix_at t d.prefix k));
    count = ap₂ (λ (y s : ℕ). y + s) m.count (ap₂ (scan_reads lw k) (sym (same k le).0) (sym (same k le).1))
        ∙ add_assoc r (cost lw t d k) (scan_reads lw k (get_or d.masks k 0) (prefix_at t d.prefix k));
  }

-- ---- one step

module _ (lw : ℕ → ℕ → ℕ) (t : ℕ) where
  -- layer 0's lowest bit is handed out
  hand_moves : (c : Cursor) → Wf t c → 0 < get_or c.masks 0 0 → MovesOn lw t c (handed c) (place_at t c 0 ∷ []) 0 (suc t)
  unfolding handed less place_at rest cost under reads_under
  hand_moves c wf pos =
      let m = get_or c.masks 0 0 in
      let p = prefix_at t c.prefix 0 in
      let at : get_or (handed c).masks 0 0 ≡ cleared c 0 = get_or-set_same c.masks 0 (cleared c 0) 0 (omega (arith, wf.masked)) in
      moves_above lw t c (handed c) (place_at t c 0 ∷ []) 0 1
      (λ k le. (get_or-set_other c.masks 0 k (cleared c 0) 0 (omega arith), refl))
      (record {
        ids = scan_lowest lw 0 m p (wf.words 0) pos ∙ ap (λ (x : ℕ). place_at t c 0 ∷ scan lw 0 x p) (sym at);
        count = ap (λ (x : ℕ). 0 + x) (scan_reads_lowest lw 0 m p (wf.words 0) pos ∙ ap (λ (x : ℕ). 0 + scan_reads lw 0 x p) (sym at));
      })
      (suc t) (omega arith)

  -- one word is read: nothing is handed out
  read-moves : (c : Cursor) (j : ℕ) → Wf t c → j < t → ((i : ℕ) → i < suc j → get_or c.masks i 0 ≡ 0) → 0 < get_or c.masks (suc j) 0
      → MovesOn lw t c (descend lw t j c) [] 1 (suc t)
  unfolding rest cost under reads_under scan scan_reads place_at
  read-moves c j wf h z pos =
      let q = place_at t c (suc j) in
      let w = lw j q in
      let d = descend lw t j c in
      let m = get_or c.masks (suc j) 0 in
      let p = prefix_at t c.prefix (suc j) in
      let below : (i : ℕ) → i < j → get_or d.masks i 0 ≡ 0 = λ i l. taken_mask_else t c j q w wf h i (omega arith) (omega arith) ∙ z i (omega arith) in
      moves_above lw t c d [] 1 (suc (suc j))
      (λ k le. (taken_mask_else t c j q w wf h k (omega arith) (omega arith), taken_prefix_else t c j q w wf h k (omega arith)))
      (record {
        ids = ap (λ (x : List ℕ). x ++ scan lw (suc j) m p) (rest_empty lw t c (suc j) z)
            ∙ scan_lowest lw (suc j) m p (wf.words (suc j)) pos
            ∙ sym (ap₂ (λ (x y : List ℕ). x ++ y)
            (ap₂ (λ (x y : List ℕ). x ++ y) (rest_empty lw t d j below) (ap₂ (scan lw j) (taken_mask t c j q w wf h) (taken_prefix t c j q w wf h)))
            (ap₂ (scan lw (suc j)) (taken_mask_up t c j q w wf h) (taken_prefix_else t c j q w wf h (suc j) (omega arith))));
        count = ap (λ (x : ℕ). x + scan_reads lw (suc j) m p) (cost_empty lw t c (suc j) z)
            ∙ ap (λ (x : ℕ). 0 + x) (scan_reads_lowest lw (suc j) m p (wf.words (suc j)) pos)
            ∙ omega arith
            ∙ ap (λ (x : ℕ). 1 + x) (sym (ap₂ (λ (x y : ℕ). x + y)
            (ap₂ (λ (x y : ℕ). x + y) (cost_empty lw t d j below) (ap₂ (scan_reads lw j) (taken_mask t c j q w wf h) (taken_prefix t c j q w wf h)))
            (ap₂ (scan_reads lw (suc j)) (taken_mask_up t c j q w wf h) (taken_prefix_else t c j q w wf h (suc j) (omega arith)))));
      })
      (suc t) (omega arith)

-- ---- one call

-- what an answer hands out
abbrev pub gone : Next → List ℕ
gone (Member v) = v ∷ []
gone Paused = []
gone End = []
gone (Refused n) = []

module _ (lw : ℕ → ℕ → ℕ) (t : ℕ) where
  -- THE INVARIANT. What the cursor had to hand out and to read is what this call did and what its cursor has; at the end nothing is left.
  pub record MovedOn (c : Cursor) (a : Step) : Type 0 where
    pub moves : MovesOn lw t c a.cursor (gone a.answer) a.reads (suc t)
    pub wf : Wf t a.cursor
    pub ended : a.answer ≡ End → (rest lw t a.cursor (suc t) ≡ []) × (cost lw t a.cursor (suc t) ≡ 0)

  moved_still : (c : Cursor) → MovesOn lw t c c [] 0 (suc t)
  moved_still c = record { ids = refl; count = omega arith }

  moved_more : (c d : Cursor) (a : Step) → MovesOn lw t c d [] 1 (suc t) → MovedOn d a → MovedOn c (more 1 a)
  moved_more c d a m r = record {
    moves = record { ids = m.ids ∙ r.moves.ids; count = omega (arith, m.count, r.moves.count) };
    wf = r.wf;
    ended = r.ended;
  }

  moved_by_lem : (c : Cursor) → Wf t c → (f : ℕ → Step)
      → ((j : ℕ) → j < t → MovesOn lw t c (descend lw t j c) [] 1 (suc t) → MovedOn c (f j)) → MovedOn c (by_kind t c f (kind t c))
  moved_by_lem c wf f g = go (low_layer t c) (low_found c.masks 0 (suc t))
    where
      up : (j : ℕ) → Low c.masks 0 (suc t) (suc j) → (b : Bool) → ltb j t ≡ b → MovedOn c (by_kind t c f (cond b (reads j) done))
      up j l true e =
          let h : j < t = ltb-true j t e in
          g j h (read-moves lw t c j wf h (λ i q. l.empty i (omega arith) q) (l.found (omega arith)))
      up j l false e =
          let h : t ≤ j = ltb-false j t e in
          let z : (i : ℕ) → i < suc t → get_or c.masks i 0 ≡ 0 = λ i q. l.empty i (omega arith) (omega arith) in
          record { moves = moved_still c; wf = wf; ended = λ _. (rest_empty lw t c (suc t) z, cost_empty lw t c (suc t) z) }

      go : (n : ℕ) → Low c.masks 0 (suc t) n → MovedOn c (by_kind t c f (kind_of t n))
      go zero l = record { moves = hand_moves lw t c wf (l.found (omega arith)); wf = handed_wf t c wf; ended = λ e. cc }
      go (suc j) l = up j l (ltb j t) refl

module _ (lw : ℕ → ℕ → ℕ) (bounded : (k i : ℕ) → lw k i < 2 ^ 64) (t : ℕ) where
  pub moved_next : (b : ℕ) (c : Cursor) → Wf t c → MovedOn lw t c (next lw t b c)
  unfolding next
  moved_next zero c wf = moved_by_lem lw t c wf (λ j. paused c) (λ j h m. record { moves = moved_still lw t c; wf = wf; ended = λ e. cc })
  moved_next (suc b) c wf = moved_by_lem lw t c wf (λ j. more 1 (next lw t b (descend lw t j c)))
      (λ j h m. moved_more lw t c (descend lw t j c) (next lw t b (descend lw t j c)) m
      (moved_next b (descend lw t j c) (taken_wf t c j (place_at t c (suc j)) (lw j (place_at t c (suc j))) wf h (bounded j (place_at t c (suc j))))))

-- ---- from the start: all of the definition, but for the top word that the start read

module _ (lw : ℕ → ℕ → ℕ) (t : ℕ) where
  pub start_rest : rest lw t (start_at t (lw t 0)) (suc t) ≡ all_ids lw t
  unfolding rest under scan
  start_rest =
      let w = lw t 0 in
      ap₂ (λ (x y : List ℕ). x ++ y) (rest_empty lw t (start_at t w) t (start_below t w))
      (ap₂ (scan lw t) (start_mask t w) (prefix_top t (start_at t w).prefix t (omega arith)))

  pub start_cost : 1 + cost lw t (start_at t (lw t 0)) (suc t) ≡ all_reads lw t
  unfolding cost reads_under scan_reads
  start_cost =
      let w = lw t 0 in
      ap (λ (x : ℕ). 1 + x) (ap₂ (λ (x y : ℕ). x + y) (cost_empty lw t (start_at t w) t (start_below t w))
      (ap₂ (scan_reads lw t) (start_mask t w) (prefix_top t (start_at t w).prefix t (omega arith))) ∙ omega arith)
