-- Where every summary bit that is on stands over a word that is not 0, at most t words are read before each next member and none before the
-- end, however the walk is cut by budgets. Over any layer words, with t the top layer.
use mathlib.Core.List.{List, [], ◌∷◌}
use mathlib.Core.Path.{◌≡◌, refl, sym, ap, ◌∙◌, subst}
use Prim.Native.Nat.{ℕ, zero, suc, ◌+◌, ◌-◌, ◌*◌, ◌^◌, ◌≤◌, ◌<◌}
use native.Mathlib.Decide.{ℕ_discrete, dec_lt}
use native.Mathlib.Omega.{arith}
use lib.Count.{count_trailing_zeros}
use lib.ListN.{get_or}
use lib.Seq.{get_or-set_other}
use Rattle.util.specs.Word.{bit}
use Rattle.util.proofs.Bits.{bit_lt, bit_of_zero, minus_same, minus_other}
use Rattle.util.proofs.Places.{lowest}
use Rattle.walk.specs.Walk.{low_layer, first_bit, prefix_at, place_at, cleared, less, handed, more, start_at, descend, next}
use Rattle.walk.specs.declared.Cursor.{Cursor}
use Rattle.walk.specs.declared.Next.{Next}
use Rattle.walk.specs.declared.Next.TheVariants.{Member, Paused, End}
use Rattle.walk.specs.declared.Step.{Step}
use Rattle.walk.proofs.Cursors.{Low, low_found, prefix_top}
use Rattle.walk.proofs.Turns.{next-gives, next_done, next-paused, next_reads}
use Rattle.walk_laws.specs.Walks.{Bounded, Full, spaced_by, Spaced}
use Rattle.walk_laws.proofs.Members.{bit_at_place}
use Rattle.walk_laws.proofs.Taken.{Wf, taken_mask, taken_prefix, taken_mask_up, taken_mask_else, taken_prefix_else, taken_wf, handed_wf, start_wf, start_mask, start_below}

-- taking the lowest bit of a word sets none
lowest_sub : (m b : ℕ) → m < 2 ^ 64 → 0 < m → b < 64 → bit (m - 2 ^ count_trailing_zeros 64 m) b ≤ bit m b
lowest_sub m b h p l = let z = lowest m h p in go z.inside z.on (ℕ_discrete b (count_trailing_zeros 64 m))
  where
    k : ℕ
    k = count_trailing_zeros 64 m

    go : k < 64 → bit m k ≡ 1 → Dec (b ≡ k) → bit (m - 2 ^ k) b ≤ bit m b
    go i o (yes q) = omega (arith, ap (bit (m - 2 ^ k)) q ∙ minus_same m k h i o)
    go i o (no q) = omega (arith, minus_other m k h i o b l q)

module _ (lw : ℕ → ℕ → ℕ) (t : ℕ) where
  -- every set bit of a cursor's masks above layer 0 stands over a word that is not 0
  abbrev Lively : Cursor → Type 0
  Lively c = (k b : ℕ) → k < t → b < 64 → bit (get_or c.masks (suc k) 0) b ≡ 1 → 0 < lw k (prefix_at t c.prefix (suc k) + b)

  lively_hand : (c : Cursor) → Lively c → Lively (handed c)
  unfolding handed less
  lively_hand c v k b h g e = v k b h g (ap (λ (x : ℕ). bit x b) (sym (get_or-set_other c.masks 0 (suc k) (cleared c 0) 0 (omega arith))) ∙ e)

  module _ (full : Full lw t) (c : Cursor) (j : ℕ) (wf : Wf t c) (h : j < t) (pos : 0 < get_or c.masks (suc j) 0) where
    lively_take : Lively c → Lively (descend lw t j c)
    lively_take v k b l g e = go (ℕ_discrete (suc k) j) (ℕ_discrete (suc k) (suc j))
      where
        q : ℕ
        q = place_at t c (suc j)

        d : Cursor
        d = descend lw t j c

        go : Dec (suc k ≡ j) → Dec (suc k ≡ suc j) → 0 < lw k (prefix_at t d.prefix (suc k) + b)
        go (yes s) n =
            subst (λ (x : ℕ). 0 < lw k (x + b)) (sym (ap (prefix_at t d.prefix) s ∙ taken_prefix t c j q (lw j q) wf h))
            (full k (q * 64 + b) l (bit_at_place lw (suc k) q b g ∙ ap (λ (x : ℕ). bit (lw x q) b) s ∙ ap (λ (x : ℕ). bit x b) (sym (taken_mask t c j q (lw j q) wf h))
            ∙ ap (λ (x : ℕ). bit (get_or d.masks x 0) b) (sym s) ∙ e))
        go (no s) (yes n) =
            let m = get_or c.masks (suc j) 0 in
            let i : bit (cleared c (suc j)) b ≡ 1 =
            ap (λ (x : ℕ). bit x b) (sym (ap (λ (x : ℕ). get_or d.masks x 0) n ∙ taken_mask_up t c j q (lw j q) wf h)) ∙ e in
            let o : bit m b ≡ 1 = omega (arith, lowest_sub m b (wf.words (suc j)) pos g, bit_lt m b, i) in
            subst (λ (x : ℕ). 0 < lw k (x + b)) (sym (taken_prefix_else t c j q (lw j q) wf h (suc k) s))
            (v k b l g (ap (λ (x : ℕ). bit (get_or c.masks x 0) b) n ∙ o))
        go (no s) (no n) =
            subst (λ (x : ℕ). 0 < lw k (x + b)) (sym (taken_prefix_else t c j q (lw j q) wf h (suc k) s))
            (v k b l g (ap (λ (x : ℕ). bit x b) (sym (taken_mask_else t c j q (lw j q) wf h (suc k) s n)) ∙ e))

    -- the word that is read is not 0, so the layer below is now the lowest
    low_take : Lively c → Low c.masks 0 (suc t) (suc j) → Low (descend lw t j c).masks 0 (suc t) j
    unfolding place_at
    low_take v l =
        let q = place_at t c (suc j) in
        let low = lowest (get_or c.masks (suc j) 0) (wf.words (suc j)) pos in
        let w : 0 < lw j q = v j (first_bit c (suc j)) h low.inside low.on in
        record {
          first = omega arith;
          last = omega arith;
          empty = λ i f g. taken_mask_else t c j q (lw j q) wf h i (omega arith) (omega arith) ∙ l.empty i f (omega arith);
          found = λ g. subst (λ (x : ℕ). 0 < x) (sym (taken_mask t c j q (lw j q) wf h)) w;
        }

  -- what a call of next does at a cursor whose lowest layer is l: the member after l reads, or the pause at the budget, or the end at once
  data Near (b l : ℕ) (a : Step) : Type 0 where
    member : (v : ℕ) → l ≤ b → l ≤ t → a.answer ≡ Member v → a.reads ≡ l → Near b l a
    paused : b < l → l ≤ t → a.answer ≡ Paused → a.reads ≡ b → Low a.cursor.masks 0 (suc t) (l - b) → Near b l a
    ended : l ≡ suc t → a.answer ≡ End → a.reads ≡ 0 → Near b l a

  record Found (b l : ℕ) (a : Step) : Type 0 where
    near : Near b l a
    wf : Wf t a.cursor
    lively : Lively a.cursor

  near_more : (b j : ℕ) (a : Step) → j < t → Near b j a → Near (suc b) (suc j) (more 1 a)
  near_more b j a h (member v g k o r) = member v (omega arith) (omega arith) o (omega (arith, r))
  near_more b j a h (paused g k o r w) = let e : j - b ≡ suc j - suc b = omega arith in paused (omega arith) (omega arith) o (omega (arith, r)) (subst (Low a.cursor.masks 0 (suc t)) e w)
  near_more b j a h (ended e o r) = absurd (omega arith)

  near_gives : (b : ℕ) (c : Cursor) → Wf t c → Lively c → Low c.masks 0 (suc t) 0 → Found b 0 (next lw t b c)
  near_gives b c wf v low =
      subst (Found b 0) (sym (next-gives lw t c low b))
      (record { near = member (place_at t c 0) (omega arith) (omega arith) refl refl; wf = handed_wf t c wf; lively = lively_hand c v })

  near_done : (b j : ℕ) (c : Cursor) → Wf t c → Lively c → Low c.masks 0 (suc t) (suc j) → t ≤ j → Found b (suc j) (next lw t b c)
  near_done b j c wf v low n =
      let s : suc j ≡ suc t = omega (arith, low.last) in
      subst (Found b (suc j)) (sym (next_done lw t c (subst (Low c.masks 0 (suc t)) s low) b))
      (record { near = ended s refl refl; wf = wf; lively = v })

  near_paused : (j : ℕ) (c : Cursor) → Wf t c → Lively c → Low c.masks 0 (suc t) (suc j) → Dec (j < t) → Found 0 (suc j) (next lw t 0 c)
  near_paused j c wf v low (no n) = near_done 0 j c wf v low (omega arith)
  near_paused j c wf v low (yes h) =
      let z : suc j ≡ suc j - 0 = omega arith in
      subst (Found 0 (suc j)) (sym (next-paused lw t c j h low))
      (record { near = paused (omega arith) (omega arith) refl refl (subst (Low c.masks 0 (suc t)) z low); wf = wf; lively = v })

module _ (lw : ℕ → ℕ → ℕ) (bounded : Bounded lw) (t : ℕ) (full : Full lw t) where
  near_reads : (b j : ℕ) (c : Cursor) → Wf t c → Lively lw t c → Low c.masks 0 (suc t) (suc j)
      → ((d : Cursor) → Wf t d → Lively lw t d → Low d.masks 0 (suc t) j → Found lw t b j (next lw t b d)) → Dec (j < t) → Found lw t (suc b) (suc j) (next lw t (suc b) c)
  near_reads b j c wf v low ih (no n) = near_done lw t (suc b) j c wf v low (omega arith)
  near_reads b j c wf v low ih (yes h) =
      let pos : 0 < get_or c.masks (suc j) 0 = low.found (omega arith) in
      let q = place_at t c (suc j) in
      let i : Found lw t b j (next lw t b (descend lw t j c)) = ih (descend lw t j c)
      (taken_wf t c j q (lw j q) wf h (bounded j q)) (lively_take lw t full c j wf h pos v) (low_take lw t full c j wf h pos v low) in
      subst (Found lw t (suc b) (suc j)) (sym (next_reads lw t c j h low b))
      (record { near = near_more lw t b j (next lw t b (descend lw t j c)) h i.near; wf = i.wf; lively = i.lively })

  next_near : (b l : ℕ) (c : Cursor) → Wf t c → Lively lw t c → Low c.masks 0 (suc t) l → Found lw t b l (next lw t b c)
  next_near zero zero c wf v low = near_gives lw t 0 c wf v low
  next_near zero (suc j) c wf v low = near_paused lw t j c wf v low (dec_lt j t)
  next_near (suc b) zero c wf v low = near_gives lw t (suc b) c wf v low
  next_near (suc b) (suc j) c wf v low = near_reads b j c wf v low (next_near b j) (dec_lt j t)

  spaced_from : (bs : List ℕ) (c : Cursor) (r l : ℕ) → Wf t c → Lively lw t c → Low c.masks 0 (suc t) l → (l ≤ t → r + l ≤ t) → (l ≡ suc t → r ≡ 0)
      → Spaced t (next lw t) bs c r
  unfolding Spaced
  spaced_from [] c r l wf v low below last = tt
  spaced_from (b ∷ bs) c r l wf v low below last =
      let f = next_near b l c wf v low in
      let a = next lw t b c in
      go f.near f.wf f.lively (spaced_from bs a.cursor)
    where
      a : Step
      a = next lw t b c

      go : Near lw t b l a → Wf t a.cursor → Lively lw t a.cursor
          → ((r l : ℕ) → Wf t a.cursor → Lively lw t a.cursor → Low a.cursor.masks 0 (suc t) l → (l ≤ t → r + l ≤ t) → (l ≡ suc t → r ≡ 0)
          → Spaced t (next lw t) bs a.cursor r)
          → spaced_by t a.answer (r + a.reads) (Spaced t (next lw t) bs a.cursor)
      go (member v h g o n) wf' v' ih =
          subst (λ (x : Next). spaced_by t x (r + a.reads) (Spaced t (next lw t) bs a.cursor)) (sym o)
          (omega (arith, below g, n), ih 0 (low_layer t a.cursor) wf' v' (low_found a.cursor.masks 0 (suc t)) (λ x. omega arith) (λ x. refl))
      go (paused h g o n w) wf' v' ih =
          subst (λ (x : Next). spaced_by t x (r + a.reads) (Spaced t (next lw t) bs a.cursor)) (sym o)
          (omega (arith, below g, n), ih (r + a.reads) (l - b) wf' v' w (λ x. omega (arith, below g, n)) (λ x. absurd (omega arith)))
      go (ended s o n) wf' v' ih =
          subst (λ (x : Next). spaced_by t x (r + a.reads) (Spaced t (next lw t) bs a.cursor)) (sym o) (omega (arith, last s, n))

  lively_start : Lively lw t (start_at t (lw t 0))
  lively_start k b h g e = go (ℕ_discrete (suc k) t)
    where
      c : Cursor
      c = start_at t (lw t 0)

      go : Dec (suc k ≡ t) → 0 < lw k (prefix_at t c.prefix (suc k) + b)
      go (yes s) =
          subst (λ (x : ℕ). 0 < lw k (x + b)) (sym (prefix_top t c.prefix (suc k) (omega arith)))
          (full k (0 * 64 + b) h (bit_at_place lw (suc k) 0 b g ∙ ap (λ (x : ℕ). bit (lw x 0) b) s ∙ ap (λ (x : ℕ). bit x b) (sym (start_mask t (lw t 0)))
          ∙ ap (λ (x : ℕ). bit (get_or c.masks x 0) b) (sym s) ∙ e))
      go (no s) = absurd (omega (arith, sym e ∙ ap (λ (x : ℕ). bit x b) (start_below t (lw t 0) (suc k) (omega arith)) ∙ bit_of_zero b))

  -- THE GAPS, from the start, whatever the budgets.
  pub spaced : (bs : List ℕ) → Spaced t (next lw t) bs (start_at t (lw t 0)) 0
  spaced bs =
      let c = start_at t (lw t 0) in
      spaced_from bs c 0 (low_layer t c) (start_wf t (lw t 0) (bounded t 0)) lively_start (low_found c.masks 0 (suc t)) (λ h. omega arith) (λ h. refl)
