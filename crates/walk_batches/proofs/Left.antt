-- The ids that a walk hands out from its start on, batch by batch, by what its cursor has still to hand out.
use Rattle.std.proofs.Common.{◌≡◌, ℕ, zero, suc, ◌+◌, ◌^◌, ◌<◌, ◌≤◌, List, [], ◌∷◌, ◌++◌, length, take, drop, refl, sym, ap, ap₂, subst, ◌∙◌, arith, drop-cons, get_or-take, length-take}
use Rattle.std.specs.Prelude.{Bool, true, false, cond, slice_index}
use Rattle.std.specs.Borrow.{Bor}
use Rattle.store.specs.Layout.{top_most, top, cap, is_store}
use Rattle.store.specs.Word.{layer_at, word, Words64}
use Rattle.store.proofs.Geometry.{store_is}
use Rattle.store.proofs.TopLayer.{top_is}
use Rattle.store.proofs.Words.{word_lt}
use Rattle.set_layers.specs.Calls.{layer_part}
use Rattle.walk.specs.Calls.{Fine, refused, start_in}
use Rattle.walk.specs.Layers.{layer_words, LayersOf}
use Rattle.walk.specs.Walk.{start_at}
use Rattle.walk.specs.declared.Cursor.{Cursor}
use Rattle.walk.specs.declared.Next.TheVariants.{Paused, End}
use Rattle.walk.specs.declared.over.Layers.{Layers}
use Rattle.walk_laws.specs.Rest.{Wf, rest, cost}
use Rattle.walk_laws.specs.Walks.{Bounded}
use Rattle.walk_laws.specs.Walks.KeptBudget.{paused}
use Rattle.walk_fill.specs.Fill.{batch_paper, batch, filled, fill_from}
use Rattle.walk_fill.specs.declared.Batch.{Batch}
use Rattle.util.specs.Outcome.{Settled, settles}
use Rattle.walk_laws.proofs.Fills.{fill_moved}
use Rattle.walk.proofs.Answers.{lent_words}
use Rattle.walk_laws.specs.Under.{all_ids}
use Rattle.walk_laws.proofs.Rest.{rest_empty, start_rest}
use Rattle.walk_laws.proofs.Same.{rest_same}
use Rattle.walk_laws.proofs.Taken.{start_wf, start_fine}
use Rattle.std.proofs.lemmas.Bool.{true≢false}
use Rattle.std.proofs.lemmas.List.{drop-take}
use Rattle.std.proofs.Math.Seq.{take-append_seam}
use Rattle.walk_fill.specs.declared.Stop.{Stop}
use Rattle.walk_fill.specs.declared.Stop.TheVariants.{End}
use Rattle.walk_laws.specs.Calls.{Stopped}
use Rattle.walk_laws.specs.Calls.Stopped.{full, paused, ended}
use Rattle.walk_batches.proofs.Batches.{inside_of}
use Rattle.walk_batches.specs.Calls.{started_of}
use Rattle.std.specs.Iterator.{YieldsFirst}
use Rattle.std.proofs.lemmas.Iterator.{YieldsList}
use Rattle.std.proofs.lemmas.Iterator.Consumers.{YieldsList-from_first}
use Rattle.walk_batches.specs.Ids.{ids_left, ids_of}
use Rattle.walk_batches.specs.declared.each.Ids.{Ids}
use Rattle.walk_batches.specs.Steps.{walked, goes_on}

module _ (lw : ℕ → ℕ → ℕ) where
  abbrev pub left : Cursor → List ℕ
  left c = rest lw top_most c (suc top_most)

  abbrev pub to_read : Cursor → ℕ
  to_read c = cost lw top_most c (suc top_most)

-- ---- the start

module _ (s : List ℕ) where
  -- the top word of a store, and 0 for another slice
  abbrev first_word : ℕ
  first_word = cond (is_store s) (word (cap s) s top_most 0) 0

  begun_at : started_of s ≡ start_at top_most first_word
  unfolding start_in
  begun_at = go (is_store s)
    where
      go : (x : Bool) → (cond x (record { cursor = start_at (top (cap s)) (word (cap s) s (top (cap s)) 0); reads = 1; answer = Paused }) (refused 2 (start_at top_most 0))).cursor
          ≡ start_at top_most (cond x (word (cap s) s top_most 0) 0)
      go true = ap (λ (t : ℕ). start_at t (word (cap s) s t 0)) (top_is (cap s))
      go false = refl

  first_small : Words64 s → first_word < 2 ^ 64
  first_small small = go (is_store s)
    where
      go : (x : Bool) → cond x (word (cap s) s top_most 0) 0 < 2 ^ 64
      go true = word_lt (cap s) s small top_most 0
      go false = omega arith

  pub started_wf : {c : Cursor} → Words64 s → c ≡ started_of s → Wf top_most c
  started_wf small e = subst (Wf top_most) (sym (e ∙ begun_at)) (start_wf top_most first_word (first_small small))

  pub started_fine : {c : Cursor} → c ≡ started_of s → Fine top_most c.prefix
  started_fine e = subst (λ (x : Cursor). Fine top_most x.prefix) (sym (e ∙ begun_at)) (start_fine top_most first_word)

  part_small : Words64 s → (k : ℕ) {x : List ℕ} → x ≡ layer_part s k → (i : ℕ) → slice_index x i < 2 ^ 64
  unfolding layer_part word
  part_small small k {x} e i = subst (λ (y : List ℕ). slice_index y i < 2 ^ 64) (sym e) (go (is_store s))
    where
      go : (b : Bool) → slice_index (cond b (layer_at (cap s) s k) []) i < 2 ^ 64
      go true = word_lt (cap s) s small k i
      go false = omega arith

module _ (s : Bor (List ℕ)) {l : Layers} (of : LayersOf s l) where
  pub words_small : Words64 s.now → Bounded (layer_words l)
  words_small small zero i = part_small s.now small 0 of.l0.words i
  words_small small (suc zero) i = part_small s.now small 1 of.l1.words i
  words_small small (suc (suc zero)) i = part_small s.now small 2 of.l2.words i
  words_small small (suc (suc (suc k))) i = omega arith

  pub started_left : {c : Cursor} → c ≡ started_of s.now → left (layer_words l) c ≡ ids_of s.now
  started_left {c} e = ap (left (layer_words l)) (e ∙ begun_at s.now) ∙ go (is_store s.now) refl
    where
      go : (x : Bool) → is_store s.now ≡ x → left (layer_words l) (start_at top_most (cond x (word (cap s.now) s.now top_most 0) 0)) ≡ cond x (walked s.now) []
      go true p =
          let N = cap s.now in
          let lw = word N s.now in
          rest_same (layer_words l) lw top_most (lent_words (store_is p) of) (start_at top_most (lw top_most 0)) (suc top_most) (omega arith)
          ∙ start_rest lw top_most ∙ ap (all_ids lw) (sym (top_is N))
      go false p = rest_empty (layer_words l) top_most (start_at top_most 0) (suc top_most) none
        where
          none : (k : ℕ) → k < suc top_most → slice_index (start_at top_most 0).masks k ≡ 0
          none zero h = refl
          none (suc zero) h = refl
          none (suc (suc zero)) h = refl
          none (suc (suc (suc zero))) h = refl
          none (suc (suc (suc (suc k)))) h = absurd (omega arith)

-- ---- for a caller of `ids`

module _ (s : List ℕ) (i : Ids) (is : is_store s ≡ true) (left_is : ids_left i ≡ ids_of s) where
  -- on a store they are the ids of its walk
  pub ids_walked : ids_left i ≡ walked s
  ids_walked = left_is ∙ rw is

  -- and the iterator gives them, for a chain over it
  pub ids_yielded : YieldsList (YieldsFirst ids_left) (λ x. x) i (walked s)
  ids_yielded = YieldsList-from_first (λ x. x) ids_left (walked s) ids_walked

-- ---- a batch

-- all of it are handed out, or the next one is at its place
pub none_kept : (xs : List ℕ) (i n : ℕ) → i ≡ n → drop i (take n xs) ≡ []
none_kept xs i n e = let z : n ≡ i + 0 = omega (arith, e) in ap (λ (m : ℕ). drop i (take m xs)) z ∙ drop-take i 0 xs

pub one_kept : (xs : List ℕ) (i n : ℕ) → i < n → n ≤ length xs → drop i (take n xs) ≡ slice_index xs i ∷ drop (i + 1) (take n xs)
one_kept xs i n h l =
    let s : suc i ≡ i + 1 = omega arith in
    drop-cons (take n xs) i 0 (simp length-take (omega arith))
    ∙ ap₂ (λ (v m : ℕ). v ∷ drop m (take n xs)) (get_or-take n xs i 0 h) s

last : {b m k q : ℕ} {o : Stop} → Stopped b m o k q → goes_on o ≡ false → o ≡ End
last (full x) e = absurd (true≢false e)
last (paused x) e = absurd (true≢false e)
last (ended x y) e = refl

idle : {b m k q : ℕ} {o : Stop} → 1 ≤ m → Stopped b m o k q → k ≡ 0 → goes_on o ≡ true → q ≡ b
idle h (full x) z e = absurd (omega arith)
idle h (paused x) z e = refl
idle h (ended x y) z e = absurd (true≢false (sym e))

-- what a fill of 64 places answered, and left in them
pub record Turned (lw : ℕ → ℕ → ℕ) (c : Cursor) (r : Batch) (out : List ℕ) : Type 0 where
  pub ids : left lw c ≡ take r.count out ++ left lw r.cursor
  pub most : r.count ≤ 64
  pub wf : Wf top_most r.cursor
  pub fine : Fine top_most r.cursor.prefix
  pub over : goes_on r.stop ≡ false → left lw r.cursor ≡ []
  pub less : r.count ≡ 0 → goes_on r.stop ≡ true → to_read lw r.cursor < to_read lw c

pub turned : (lw : ℕ → ℕ → ℕ) → Bounded lw → {c : Cursor} → Wf top_most c → Fine top_most c.prefix → (b : ℕ) → 1 ≤ b → (ids : List ℕ) {out : List ℕ} {r : Batch}
    → length ids ≡ 64 → Settled batch_paper (filled (fill_from lw top_most (length ids) b c) ids) r out → Turned lw c r out
turned lw bounded {c} wf fine b some ids {out} {r} long a =
    let f = fill_from lw top_most (length ids) b c in
    let z = settles {r' = batch f} a (record { answer = refl; memory = refl }) in
    let m = fill_moved lw bounded top_most (length ids) b c wf in
    subst (λ (x : Batch). Turned lw c x out) (sym z.0) (subst (Turned lw c (batch f)) (sym z.1) (record {
      ids = m.moves.ids ∙ ap (λ (x : List ℕ). x ++ left lw f.cursor) (sym (take-append_seam f.ids (drop (length f.ids) ids)));
      most = omega (arith, inside_of m.kept, long);
      wf = m.wf;
      fine = m.fine fine;
      over = λ e. (m.over (last m.kept e)).0;
      less = λ e g. omega (arith, idle (omega (arith, long)) m.kept e g, m.moves.count);
    }))
