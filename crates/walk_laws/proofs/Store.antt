-- Walks of one store, by the public definitions: started, and then a call for each ask of a list.
use mathlib.Core.Bool.{true}
use mathlib.Core.List.{List, Memᴰ}
use mathlib.Core.Logic.{◌↔◌, ◌≢◌}
use mathlib.Core.Path.{◌≡◌, sym, ap, ap₂, ◌∙◌, subst}
use Prim.Native.Nat.{ℕ, ◌+◌, ◌≤◌}
use native.Mathlib.Decide.{ℕ_discrete}
use native.Mathlib.Omega.{arith}
use lib.ListN.{length}
use Rattle.util.specs.Word.{places, Rising}
use Rattle.store.specs.Layout.{top, max_cap, room, cap, is_store}
use Rattle.store.specs.Word.{word, on, Member, members, member_count, Sound, Words64, SoundStore}
use Rattle.store.proofs.Geometry.{is_store_lem, store_is}
use Rattle.store.proofs.Members.{own, members_are, members_rise}
use Rattle.store.proofs.TopLayer.{top_covers}
use Rattle.store.proofs.Words.{word_lt, on_lt}
use Rattle.walk.specs.Calls.{start_in}
use Rattle.walk.specs.Walk.{start_at}
use Rattle.walk.specs.declared.Cursor.{Cursor}
use Rattle.walk.specs.declared.Step.{Step}
use Rattle.walk.proofs.Answers.{started_is, next_runs}
use Rattle.walk.proofs.Cursors.{fit_of}
use Rattle.walk_fill.proofs.Fills.{fill_runs}
use Rattle.walk_laws.specs.Calls.{Ask, Some, Run, run_by, AllStopped, Nexts, Fills}
use Rattle.walk_laws.specs.Under.{all_ids, all_reads}
use Rattle.walk_laws.specs.Walks.{on_at, Clear, Full, Spaced, SpacedAs, next_on, fill_on, call_on, walk_on, Walked}
use Rattle.walk_laws.proofs.Called.{calls_kept, calls_defined, calls_over, calls_spaced, calls_spaced_as}
use Rattle.walk_laws.proofs.Members.{ids_below}

-- ---- what soundness says of the layer words

module _ (N : ℕ) (s : List ℕ) (z : Sound N s) where
  pub sound_clear : Clear (word N s) (top N)
  unfolding on_at on
  sound_clear k p h e = go (ℕ_discrete (word N s k p) 0)
    where
      go : Dec (word N s k p ≡ 0) → word N s k p ≡ 0
      go (yes q) = q
      go (no q) = absurd (omega (arith, e, (z.layers.exact k p h).1 q))

  pub sound_full : Full (word N s) (top N)
  unfolding on_at on
  sound_full k p h e = let n : word N s k p ≢ 0 = (z.layers.exact k p h).0 e in omega (arith, n)

  -- no bit is set at or past N
  pub sound_past : (i : ℕ) → N ≤ i → on_at (word N s) 0 i ≡ 0
  unfolding on_at on room
  sound_past i h = go (ℕ_discrete (on N s 0 i) 1)
    where
      go : Dec (on N s 0 i ≡ 1) → on N s 0 i ≡ 0
      go (yes q) = absurd (omega (arith, z.layers.inside 0 i (omega arith) q))
      go (no q) = omega (arith, on_lt N s 0 i, q)

  sound_ids : N ≤ max_cap → all_ids (word N s) (top N) ≡ places (on N s 0) 0 N
  unfolding on_at on
  sound_ids most = ids_below (word N s) (top N) N sound_clear (top_covers N most) sound_past

-- ---- the calls on a store are the walk over its layer words, and none refuses

module _ (s : List ℕ) (is : is_store s ≡ true) (small : Words64 s) where
  abbrev lw : ℕ → ℕ → ℕ
  lw = word (cap s) s

  abbrev t : ℕ
  t = top (cap s)

  next_is : Nexts lw t (next_on s)
  next_is b c f = sym (next_runs (store_is is) c b (fit_of t c.prefix f))

  pub fill_as_defined : Fills lw t (fill_on s)
  fill_as_defined b m c f = sym (fill_runs (store_is is) c b m (fit_of t c.prefix f))

  start_cursor : (c : Cursor) → (start_in s c).cursor ≡ start_at t (lw t 0)
  start_cursor c = ap (λ (x : Step). x.cursor) (started_is (store_is is) c)

  from_start : (c : Cursor) (l : List Ask) → walk_on s c l ≡ run_by (call_on s) (start_at t (lw t 0)) l
  from_start c l = ap (λ (x : Cursor). run_by (call_on s) x l) (start_cursor c)

  -- A STARTED WALK of a store, sound or not: no call of it refuses or reads past its budget, and a paused one has spent it
  pub walk_kept : (c : Cursor) (l : List Ask) → AllStopped (call_on s) l (start_in s c).cursor
  walk_kept c l =
      subst (AllStopped (call_on s) l) (sym (start_cursor c)) (calls_kept lw (word_lt (cap s) s small) t (next_on s) (fill_on s) next_is fill_as_defined l)

  -- One that ends has handed out the ids below the top word and reported the definition's count; and enough calls end it.
  pub walk_defined : (c : Cursor) (l : List Ask) → (walk_on s c l).over ≡ true
      → ((walk_on s c l).members ≡ all_ids lw t) × ((start_in s c).reads + (walk_on s c l).total ≡ all_reads lw t)
  walk_defined c l e =
      let w = from_start c l in
      let r = calls_defined lw (word_lt (cap s) s small) t (next_on s) (fill_on s) next_is fill_as_defined l (sym (ap (λ (x : Run). x.over) w) ∙ e) in (
        ap (λ (x : Run). x.members) w ∙ r.0,
        ap₂ (λ (x : Step) (y : Run). x.reads + y.total) (started_is (store_is is) c) w ∙ r.1,
      )

  pub walk_over_lem : (c : Cursor) (l : List Ask) → Some l → all_reads lw t + length (all_ids lw t) ≤ length l → (walk_on s c l).over ≡ true
  walk_over_lem c l some h =
      ap (λ (x : Run). x.over) (from_start c l) ∙ calls_over lw (word_lt (cap s) s small) t (next_on s) (fill_on s) next_is fill_as_defined l some h

  -- at most three words, the layers below the top, before each next member, and none before the end, where every summary bit that is on
  -- stands over a word that is not 0: of next alone, and of next and fill in any mix
  walk_spaced : Full lw t → (c : Cursor) (bs : List ℕ) → Spaced t (next_on s) bs (start_in s c).cursor 0
  walk_spaced full c bs =
      subst (λ (x : Cursor). Spaced t (next_on s) bs x 0) (sym (start_cursor c)) (calls_spaced lw (word_lt (cap s) s small) t (next_on s) next_is full bs)

  walk_spaced_as : Full lw t → (c : Cursor) (l : List Ask) → SpacedAs t (next_on s) (fill_on s) l (start_in s c).cursor
  walk_spaced_as full c l =
      subst (SpacedAs t (next_on s) (fill_on s) l) (sym (start_cursor c)) (calls_spaced_as lw (word_lt (cap s) s small) t (next_on s) (fill_on s) next_is fill_as_defined full l)

-- ---- on a sound store what the definition hands out is the members

pub ids_members : (s : List ℕ) → is_store s ≡ true → Words64 s → Sound (cap s) s → all_ids (word (cap s) s) (top (cap s)) ≡ members s
unfolding members
ids_members s is small z = sound_ids (cap s) s z (store_is is).most

-- ---- A WALK OF A SOUND STORE by its own calls: start, next, fill

module _ {N : ℕ} {s : List ℕ} (f : SoundStore N s) where
  is_one : is_store s ≡ true
  is_one = is_store_lem f.is

  ids_own : all_ids (word (cap s) s) (top (cap s)) ≡ members s
  ids_own = ids_members s is_one f.words (own f).sound

  -- "However it is cut by read budgets, a walk that ends has handed out exactly the .. members, each once, ascending, and reported the count
  -- of words that the definition says it reads." Its calls may be next and fill in any mix.
  pub store_members : (c : Cursor) (l : List Ask) → (walk_on s c l).over ≡ true → Walked s c l
  store_members c l e =
      let d = walk_defined s is_one f.words c l e in
      let m : (walk_on s c l).members ≡ members s = d.0 ∙ ids_own in
      record {
        members-all = m;
        exact = λ i. subst (λ (x : List ℕ). Memᴰ i x ↔ Member s i) (sym m) (members_are s i);
        rising = subst (Rising 0) (sym m) (members_rise s);
        counted = d.1;
      }

  -- it does end, and no call refuses or reads past its budget
  pub store_ends : (c : Cursor) (l : List Ask) → Some l → all_reads (word (cap s) s) (top (cap s)) + member_count s ≤ length l → (walk_on s c l).over ≡ true
  store_ends c l some h = walk_over_lem s is_one f.words c l some (omega (arith, h, ap length ids_own))

  pub store_keeps : (c : Cursor) (l : List Ask) → AllStopped (call_on s) l (start_in s c).cursor
  store_keeps = walk_kept s is_one f.words

  -- "On one store .., after the top word, at most three words are read before each next member and none before the end."
  pub store_gaps : (c : Cursor) (bs : List ℕ) → Spaced (top (cap s)) (next_on s) bs (start_in s c).cursor 0
  store_gaps = walk_spaced s is_one f.words (sound_full (cap s) s (own f).sound)

  pub store_fill_gaps : (c : Cursor) (l : List Ask) → SpacedAs (top (cap s)) (next_on s) (fill_on s) l (start_in s c).cursor
  store_fill_gaps = walk_spaced_as s is_one f.words (sound_full (cap s) s (own f).sound)
