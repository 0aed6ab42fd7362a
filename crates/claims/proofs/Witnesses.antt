-- NO CLAIM IS EMPTY: every record that a claimed theorem takes has inhabitants, and every walk an end.
use mathlib.Core.Bool.{true}
use mathlib.Core.List.{List, [], ◌∷◌, ◌++◌}
use mathlib.Core.Logic.{◌≢◌}
use mathlib.Core.Path.{◌≡◌, refl, sym, ap, subst}
use Prim.Native.Nat.{ℕ, zero, suc, ◌+◌, ◌≤◌}
use native.Mathlib.Decide.{ℕ_discrete}
use native.Mathlib.Omega.{arith}
use borrow.Author.Tests.{eq-eqb, ne_eqb, lt-ltb}
use lib.Dec.{ltb}
use lib.ListN.{length, replicate, length-replicate}
use Rattle.std.specs.Prelude.{Ok}
use Rattle.util.specs.Outcome.{Outcome}
use Rattle.store.specs.Build.{empty}
use Rattle.store.specs.Layout.{top, max_cap, cap}
use Rattle.store.specs.Word.{SoundStore}
use Rattle.store.proofs.Build.{fine_empty}
use Rattle.store.proofs.Geometry.{after-header, is_store_lem}
use Rattle.store.proofs.Members.{own}
use Rattle.set_edit.specs.Calls.{add_list_of}
use Rattle.walk.specs.declared.Cursor.{Cursor}
use Rattle.walk_laws.specs.Calls.{Ask}
use Rattle.walk_laws.specs.Calls.Ask.{one}
use Rattle.walk_laws.specs.Under.{all_ids, all_reads}
use Rattle.walk_laws.proofs.Ends.{some_asks}
use Rattle.formula_codes.specs.Check.{beside_of, sooner, stores_of, check_of}
use Rattle.formula_codes.specs.Codes.{code_kind, takes_in, left, is_formula}
use Rattle.formula_codes.specs.Tree.{four, nth}
use Rattle.formula_ask.specs.Calls.{formula_words}
use Rattle.formula_laws.specs.Sides.{Sounds, UnionCodes}
use Rattle.formula_laws.specs.Walks.{walk_over}
use Rattle.formula_laws.proofs.Shapes.{union_some}
use Rattle.ops_merge.specs.Calls.{mergeable, BothSound}
use Rattle.map_write.specs.Calls.{write_of}
use Rattle.map_write.specs.Map.{told_words, map_of, map_len}
use Rattle.map_read.specs.Calls.{read_of}
use Rattle.map_laws.specs.Claims.{MapOfSome}
use Rattle.map_laws.proofs.Theorems.{written-length, written_read}
use Rattle.claims.specs.Again.{Again}
use Rattle.claims.specs.Lent.{Lent}
use Rattle.claims.specs.Reached.{Reached}
use Rattle.claims.specs.Reached.OneCall.{lists}
use Rattle.claims.specs.Reached.Reached.{after}
use Rattle.claims.proofs.Histories.{reached_fine, sound_reached}
use Rattle.claims.proofs.Maps.{read_again}
use Rattle.claims.proofs.Walks.{sounds_lent, walk_ends}

-- ---- stores: of every capacity, with any ids

pub sound_new : (N : ℕ) → 1 ≤ N → N ≤ max_cap → (ids : List ℕ) → SoundStore N (add_list_of (empty N) ids).lent
sound_new N some most ids = reached_fine (after (sound_reached (fine_empty N some most)) (lists ids))

pub reached_new : (N : ℕ) → 1 ≤ N → N ≤ max_cap → (ids : List ℕ) → Reached N (add_list_of (empty N) ids).lent
reached_new N some most ids = sound_reached (sound_new N some most ids)

-- ---- formulas: any that the check takes, over one to four reached stores of one capacity

beside_none : (N : ℕ) (s : List ℕ) → (length s ≢ 0 → Reached N s) → beside_of N s ≡ 0
unfolding beside_of
beside_none N s h = go (ℕ_discrete (length s) 0)
  where
    go : Dec (length s ≡ 0) → beside_of N s ≡ 0
    go (yes e) = rw (eq-eqb (length s) 0 e)
    go (no n) = let z = (reached_fine (h n)).is in rw (ne_eqb (length s) 0 n, is_store_lem z, z.names, eq-eqb N N refl)

not_short : {N : ℕ} {s : List ℕ} → Reached N s → ltb 0 (length s) ≡ true
not_short {N} {s} r = lt-ltb 0 (length s) (omega (arith, (reached_fine r).is.long, after-header N 0))

module _ {N : ℕ} {a : List ℕ} (first : Reached N a) where
  pub lent_any : (b c d cs : List ℕ) → (length b ≢ 0 → Reached N b) → (length c ≢ 0 → Reached N c) → (length d ≢ 0 → Reached N d)
      → is_formula (four a b c d) cs ≡ true → Lent (four a b c d) cs
  unfolding check_of stores_of sooner
  lent_any b c d cs rb rc rd h =
      let z = (reached_fine first).is in
      record {
        accepted = rw (is_store_lem z, z.names, beside_none N b rb, beside_none N c rc, beside_none N d rd, h);
        reached = each;
      }
    where
      go : (x : ℕ) → length (nth (four a b c d) x) ≢ 0 → Reached N (nth (four a b c d) x)
      go zero n = first
      go (suc zero) n = rb n
      go (suc (suc zero)) n = rc n
      go (suc (suc (suc zero))) n = rd n
      go (suc (suc (suc (suc x)))) n = absurd (n refl)

      each : (x : ℕ) → length (nth (four a b c d) x) ≢ 0 → Reached (cap a) (nth (four a b c d) x)
      each x n = subst (λ (m : ℕ). Reached m (nth (four a b c d) x)) (sym (reached_fine first).is.names) (go x n)

  -- "one store"
  pub lent_one : Lent (four a [] [] []) (0 ∷ []) × UnionCodes (0 ∷ [])
  unfolding is_formula left takes_in code_kind
  lent_one = (
    lent_any [] [] [] (0 ∷ []) (λ n. absurd (n refl)) (λ n. absurd (n refl)) (λ n. absurd (n refl)) (rw (not_short first)),
    union_some.0,
  )

  module _ {b c d : List ℕ} (rb : Reached N b) (rc : Reached N c) (rd : Reached N d) where
    lent_codes : (cs : List ℕ) → is_formula (four a b c d) cs ≡ true → Lent (four a b c d) cs
    lent_codes cs = lent_any b c d cs (λ n. rb) (λ n. rc) (λ n. rd)

    -- "a union of stores": of four
    pub lent_four : Lent (four a b c d) (0 ∷ 1 ∷ 17 ∷ 2 ∷ 17 ∷ 3 ∷ 17 ∷ []) × UnionCodes (0 ∷ 1 ∷ 17 ∷ 2 ∷ 17 ∷ 3 ∷ 17 ∷ [])
    unfolding is_formula left takes_in code_kind
    lent_four = (
      lent_codes (0 ∷ 1 ∷ 17 ∷ 2 ∷ 17 ∷ 3 ∷ 17 ∷ []) (rw (not_short first, not_short rb, not_short rc, not_short rd)),
      union_some.1,
    )

    -- an intersection and its two sides
    pub lent_sides : Lent (four a b c d) (0 ∷ []) × Lent (four a b c d) (1 ∷ []) × Lent (four a b c d) ((0 ∷ []) ++ ((1 ∷ []) ++ 16 ∷ []))
    unfolding is_formula left takes_in code_kind
    lent_sides = (
      lent_codes (0 ∷ []) (rw (not_short first)),
      lent_codes (1 ∷ []) (rw (not_short rb)),
      lent_codes ((0 ∷ []) ++ ((1 ∷ []) ++ 16 ∷ [])) (rw (not_short first, not_short rb)),
    )

    pub sounds_four : Sounds (cap a) (four a b c d)
    sounds_four = sounds_lent a b c d lent_four.0

-- ---- walks that end

pub some_end : (a b c d : List ℕ) {cs : List ℕ} → Lent (four a b c d) cs → (k : Cursor) → (q : List Ask) × ((walk_over (four a b c d) cs k q).over ≡ true)
some_end a b c d {cs} l k =
    let n = all_reads (formula_words (four a b c d) cs) (top (cap a)) + length (all_ids (formula_words (four a b c d) cs) (top (cap a))) in
    (replicate n (one 1), walk_ends a b c d l k (replicate n (one 1)) (some_asks n) (omega (arith, length-replicate n (one 1))))

-- ---- in place, and maps

pub both_sound : {N : ℕ} {s t : List ℕ} → SoundStore N s → SoundStore N t → (mergeable s t ≡ true) × BothSound s t
unfolding mergeable
both_sound {N} f g = (rw (is_store_lem f.is, is_store_lem g.is, f.is.names, g.is.names, eq-eqb N N refl), λ h. ((own f).sound, (own g).sound))

pub map_of_some : {N : ℕ} {s : List ℕ} → SoundStore N s → (later : List ℕ) → MapOfSome (map_of N (told_words N s) ++ later) N
map_of_some {s = s} f later = record { set = s; fine = f; later = later; bytes = refl }

-- a map written into any buffer with room, and read into any reached store
pub again_some : {N : ℕ} {s t : List ℕ} → Reached N s → Reached N t → (b : List ℕ) → map_len (told_words N s) ≤ length b
    → Again N s (Ok tt) (read_of (write_of s b).lent t).lent
again_some {N} {s} {t} from into b h =
    let f = (reached_fine from).is in
    let g = (reached_fine into).is in
    read_again from into b (write_of s b).lent (map_len (told_words N s)) (record { answer = sym (written-length f g b h); memory = refl })
    (Ok tt) (read_of (write_of s b).lent t).lent
    (record { answer = sym (ap (λ (o : Outcome (List ℕ)). o.numbers) (written_read f g b h)); memory = refl })
