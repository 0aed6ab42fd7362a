-- THE CHUNK MAP: what is written is read back, what is read is written back, and which bytes are accepted.
use Rattle.std.proofs.Common.{List, [], ◌∷◌, ◌++◌, append-nil, ◌↔◌, ◌≡◌, sym, ap, ◌∙◌, subst, ℕ, ◌+◌, ◌*◌, ◌^◌, ◌≤◌, ◌<◌, arith, le-leb, ne_eqb, length, get_or, take, drop, take-append-drop, take_at}
use native.Mathlib.Decide.{ℕ_discrete}
use lib.Seq.{sets, sets-eq}
use Rattle.util.specs.Outcome.{Outcome}
use Rattle.store.specs.Answer.{gives, does, refuses}
use Rattle.store.specs.Build.{build, layer0, room0}
use Rattle.store.specs.Layout.{max_cap, StoreOf}
use Rattle.store.specs.Word.{Member, members, Sound, Words64, SoundStore}
use Rattle.store.proofs.Build.{build_fine}
use Rattle.store.proofs.Ends.{cap_in_lem}
use Rattle.store.proofs.Geometry.{is_store_lem}
use Rattle.store.proofs.Members.{fine_same}
use Rattle.map_format.specs.Bytes.{Bytes}
use Rattle.map_write.specs.Calls.{write_of}
use Rattle.map_write.specs.Map.{told_words, map_of, map_len}
use Rattle.map_write.proofs.Bytes.{length-map}
use Rattle.map_write.proofs.Words.{kept_low}
use Rattle.map_read.specs.Calls.{read_of}
use Rattle.map_read.specs.Judge.{judge_of, used_in, map_words}
use Rattle.map_read.proofs.Layer.{length-words}
use Rattle.map_read.proofs.Right.{MapTaken, map-taken, accepted_0}
use Rattle.map_laws.specs.Claims.{SameMembers, SameBytes, MapOfSome}
use Rattle.map_laws.proofs.Accepted.{words_low, words-used, words-map}
use Rattle.map_laws.proofs.Stores.{build-words, long_in, made_fine, made_members, made_same}
use Rattle.map_laws.proofs.Written.{LowNumbers, map_accepted, map-words}

-- ---- what the calls leave, where they do not refuse

pub write_gives : {N : ℕ} {s : List ℕ} → StoreOf N s → (b : List ℕ) → map_len (told_words N s) ≤ length b
    → write_of s b ≡ gives (map_len (told_words N s)) (sets b 0 (map_of N (told_words N s)))
unfolding write_of
write_gives {N} {s} z b h = rw (is_store_lem z, z.names, le-leb (map_len (told_words N s)) (length b) h)

pub read-does : (m : List ℕ) {N : ℕ} {t : List ℕ} → StoreOf N t → judge_of m N ≡ 0 → read_of m t ≡ does (build N (map_words N m))
unfolding read_of
read-does m {N} {t} z e = rw (is_store_lem z, z.names, e)

pub read-refuses : (m : List ℕ) {N : ℕ} {t : List ℕ} → StoreOf N t → (judge_of m N ≡ 0 → ⊥) → read_of m t ≡ refuses (judge_of m N) t
unfolding read_of
read-refuses m {N} {t} z n = rw (is_store_lem z, z.names, ne_eqb (judge_of m N) 0 n)

-- the buffer behind the writer: the map, and the later bytes as they were
pub written_is : {N : ℕ} {s : List ℕ} → StoreOf N s → (b : List ℕ) → map_len (told_words N s) ≤ length b
    → (write_of s b).lent ≡ map_of N (told_words N s) ++ drop (map_len (told_words N s)) b
written_is {N} {s} z b h =
    let l = length-map N (told_words N s) in
    let e : 0 + length (map_of N (told_words N s)) ≡ map_len (told_words N s) = omega arith in
    ap (λ (o : Outcome (List ℕ)). o.lent) (write_gives z b h)
    ∙ sets-eq (map_of N (told_words N s)) b 0 (omega arith)
    ∙ ap (λ (k : ℕ). map_of N (told_words N s) ++ drop k b) e

-- ---- WRITTEN, THEN READ

module _ {N : ℕ} {s : List ℕ} (z : StoreOf N s) where
  low_in : LowNumbers N 0 (told_words N s)
  low_in i = let e : i ≡ 0 + i = omega arith in subst (λ (k : ℕ). get_or (told_words N s) i 0 < 2 ^ room0 N k) e (kept_low N (layer0 N s) i)

  -- the map of s, with any bytes behind it, is accepted
  pub map_right : (r : List ℕ) → judge_of (map_of N (told_words N s) ++ r) N ≡ 0
  map_right r = accepted_0 (map_accepted N (told_words N s) z.some z.most (long_in z) low_in r)

  module _ {t : List ℕ} (y : StoreOf N t) where
    map_read : (r : List ℕ) → read_of (map_of N (told_words N s) ++ r) t ≡ does (build N (told_words N s))
    map_read r =
        read-does (map_of N (told_words N s) ++ r) y (map_right r)
        ∙ ap (λ (ws : List ℕ). does (build N ws)) (map-words N (told_words N s) z.some z.most (long_in z) low_in r)

    module _ (b : List ℕ) (h : map_len (told_words N s) ≤ length b) where
      -- A MAP WRITTEN AND READ AGAIN: the whole buffer, or the part whose length the writer answered
      pub written-length : (write_of s b).numbers ≡ 0 ∷ map_len (told_words N s) ∷ []
      written-length = ap (λ (o : Outcome (List ℕ)). o.numbers) (write_gives z b h)

      pub written_read : read_of (write_of s b).lent t ≡ does (build N (told_words N s))
      written_read = ap (λ (m : List ℕ). read_of m t) (written_is z b h) ∙ map_read (drop (map_len (told_words N s)) b)

      pub written-read_part : read_of (take (map_len (told_words N s)) (write_of s b).lent) t ≡ does (build N (told_words N s))
      written-read_part =
          ap (λ (m : List ℕ). read_of m t)
          (ap (take (map_len (told_words N s))) (written_is z b h)
          ∙ take_at (map_of N (told_words N s)) (drop (map_len (told_words N s)) b) (map_len (told_words N s)) (length-map N (told_words N s))
          ∙ sym (append-nil (map_of N (told_words N s))))
          ∙ map_read []

      lent_is : (read_of (write_of s b).lent t).lent ≡ build N (told_words N s)
      lent_is = ap (λ (o : Outcome (List ℕ)). o.lent) written_read

      -- "A chunk map written and read again gives the same members", whether s is sound or not; the store read into is sound
      pub round_trip_members : SameMembers s t b
      round_trip_members = ap members lent_is ∙ made_members z

      pub round_trip_fine : SoundStore N (read_of (write_of s b).lent t).lent
      round_trip_fine = subst (SoundStore N) (sym lent_is) (made_fine z)

      -- a sound store comes back word for word
      pub round_trip_same : Words64 s → Sound N s → (read_of (write_of s b).lent t).lent ≡ s
      round_trip_same small y = lent_is ∙ made_same z small y

-- ---- READ, THEN WRITTEN

module _ (m : List ℕ) (N : ℕ) (e : judge_of m N ≡ 0) where
  right : MapTaken m N
  right = map-taken e

  capacity : (1 ≤ N) × (N ≤ max_cap)
  capacity =
      subst (λ (n : ℕ). (1 ≤ n) × (n ≤ max_cap)) right.same (cap_in_lem _ right.head.capacity)

  -- what is read is a sound store
  pub read_fine : SoundStore N (build N (map_words N m))
  read_fine = build_fine N (map_words N m) capacity.0 capacity.1 (length-words N m) (words_low right)

  words_back : told_words N (build N (map_words N m)) ≡ map_words N m
  words_back = build-words N (map_words N m) (length-words N m) (words_low right)

  -- and its map is the bytes that were read
  pub read-map : Bytes m → map_of N (told_words N (build N (map_words N m))) ≡ take (16 + 12 * used_in m) m
  read-map bytes = ap (map_of N) words_back ∙ words-map bytes right

  long_map : Bytes m → map_len (told_words N (build N (map_words N m))) ≡ 16 + 12 * used_in m
  long_map bytes = ap (λ (ws : List ℕ). map_len ws) words_back ∙ ap (λ (k : ℕ). 16 + 12 * k) (words-used bytes right)

  -- WHAT THE READER ACCEPTS, WRITTEN AGAIN, gives the same 16 + 12 W bytes
  pub read-written : Bytes m → {t : List ℕ} → StoreOf N t → (b : List ℕ) → 16 + 12 * used_in m ≤ length b → SameBytes m t b
  read-written bytes {t} z b h =
      let l = long_map bytes in
      ap (λ (o : Outcome (List ℕ)). write_of o.lent b) (read-does m z e)
      ∙ both-parts (write_gives read_fine.is b (omega arith)) (written_is read_fine.is b (omega arith))
      ∙ ap (λ (k : ℕ). gives k (map_of N (told_words N (build N (map_words N m))) ++ drop k b)) l
      ∙ ap (λ (x : List ℕ). gives (16 + 12 * used_in m) (x ++ drop (16 + 12 * used_in m) b)) (read-map bytes)
    where
      both-parts : {o : Outcome (List ℕ)} {k : ℕ} {x y : List ℕ} → o ≡ gives k x → o.lent ≡ y → o ≡ gives k y
      both-parts {o} {k} {x} {y} p q = p ∙ ap (gives k) (sym (ap (λ (o : Outcome (List ℕ)). o.lent) p) ∙ q)

-- ---- ACCEPTED is exactly what is the map of some set of that capacity

pub accepts : (m : List ℕ) → Bytes m → (N : ℕ) → (judge_of m N ≡ 0) ↔ MapOfSome m N
accepts m bytes N = (
  λ e.
      record {
        set = build N (map_words N m);
        fine = read_fine m N e;
        later = drop (16 + 12 * used_in m) m;
        bytes = sym (ap (λ (x : List ℕ). x ++ drop (16 + 12 * used_in m) m) (read-map m N e bytes) ∙ take-append-drop (16 + 12 * used_in m) m);
      },
  λ s. ap (λ (x : List ℕ). judge_of x N) s.bytes ∙ map_right s.fine.is s.later,
)

-- ---- TWO ACCEPTED MAPS WITH EQUAL MEMBERS are equal bytes

pub same_bytes : (m m' : List ℕ) → Bytes m → Bytes m' → {N : ℕ} {t t' : List ℕ} → StoreOf N t → StoreOf N t' → judge_of m N ≡ 0 → judge_of m' N ≡ 0
    → ((i : ℕ) → Member (read_of m t).lent i ↔ Member (read_of m' t').lent i)
    → take (16 + 12 * used_in m) m ≡ take (16 + 12 * used_in m') m'
same_bytes m m' bytes bytes' {N} {t} {t'} z z' e e' h =
    let p = ap (λ (o : Outcome (List ℕ)). o.lent) (read-does m z e) in
    let q = ap (λ (o : Outcome (List ℕ)). o.lent) (read-does m' z' e') in
    let equal : build N (map_words N m) ≡ build N (map_words N m') =
    fine_same (read_fine m N e) (read_fine m' N e') (λ i. subst (λ (x : List ℕ). Member x i ↔ Member (build N (map_words N m')) i) p (subst (λ (x : List ℕ). Member (read_of m t).lent i ↔ Member x i) q (h i))) in
    sym (read-map m N e bytes) ∙ ap (λ (x : List ℕ). map_of N (told_words N x)) equal ∙ read-map m' N e' bytes'

-- ---- soundness is kept, whatever the bytes are

pub read_keeps : (m : List ℕ) {N : ℕ} {t : List ℕ} → SoundStore N t → SoundStore N (read_of m t).lent
read_keeps m {N} {t} f = go (ℕ_discrete (judge_of m N) 0)
  where
    go : Dec (judge_of m N ≡ 0) → SoundStore N (read_of m t).lent
    go (yes e) = subst (SoundStore N) (sym (ap (λ (o : Outcome (List ℕ)). o.lent) (read-does m f.is e))) (read_fine m N e)
    go (no n) = subst (SoundStore N) (sym (ap (λ (o : Outcome (List ℕ)). o.lent) (read-refuses m f.is n))) f
