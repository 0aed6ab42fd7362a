-- The store that layer-0 words make: its words and bits, that it is sound, and that every sound store is such a store.
use Rattle.std.proofs.Common.{◌≡◌, ℕ, zero, suc, ◌+◌, ◌-◌, ◌*◌, ◌/◌, ◌%◌, ◌^◌, ◌<◌, ◌≤◌, Bool, true, false, cond, eqb, ◌≢◌, ◌↔◌, List, [], ◌∷◌, ◌++◌, length, get_or, take, drop, replicate, sym, refl, ap, ◌∙◌, subst, append-nil, pow-suc, arith, length-drop, length-take, get_or-drop, get_or-take, drop-drop, get_or-append-add, drop_at, pow_mono, eq-eqb, ne_eqb}
use native.Mathlib.Decide.{dec_lt}
use lib.ListN.{length-replicate, get_or-replicate, get_or-append, get_or-eq_default}
use Rattle.util.specs.Word.{bit}
use Rattle.util.proofs.Bits.{bit_of_zero, bit_zero, bit_suc, bit_high, bits_below}
use Rattle.store.specs.Build.{flag, flags, chunks, summary, layer_of, stacked, head, build, layer0, room0, Kept, empty}
use Rattle.store.specs.Layout.{header, max_cap, words, room, layer_len, layer_start, store_len, cap, top, StoreOf}
use Rattle.store.specs.Word.{word, on, Sound, Words64, SoundStore}
use Rattle.store.proofs.Geometry.{end_top, end_step, after-header, within}
use Rattle.store.proofs.Members.{words_same, by_layers}
use Rattle.store.proofs.Words.{word_in, word_out, on_lt, bit-place}

-- ---- flags

pub flag_lt : (w : ℕ) → flag w < 2
flag_lt w = go (eqb w 0)
  where
    go : (b : Bool) → cond b 0 1 < 2
    go true = omega arith
    go false = omega arith

pub flag_zero : (w : ℕ) → w ≡ 0 → flag w ≡ 0
flag_zero w h = rw (eq-eqb w 0 h)

pub flag_one : (w : ℕ) → w ≢ 0 → flag w ≡ 1
flag_one w h = rw (ne_eqb w 0 h)

pub flag-on : (w : ℕ) → (flag w ≡ 1) ↔ (w ≢ 0)
flag-on w = ((λ e z. omega (arith, flag_zero w z)), flag_one w)

-- bit b tells of word b
pub bit-flags : (ws : List ℕ) (b : ℕ) → bit (flags ws) b ≡ flag (get_or ws b 0)
unfolding flags
bit-flags [] b = bit_of_zero b
bit-flags (w ∷ ws) zero = bit_zero (flag w + 2 * flags ws) ∙ omega (arith, flag_lt w)
bit-flags (w ∷ ws) (suc b) =
    bit_suc (flag w + 2 * flags ws) b ∙ ap (λ (x : ℕ). bit x b) (let h = flag_lt w in omega arith) ∙ bit-flags ws b

pub flags_lt : (ws : List ℕ) → flags ws < 2 ^ length ws
unfolding flags
flags_lt [] = omega arith
flags_lt (w ∷ ws) = omega (arith, flags_lt ws, flag_lt w, pow-suc 2 (length ws))

-- ---- one layer over another

pub length-chunks : (n : ℕ) (ws : List ℕ) → length (chunks n ws) ≡ n
unfolding chunks
length-chunks zero ws = refl
length-chunks (suc n) ws = ap suc (length-chunks n (drop 64 ws))

bit-chunks : (n : ℕ) (ws : List ℕ) (i b : ℕ) → i < n → b < 64 → bit (get_or (chunks n ws) i 0) b ≡ flag (get_or ws (64 * i + b) 0)
unfolding chunks
bit-chunks zero ws i b h g = absurd (omega arith)
bit-chunks (suc n) ws zero b h g =
    bit-flags (take 64 ws) b ∙ ap flag (get_or-take 64 ws b 0 g) ∙ ap (λ (j : ℕ). flag (get_or ws j 0)) (omega arith)
bit-chunks (suc n) ws (suc i) b h g =
    bit-chunks n (drop 64 ws) i b (omega arith) g ∙ ap flag (get_or-drop 64 ws (64 * i + b) 0) ∙ ap (λ (j : ℕ). flag (get_or ws j 0)) (omega arith)

chunks_lt : (n : ℕ) (ws : List ℕ) → Words64 (chunks n ws)
unfolding chunks
chunks_lt zero ws i = omega arith
chunks_lt (suc n) ws zero =
    let l : length (take 64 ws) ≤ 64 = omega (arith, length-take 64 ws) in omega (arith, flags_lt (take 64 ws), pow_mono l)
chunks_lt (suc n) ws (suc i) = chunks_lt n (drop 64 ws) i

-- the bit at place p of a summary tells of word p
pub summary-bit : (ws : List ℕ) (p : ℕ) → bit (get_or (summary ws) (p / 64) 0) (p % 64) ≡ flag (get_or ws p 0)
summary-bit ws p = go (dec_lt (p / 64) (words (length ws)))
  where
    go : Dec (p / 64 < words (length ws)) → bit (get_or (summary ws) (p / 64) 0) (p % 64) ≡ flag (get_or ws p 0)
    go (yes l) =
        let e : 64 * (p / 64) + p % 64 ≡ p = omega arith in
        bit-chunks (words (length ws)) ws (p / 64) (p % 64) l (omega arith) ∙ ap (λ (j : ℕ). flag (get_or ws j 0)) e
    go (no l) =
        ap (λ (w : ℕ). bit w (p % 64)) (get_or-eq_default (summary ws) 0 (omega (arith, length-chunks (words (length ws)) ws)))
        ∙ bit_of_zero (p % 64)
        ∙ sym (flag_zero (get_or ws p 0) (get_or-eq_default ws 0 (omega arith)))

-- ---- all layers

module _ (N : ℕ) (ws : List ℕ) (long : length ws ≡ layer_len N 0) where
  pub length_layer : (k : ℕ) → length (layer_of k ws) ≡ layer_len N k
  unfolding layer_of room
  length_layer zero = long
  length_layer (suc k) = length-chunks (words (length (layer_of k ws))) (layer_of k ws) ∙ ap words (length_layer k)

  pub cap-build : cap (build N ws) ≡ N
  unfolding build
  cap-build = refl

  -- from layer k on stand the layers up to k
  drop_from : (d k : ℕ) → k + d ≡ top N → drop (layer_start N k) (build N ws) ≡ stacked (suc k) ws
  unfolding build stacked
  drop_from zero k e =
      let q : k ≡ top N = omega arith in
      ap (λ (m : ℕ). drop (layer_start N m) (build N ws)) q
      ∙ ap (λ (m : ℕ). drop m (build N ws)) (end_top N) ∙ drop_at (head N ws) (stacked (suc (top N)) ws) header refl ∙ ap (λ (m : ℕ). stacked (suc m) ws) (sym q)
  drop_from (suc d) k e =
      ap (λ (m : ℕ). drop m (build N ws)) (end_step N (suc k) (omega arith))
      ∙ sym (drop-drop (layer_len N (suc k)) (layer_start N (suc k)) (build N ws))
      ∙ ap (drop (layer_len N (suc k))) (drop_from d (suc k) (omega arith))
      ∙ drop_at (layer_of (suc k) ws) (stacked (suc k) ws) (layer_len N (suc k)) (length_layer (suc k))

  pub drop_layer : (k : ℕ) → k ≤ top N → drop (layer_start N k) (build N ws) ≡ stacked (suc k) ws
  drop_layer k h = drop_from (top N - k) k (omega arith)

  pub layer0-build : layer0 N (build N ws) ≡ ws
  unfolding stacked layer_of
  layer0-build = drop_layer 0 (omega arith) ∙ append-nil ws

  pub length-build : 1 ≤ N → length (build N ws) ≡ store_len N
  unfolding room
  length-build h =
      omega (arith, length-drop (layer_start N 0) (build N ws), ap length layer0-build ∙ long, end_step N 0 (omega arith), after-header N 1)

  pub word-build : (k i : ℕ) → k ≤ top N → word N (build N ws) k i ≡ get_or (layer_of k ws) i 0
  unfolding stacked
  word-build k i h = go (dec_lt i (layer_len N k))
    where
      go : Dec (i < layer_len N k) → word N (build N ws) k i ≡ get_or (layer_of k ws) i 0
      go (yes l) =
          word_in N (build N ws) k i l ∙ sym (get_or-drop (layer_start N k) (build N ws) i 0)
          ∙ ap (λ (x : List ℕ). get_or x i 0) (drop_layer k h)
          ∙ get_or-append (layer_of k ws) (stacked k ws) 0 i (omega (arith, length_layer k))
      go (no l) =
          word_out N (build N ws) k i (omega arith)
          ∙ sym (get_or-eq_default (layer_of k ws) 0 (omega (arith, length_layer k)))

  -- a bit of layer 0 is the word's, and a bit above tells of its word
  pub on-build : (p : ℕ) → on N (build N ws) 0 p ≡ bit (get_or ws (p / 64) 0) (p % 64)
  unfolding on layer_of
  on-build p = ap (λ (w : ℕ). bit w (p % 64)) (word-build 0 (p / 64) (omega arith))

  pub on-build_suc : (k p : ℕ) → k < top N → on N (build N ws) (suc k) p ≡ flag (word N (build N ws) k p)
  unfolding on layer_of
  on-build_suc k p h =
      ap (λ (w : ℕ). bit w (p % 64)) (word-build (suc k) (p / 64) h)
      ∙ summary-bit (layer_of k ws) p
      ∙ ap flag (sym (word-build k p (omega arith)))

  -- IT IS SOUND, if no bit stands at or past N
  pub sound_build : Kept N ws → Sound N (build N ws)
  unfolding room
  sound_build c =
      record { layers = record { inside = inside; exact = λ k q h. rw (on-build_suc k q h) (flag-on (word N (build N ws) k q)) } }
    where
      inside : (k p : ℕ) → k ≤ top N → on N (build N ws) k p ≡ 1 → p < room N k
      inside zero p h e = go (dec_lt p N)
        where
          go : Dec (p < N) → p < N
          go (yes l) = l
          go (no l) =
              let z : bit (get_or ws (p / 64) 0) (p % 64) ≡ 0 =
              bit_high (room0 N (p / 64)) (get_or ws (p / 64) 0) (p % 64) (c (p / 64)) (omega arith) in
              absurd (omega (arith, sym e ∙ on-build p ∙ z))
      inside (suc k) p h e = go (dec_lt p (layer_len N k))
        where
          go : Dec (p < layer_len N k) → p < layer_len N k
          go (yes l) = l
          go (no l) =
              absurd (omega (arith, sym e ∙ on-build_suc k p h ∙ flag_zero (word N (build N ws) k p) (word_out N (build N ws) k p (omega arith))))

  -- its words are words
  module _ (most : N ≤ max_cap) (small : Words64 ws) where
    layer_lt : (k : ℕ) → Words64 (layer_of k ws)
    unfolding layer_of
    layer_lt zero = small
    layer_lt (suc k) = chunks_lt (words (length (layer_of k ws))) (layer_of k ws)

    stacked_lt : (k : ℕ) → Words64 (stacked k ws)
    unfolding stacked
    stacked_lt zero i = omega arith
    stacked_lt (suc k) i = go (stacked_lt k (i - length (layer_of k ws))) (dec_lt i (length (layer_of k ws)))
      where
        go : get_or (stacked k ws) (i - length (layer_of k ws)) 0 < 2 ^ 64 → Dec (i < length (layer_of k ws)) → get_or (layer_of k ws ++ stacked k ws) i 0 < 2 ^ 64
        go rest (yes h) = rw (get_or-append (layer_of k ws) (stacked k ws) 0 i h) (layer_lt k i)
        go rest (no h) =
            let e : i ≡ length (layer_of k ws) + (i - length (layer_of k ws)) = omega arith in
            subst (λ (j : ℕ). get_or (layer_of k ws ++ stacked k ws) j 0 < 2 ^ 64) (sym e)
            (rw (get_or-append-add (layer_of k ws) (stacked k ws) (i - length (layer_of k ws)) 0) rest)

    pub words-build : Words64 (build N ws)
    unfolding build
    words-build zero = omega arith
    words-build (suc x) = stacked_lt (suc (top N)) x

-- the same of the whole
kept_small : (N : ℕ) (ws : List ℕ) → Kept N ws → Words64 ws
kept_small N ws k x = let l : room0 N x ≤ 64 = omega arith in omega (arith, k x, pow_mono l)

pub build_fine : (N : ℕ) (ws : List ℕ) → 1 ≤ N → N ≤ max_cap → length ws ≡ layer_len N 0 → Kept N ws → SoundStore N (build N ws)
build_fine N ws some most long k =
    record {
      is = record { some = some; most = most; names = cap-build N ws long; long = length-build N ws long some };
      words = words-build N ws long most (kept_small N ws k);
      sound = sound_build N ws long k;
    }

-- ---- SOUND STORES are exactly the stores that their layer 0 makes, with no bit at or past N

module _ (s : List ℕ) (is : StoreOf (cap s) s) (small : Words64 s) where
  -- its capacity, its layer 0, and the store that this makes
  abbrev N : ℕ
  N = cap s

  abbrev ws : List ℕ
  ws = layer0 N s

  abbrev made : List ℕ
  made = build N ws

  pub length-layer0 : length (layer0 (cap s) s) ≡ layer_len (cap s) 0
  length-layer0 = length-drop (layer_start N 0) s ∙ omega (arith, is.long, end_step N 0 (omega arith))

  pub words-layer0 : Words64 (layer0 (cap s) s)
  words-layer0 x = rw (get_or-drop (layer_start N 0) s x 0) (small (layer_start N 0 + x))

  pub word-layer0 : (q : ℕ) → get_or (layer0 (cap s) s) q 0 ≡ word (cap s) s 0 q
  word-layer0 q = go (dec_lt q (layer_len N 0))
    where
      go : Dec (q < layer_len N 0) → get_or ws q 0 ≡ word N s 0 q
      go (yes l) = get_or-drop (layer_start N 0) s q 0 ∙ sym (word_in N s 0 q l)
      go (no l) = get_or-eq_default ws 0 (omega (arith, length-layer0)) ∙ sym (word_out N s 0 q (omega arith))

  words_made : Words64 made
  words_made = words-build N ws length-layer0 is.most words-layer0

  kept_of_lem : Sound N s → Kept N ws
  unfolding room
  kept_of_lem z q =
      bits_below (room0 N q) (get_or ws q 0) (omega arith) (words-layer0 q)
      (λ b i u. off b u (λ e. omega (arith, z.layers.inside 0 (64 * q + b) (omega arith) e)))
    where
      off : (b : ℕ) → b < 64 → on N s 0 (64 * q + b) ≢ 1 → bit (get_or ws q 0) b ≡ 0
      off b u n = ap (λ (w : ℕ). bit w b) (word-layer0 q) ∙ bit-place N s 0 q b u ∙ omega (arith, on_lt N s 0 (64 * q + b))

  -- each layer is the one that was made, from layer 0 up
  layers_made : Sound N s → (k : ℕ) → k ≤ top N → (q : ℕ) → word N s k q ≡ word N made k q
  unfolding layer_of
  layers_made z zero h = λ q. sym (word-build N ws length-layer0 0 q h ∙ word-layer0 q)
  layers_made z (suc k) h =
      let ih = layers_made z k (omega arith) in
      let b = on-build_suc N ws length-layer0 k in
      words_same N s made small words_made (suc k)
      (λ p e. b p h ∙ flag_one (word N made k p) (λ w. (z.layers.exact k p h).0 e (ih p ∙ w)))
      (λ p e. (z.layers.exact k p h).1 (λ w. (flag-on (word N made k p)).0 (sym (b p h) ∙ e) (sym (ih p) ∙ w)))

  header_made : (x : ℕ) → x < header → get_or s x 0 ≡ get_or made x 0
  header_made x h =
      let e : x ≡ 0 = omega arith in
      ap (λ (y : ℕ). get_or s y 0) e ∙ sym (cap-build N ws length-layer0) ∙ sym (ap (λ (y : ℕ). get_or made y 0) e)

  pub sound_built : Sound (cap s) s ↔ ((s ≡ build (cap s) (layer0 (cap s) s)) × Kept (cap s) (layer0 (cap s) s))
  sound_built = (
    λ z. (by_layers N s made is.long (length-build N ws length-layer0 is.some) header_made (layers_made z), kept_of_lem z),
    λ e. subst (Sound N) (sym e.0) (sound_build N ws length-layer0 e.1),
  )

-- ---- THE EMPTY STORE is a store, and sound: none of its words has a bit

module _ (N : ℕ) (some : 1 ≤ N) where
  pub length-empty : length (empty N) ≡ store_len N
  length-empty = ap suc (length-replicate (store_len N - 1) 0) ∙ omega (arith, after-header N 0)

  pub store_empty : N ≤ max_cap → StoreOf N (empty N)
  store_empty most = record { some = some; most = most; names = refl; long = length-empty }

  pub word-empty : (k q : ℕ) → k ≤ top N → word N (empty N) k q ≡ 0
  word-empty k q h = go (dec_lt q (layer_len N k))
    where
      go : Dec (q < layer_len N k) → word N (empty N) k q ≡ 0
      go (no l) = word_out N (empty N) k q (omega arith)
      go (yes l) =
          let e : layer_start N k + q ≡ suc (layer_start N k + q - 1) = omega (arith, after-header N (suc k)) in
          word_in N (empty N) k q l
          ∙ ap (λ (x : ℕ). get_or (empty N) x 0) e
          ∙ get_or-replicate (store_len N - 1) (layer_start N k + q - 1) 0 0
          (omega (arith, within N k, end_step N k h, after-header N (suc k)))

  pub sound_empty : Sound N (empty N)
  unfolding on
  sound_empty =
      record {
        layers = record {
          inside = λ k p h e. absurd (omega (arith, sym e ∙ ap (λ (w : ℕ). bit w (p % 64)) (word-empty k (p / 64) h) ∙ bit_of_zero (p % 64)));
          exact = λ k q h. (
            λ e w. omega (arith, sym e ∙ ap (λ (w : ℕ). bit w (q % 64)) (word-empty (suc k) (q / 64) h) ∙ bit_of_zero (q % 64)),
            λ n. absurd (n (word-empty k q (omega arith))),
          );
        };
      }

  pub fine_empty : N ≤ max_cap → SoundStore N (empty N)
  fine_empty most = record { is = store_empty most; words = small; sound = sound_empty }
    where
      small : Words64 (empty N)
      small zero = omega arith
      small (suc x) = go (dec_lt x (store_len N - 1))
        where
          go : Dec (x < store_len N - 1) → get_or {A = ℕ} (replicate (store_len N - 1) 0) x 0 < 2 ^ 64
          go (yes l) = rw (get_or-replicate {A = ℕ} (store_len N - 1) x 0 0 l) (omega arith)
          go (no l) = rw (get_or-eq_default {A = ℕ} (replicate (store_len N - 1) 0) 0 {n = x} (omega (arith, length-replicate {A = ℕ} (store_len N - 1) 0))) (omega arith)
