-- The whole: of two sound stores every word is told of at the top, and what is done under the top word is the merged store.
use mathlib.Core.List.{List, [], ◌∷◌, zip_with}
use mathlib.Core.Logic.{◌≢◌, ◌↔◌}
use mathlib.Core.Path.{◌≡◌, refl, sym, ap, ap₂, ◌∙◌, subst}
use Prim.Native.Nat.{ℕ, zero, suc, ◌+◌, ◌-◌, ◌/◌, ◌%◌, ◌^◌, ◌≤◌, ◌<◌}
use native.Mathlib.Decide.{dec_lt, ℕ_discrete}
use native.Mathlib.Omega.{arith}
use lib.ListN.{length, get_or}
use lib.Seq.{ext_get_or}
use Rattle.util.specs.Word.{bit}
use Rattle.util.proofs.Bits.{bit_of_zero, bit_high, bit_pow_same, bit_pow_other}
use Rattle.store.specs.Build.{build, layer0, room0, Kept}
use Rattle.store.specs.Layout.{top, max_cap, room, layer_len, cap, StoreOf}
use Rattle.store.specs.Word.{word, on, anc, SoundLayers, Sound, Words64, SoundStore}
use Rattle.store.proofs.Build.{length-layer0, word-layer0, sound_built}
use Rattle.store.proofs.TopLayer.{top_one}
use Rattle.store.proofs.Words.{word_out, place_in}
use Rattle.ops_word.specs.Op.{op_word, decider}
use Rattle.ops_word.proofs.Laws.{op_none, op_lt, moved_none}
use Rattle.ops_merge.specs.Tree.{ToldMerge, Done}
use Rattle.ops_merge.proofs.Tree.{anc_half, on_is, some_in}

-- ---- two lists word by word

pub length-zip : (op : ℕ) (xs ys : List ℕ) → length ys ≡ length xs → length (zip_with (op_word op) xs ys) ≡ length xs
unfolding zip_with
length-zip op [] ys e = refl
length-zip op (x ∷ xs) [] e = absurd (omega arith)
length-zip op (x ∷ xs) (y ∷ ys) e = ap suc (length-zip op xs ys (omega arith))

pub get_d_zip : (op : ℕ) (xs ys : List ℕ) (i : ℕ) → length ys ≡ length xs → get_or (zip_with (op_word op) xs ys) i 0 ≡ op_word op (get_or xs i 0) (get_or ys i 0)
unfolding zip_with
get_d_zip op [] [] i e = sym (op_none op)
get_d_zip op [] (y ∷ ys) i e = absurd (omega arith)
get_d_zip op (x ∷ xs) [] i e = absurd (omega arith)
get_d_zip op (x ∷ xs) (y ∷ ys) zero e = refl
get_d_zip op (x ∷ xs) (y ∷ ys) (suc i) e = get_d_zip op xs ys i (omega arith)

-- ---- the top layer has one word, and every word stands under it

anc-room : (N p d l k : ℕ) → l + d ≡ k → p < room N l → anc p d < room N k
unfolding anc
anc-room N p zero l k e h = let q : l ≡ k = omega arith in subst (λ (x : ℕ). p < room N x) q h
anc-room N p (suc d) l zero e h = absurd (omega arith)
anc-room N p (suc d) l (suc k) e h = place_in N k (anc p d) (anc-room N p d l k (omega arith) h)

module _ (N op : ℕ) (s b : List ℕ) (some : 1 ≤ N) (most : N ≤ max_cap) where
  under_top : (l d q : ℕ) → l + d ≡ top N → q < layer_len N l → anc q d ≡ 0
  under_top l d q e h = omega (arith, anc-room N q d (suc l) (suc (top N)) (omega arith) h, top_one N some most)

  -- WHAT IS TOLD at the top
  pub top-told : SoundLayers N s → SoundLayers N b → ToldMerge N op s b (top N) 0 0 1
  top-told zs zb =
      record {
        first = λ c h. record { is = λ l d p e a. zs.exact l p (omega arith) };
        second = λ c h. record { is = λ l d p e a. zb.exact l p (omega arith) };
        inside = λ c h o. omega (arith, top_one N some most, first c h o (ℕ_discrete (c % 64) 0));
        flagged = λ c h z. ((λ o. absurd (omega (arith, o, bit_of_zero (c % 64)))), λ n. absurd (n (none s c h z)));
        idle = λ c h z. ap₂ (decider op) (none s c h z) (none b c h z) ∙ moved_none op;
      }
    where
      first : (c : ℕ) → c / 64 ≡ 0 → bit 1 (c % 64) ≡ 1 → Dec (c % 64 ≡ 0) → c ≡ 0
      first c h o (yes p) = omega arith
      first c h o (no n) = absurd (omega (arith, o, bit_pow_other 0 (c % 64) n))

      none : (u : List ℕ) (c : ℕ) → c / 64 ≡ 0 → bit 1 (c % 64) ≡ 0 → word N u (top N) c ≡ 0
      none u c h z = go (ℕ_discrete (c % 64) 0)
        where
          go : Dec (c % 64 ≡ 0) → word N u (top N) c ≡ 0
          go (yes p) = absurd (omega (arith, sym z ∙ ap (bit 1) p ∙ bit_pow_same 0))
          go (no n) = word_out N u (top N) c (omega (arith, top_one N some most))

  -- WHAT IS DONE
  module _ (t : List ℕ) (d : Done N op s b (top N) 0 t) where
    low_all : (q : ℕ) → word N t 0 q ≡ op_word op (word N s 0 q) (word N b 0 q)
    low_all q = go (dec_lt q (layer_len N 0))
      where
        go : Dec (q < layer_len N 0) → word N t 0 q ≡ op_word op (word N s 0 q) (word N b 0 q)
        go (yes l) = d.low q (under_top 0 (top N) q (omega arith) l)
        go (no l) =
            let o : layer_len N 0 ≤ q = omega arith in
            word_out N t 0 q o ∙ sym (op_none op) ∙ sym (ap₂ (op_word op) (word_out N s 0 q o) (word_out N b 0 q o))

    exact_all : (k q : ℕ) → k < top N → (on N t (suc k) q ≡ 1) ↔ (word N t k q ≢ 0)
    unfolding room
    exact_all k q h = go (dec_lt (q / 64) (layer_len N (suc k)))
      where
        go : Dec (q / 64 < layer_len N (suc k)) → (on N t (suc k) q ≡ 1) ↔ (word N t k q ≢ 0)
        go (yes l) =
            let n = top N - suc k in
            d.exact.is k n q (omega arith) (sym (anc_half q n) ∙ under_top (suc k) n (q / 64) (omega arith) l)
        go (no l) =
            let z = on_is N t (suc k) q ∙ ap (λ (x : ℕ). bit x (q % 64)) (word_out N t (suc k) (q / 64) (omega arith)) ∙ bit_of_zero (q % 64) in
            ((λ o. absurd (omega (arith, z))), λ n. absurd (n (word_out N t k q (omega arith))))

-- ---- a store's layer 0, by its capacity

module _ {N : ℕ} {u : List ℕ} (z : StoreOf N u) (small : Words64 u) where
  named : StoreOf (cap u) u
  named = subst (λ (n : ℕ). StoreOf n u) (sym z.names) z

  pub long_low : length (layer0 N u) ≡ layer_len N 0
  long_low = subst (λ (n : ℕ). length (layer0 n u) ≡ layer_len n 0) z.names (length-layer0 u named small)

  pub word_low : (q : ℕ) → get_or (layer0 N u) q 0 ≡ word N u 0 q
  word_low q = subst (λ (n : ℕ). get_or (layer0 n u) q 0 ≡ word n u 0 q) z.names (word-layer0 u named small q)

  pub built : Sound N u ↔ ((u ≡ build N (layer0 N u)) × Kept N (layer0 N u))
  built = subst (λ (n : ℕ). Sound n u ↔ ((u ≡ build n (layer0 n u)) × Kept n (layer0 n u))) z.names (sound_built u named small)

-- ---- THE MERGED STORE of two sound stores

module _ {N : ℕ} (op : ℕ) {s b : List ℕ} (is : StoreOf N s) (ib : StoreOf N b) (ws : Words64 s) (wb : Words64 b) where
  abbrev low : List ℕ
  low = zip_with (op_word op) (layer0 N s) (layer0 N b)

  same_long : length (layer0 N b) ≡ length (layer0 N s)
  same_long = long_low ib wb ∙ sym (long_low is ws)

  pub long_merged : length (zip_with (op_word op) (layer0 N s) (layer0 N b)) ≡ layer_len N 0
  long_merged = length-zip op (layer0 N s) (layer0 N b) same_long ∙ long_low is ws

  pub word_merged : (q : ℕ) → get_or (zip_with (op_word op) (layer0 N s) (layer0 N b)) q 0 ≡ op_word op (word N s 0 q) (word N b 0 q)
  word_merged q = get_d_zip op (layer0 N s) (layer0 N b) q same_long ∙ ap₂ (op_word op) (word_low is ws q) (word_low ib wb q)

  module _ (zs : Sound N s) (zb : Sound N b) where
    pub kept_merged : Kept N (zip_with (op_word op) (layer0 N s) (layer0 N b))
    kept_merged q =
        subst (λ (x : ℕ). x < 2 ^ room0 N q) (sym (get_d_zip op (layer0 N s) (layer0 N b) q same_long))
        (op_lt op (room0 N q) (get_or (layer0 N s) q 0) (get_or (layer0 N b) q 0) (((built is ws).0 zs).1 q) (((built ib wb).0 zb).1 q))

    -- a store in which all is done under the top word is the merged one
    module _ (t : List ℕ) (it : StoreOf N t) (wt : Words64 t) (d : Done N op s b (top N) 0 t) where
      done_low : (q : ℕ) → word N t 0 q ≡ get_or (zip_with (op_word op) (layer0 N s) (layer0 N b)) q 0
      done_low q = low_all N op s b is.some is.most t d q ∙ sym (word_merged q)

      done_inside : (k p : ℕ) → k ≤ top N → on N t k p ≡ 1 → p < room N k
      unfolding room
      done_inside zero p h o = go (dec_lt p N)
        where
          go : Dec (p < N) → p < N
          go (yes l) = l
          go (no l) =
              let z : bit (word N t 0 (p / 64)) (p % 64) ≡ 0 =
              bit_high (room0 N (p / 64)) (word N t 0 (p / 64)) (p % 64)
              (subst (λ (x : ℕ). x < 2 ^ room0 N (p / 64)) (sym (done_low (p / 64))) (kept_merged (p / 64))) (omega arith) in
              absurd (omega (arith, sym o ∙ on_is N t 0 p ∙ z))
      done_inside (suc k) p h o = some_in N t k p ((exact_all N op s b is.some is.most t d k p h).0 o)

      done_layers : SoundLayers N t
      done_layers = record { inside = done_inside; exact = exact_all N op s b is.some is.most t d }

      done_fine : SoundStore N t
      done_fine = record { is = it; words = wt; sound = record { layers = done_layers } }

      pub done_merged : t ≡ build N (zip_with (op_word op) (layer0 N s) (layer0 N b))
      done_merged =
          ((built it wt).0 done_fine.sound).0
          ∙ ap (build N)
          (ext_get_or 0 (layer0 N t) low (long_low it wt ∙ sym long_merged) (λ q l. word_low it wt q ∙ done_low q))
