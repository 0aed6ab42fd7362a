-- The loop over the words under a word, as the code has it: its start, its turn and its end.
use mathlib.Core.Bool.{false, not}
use mathlib.Core.List.{List}
use mathlib.Core.Logic.{◌≢◌}
use mathlib.Core.Path.{◌≡◌, refl, sym, ap, ap₂, ◌∙◌, subst}
use Prim.Native.Nat.{ℕ, suc, ◌+◌, ◌-◌, ◌*◌, ◌/◌, ◌%◌, ◌^◌, ◌≤◌, ◌<◌, min}
use native.Mathlib.Decide.{dec_lt}
use native.Mathlib.Omega.{arith}
use borrow.Rule.Slice.PartMut.{mid_of, put_mid, put_same, same_len_mid, mid_len}
use lib.Dec.{eqb}
use lib.ListN.{length, get_or, set, take, drop, length-set}
use lib.Pow.{pow_mono, pow-add}
use lib.Seq.{set_out}
use Rattle.util.specs.Word.{bit, change}
use Rattle.util.proofs.Bits.{change_lt}
use Rattle.store.specs.Layout.{header, top, layer_len, layer_start, end_of, start_from, StoreOf}
use Rattle.store.specs.Word.{word, put}
use Rattle.store.proofs.Ends.{part, start_is}
use Rattle.store.proofs.Geometry.{store_kept}
use Rattle.store.proofs.Inside.{end_inside}
use Rattle.store.proofs.Parts.{part_set}
use Rattle.store.proofs.TopLayer.{top_high}
use Rattle.store.proofs.Words.{header-put}
use Rattle.ops_word.specs.Op.{decider}
use Rattle.ops_merge.specs.Tree.{Exact, ToldMerge, Along, Level, MergeAt}
use Rattle.ops_merge.proofs.Leaf.{GroupSpot}
use Rattle.ops_merge.proofs.Tree.{exact_move, along_start, told_under, MergeStepped, merge_stepped, before, turned}

pub level_start : (N op : ℕ) (s b : List ℕ) (k j w m : ℕ) → m < 2 ^ 64 → Level N op s b k j w m s w m
level_start N op s b k j w m h = record { few = h; long = refl; head = λ x g. refl; along = along_start N op s b k j w m }

pub level_end : {N op : ℕ} {s b : List ℕ} {k j w₀ m₀ : ℕ} {t : List ℕ} {w m : ℕ} → m ≡ 0 → Level N op s b k j w₀ m₀ t w m → Level N op s b k j w₀ m₀ t w 0
level_end {N} {op} {s} {b} {k} {j} {w₀} {m₀} {t} {w} e v = subst (λ (y : ℕ). Level N op s b k j w₀ m₀ t w y) e v

-- the layer's number is 0
pub ask_zero : {s b : List ℕ} {N k j : ℕ} → k ≡ 0 → MergeAt s b N k j → MergeAt s b N 0 j
ask_zero {s} {b} {N} {k} {j} e z = subst (λ (y : ℕ). MergeAt s b N y j) e z

pub level_zero : {N op : ℕ} {s b : List ℕ} {k j w₀ m₀ : ℕ} {t : List ℕ} {w m : ℕ} → k ≡ 0 → Level N op s b 0 j w₀ m₀ t w m → Level N op s b k j w₀ m₀ t w m
level_zero {N} {op} {s} {b} {k} {j} {w₀} {m₀} {t} {w} {m} e v = subst (λ (y : ℕ). Level N op s b y j w₀ m₀ t w m) (sym e) v

-- places stay far below the largest number
pub places_few : (N k : ℕ) → 2 ^ (6 * (top N - k)) ≤ 2 ^ 36
places_few N k = let h : 6 * (top N - k) ≤ 36 = omega (arith, top_high N) in pow_mono h

-- the layer as the part from a to e of both stores
module _ {s b : List ℕ} {N k j : ℕ} (z : MergeAt s b N k j) {a e : ℕ} (a_is : a ≡ start_from (length s) N k) (e_is : e ≡ end_of N k) where
  start : a ≡ layer_start N k
  start = a_is ∙ start_is z.first k

  size : e ≡ a + layer_len N k
  size = e_is ∙ (part z.first k z.known).ends ∙ (part z.first k z.known).size ∙ ap (λ (y : ℕ). y + layer_len N k) (sym start)

module _ {N op : ℕ} {s b : List ℕ} {k j w₀ m₀ : ℕ} {t : List ℕ} {w m : ℕ} (z : MergeAt s b N k j) (v : Level N op s b k j w₀ m₀ t w m) where
  pub store_here : StoreOf N t
  store_here = store_kept z.first v.long (v.head 0 (omega arith))

  pub ask_child : {c i : ℕ} → k ≢ 0 → i < 64 → c ≡ j * 64 + i → MergeAt t b N (k - 1) c
  ask_child {c} {i} some l e =
      let f : 6 * (top N - (k - 1)) ≡ 6 * (top N - k) + 6 = omega (arith, z.known) in
      record {
        first = store_here;
        second = z.second;
        known = omega (arith, z.known);
        small = subst (λ (y : ℕ). c < y) (sym (ap (λ (y : ℕ). 2 ^ y) f ∙ pow-add 2 (6 * (top N - k)) 6)) (omega (arith, z.small));
      }

  module _ {a e : ℕ} (a_is : a ≡ start_from (length s) N k) (e_is : e ≡ end_of N k) where
    pub inside_both : (u : List ℕ) → StoreOf N u → e ≤ length u
    inside_both u y = omega (arith, e_is, end_inside y z.known)

    pub layer_word : (u : List ℕ) (c : ℕ) → get_or (mid_of a (e - a) u) c 0 ≡ word N u k c
    unfolding word
    layer_word u c =
        let n : e - a ≡ layer_len N k = omega (arith, size z a_is e_is) in
        ap₂ (λ (x y : ℕ). get_or (take x (drop y u)) c 0) n (start z a_is e_is)

    -- A TURN: word c of the layer and all under it are done
    module _ {c i : ℕ} (some : k ≢ 0) (l : i < 64) (on : bit m i ≡ 1) (c_is : c ≡ j * 64 + i) {x y r : ℕ} {t' ys : List ℕ}
        (x-is : x ≡ get_or (mid_of a (e - a) t) c 0) (y-is : y ≡ decider op x (get_or (mid_of a (e - a) b) c 0))
        (inner : Level N op t b (k - 1) c x y t' r 0) (ys-is : ys ≡ set (mid_of a (e - a) t') c r) where
      abbrev u : List ℕ
      u = put_mid a (e - a) t' ys

      there : StoreOf N t'
      there = store_kept store_here inner.long (inner.head 0 (omega arith))

      in_there : e ≤ length t'
      in_there = inside_both t' there

      written : c < layer_len N k → u ≡ put N t' k c r
      unfolding put
      written h = part_set a e c r t' ys (omega (arith, size z a_is e_is)) in_there ys-is ∙ ap (λ (q : ℕ). set t' (q + c) r) (start z a_is e_is)

      passed : layer_len N k ≤ c → u ≡ t'
      passed h =
          ap (put_mid a (e - a) t') (ys-is ∙ set_out (mid_of a (e - a) t') c r (omega (arith, mid_len a e t' in_there, size z a_is e_is)))
          ∙ put_same a (e - a) t'

      long_u : length u ≡ length t'
      long_u = same_len_mid a (e - a) t' ys (ap length ys-is ∙ length-set (mid_of a (e - a) t') c r)

      head_u : (q : ℕ) → q < header → get_or u q 0 ≡ get_or t' q 0
      head_u q g = go (dec_lt c (layer_len N k))
        where
          go : Dec (c < layer_len N k) → get_or u q 0 ≡ get_or t' q 0
          go (yes h) = ap (λ (o : List ℕ). get_or o q 0) (written h) ∙ header-put N t' k c r q g
          go (no h) = ap (λ (o : List ℕ). get_or o q 0) (passed (omega arith))

      here : c / 64 ≡ j
      here = omega arith

      rest : c % 64 ≡ i
      rest = omega arith

      left : bit m (c % 64) ≡ 1
      left = ap (bit m) rest ∙ on

      up : suc (k - 1) ≡ k
      up = omega arith

      -- under what was told, word c is done
      step : ToldMerge N op s b k j w₀ m₀ → MergeStepped N op t b k c u r
      step told =
          let f : c < layer_len N k = (v.along told).inside c here left in
          subst (λ (o : List ℕ). MergeStepped N op t b k c o r) (sym (written f))
          (subst (λ (q : ℕ). MergeStepped N op t b q c (put N t' q c r) r) up
          (merge_stepped N op t b (k - 1) c t' r there.long (omega (arith, z.known)) (subst (λ (q : ℕ). c < layer_len N q) (sym up) f)
          (inner.along (subst (λ (q : ℕ). ToldMerge N op t b (k - 1) c q y) (sym x_word)
          (subst (λ (q : ℕ). ToldMerge N op t b (k - 1) c (word N t (suc (k - 1)) c) q) (sym y_word) (told_under N op t b (k - 1) c first second))))))
        where
          x_word : x ≡ word N t (suc (k - 1)) c
          x_word = x-is ∙ layer_word t c ∙ ap (λ (q : ℕ). word N t q c) (sym up)

          y_word : y ≡ decider op (word N t (suc (k - 1)) c) (word N b (suc (k - 1)) c)
          y_word = y-is ∙ ap₂ (decider op) x_word (layer_word b c ∙ ap (λ (q : ℕ). word N b q c) (sym up))

          first : Exact N t (suc (k - 1)) c
          first = subst (λ (q : ℕ). Exact N t q c) (sym up)
              (exact_move N s t k c (before N op s b k j c t w m z.known here left (v.along told)) (told.first c here))

          second : Exact N b (suc (k - 1)) c
          second = subst (λ (q : ℕ). Exact N b q c) (sym up) (told.second c here)

      pub level_turn : {w' m' : ℕ} → w' ≡ change (not (eqb r 0)) w (i % 64) → m' ≡ change false m (i % 64)
          → Level N op s b k j w₀ m₀ (put_mid a (e - a) t' ys) w' m'
      level_turn {w'} {m'} ew em =
          let q : i % 64 ≡ c % 64 = omega (arith, rest) in
          let fw : w' ≡ change (not (eqb r 0)) w (c % 64) = ew ∙ ap (change (not (eqb r 0)) w) q in
          let fm : m' ≡ change false m (c % 64) = em ∙ ap (change false m) q in
          record {
            few = subst (λ (o : ℕ). o < 2 ^ 64) (sym fm) (change_lt false m (c % 64) (omega arith) v.few);
            long = long_u ∙ inner.long ∙ v.long;
            head = λ o g. head_u o g ∙ inner.head o g ∙ v.head o g;
            along = λ told.
                subst (λ (o : ℕ). Along N op s b k j u o m') (sym fw)
                (subst (λ (o : ℕ). Along N op s b k j u (change (not (eqb r 0)) w (c % 64)) o) (sym fm)
                (turned N op s b k j c t w m z.known here left (v.along told) u r (step told)));
          }

-- ---- the group of layer 0 under word j

module _ {s b : List ℕ} {N j : ℕ} (z : MergeAt s b N 0 j) where
  pub spot_here : {a e f : ℕ} → f ≡ start_from (length s) N 0 → a ≡ min (f + j * 64) (length s) → e ≡ min (a + 64) (length s) → GroupSpot N s j a e
  spot_here {a} {e} {f} g h i = record { from = h ∙ ap (λ (x : ℕ). min (x + j * 64) (length s)) (g ∙ start_is z.first 0); upto = i }

  pub both_long : length b ≡ length s
  both_long = z.second.long ∙ sym z.first.long
