-- The laws of the words under a word: what is not named is done already, and a child's turn.
use mathlib.Core.Bool.{Bool, true, false, cond, not}
use mathlib.Core.List.{List}
use mathlib.Core.Logic.{◌≢◌, ◌↔◌}
use mathlib.Core.Path.{◌≡◌, refl, sym, ap, ap₂, ◌∙◌, subst}
use Prim.Native.Nat.{ℕ, zero, suc, ◌+◌, ◌/◌, ◌%◌, ◌≤◌, ◌<◌}
use native.Mathlib.Decide.{dec_lt, ℕ_discrete}
use native.Mathlib.Omega.{arith}
use borrow.Author.Tests.{eqb-true, eqb-false}
use lib.Dec.{eqb}
use lib.ListN.{length}
use Rattle.util.specs.Word.{bit, change}
use Rattle.util.proofs.Bits.{bit_of_zero, change-same, change_other}
use Rattle.store.specs.Layout.{top, layer_len, store_len}
use Rattle.store.specs.Word.{word, on, anc, put}
use Rattle.store.proofs.Words.{word_out, word-put-same, word-put_other, on-put-same}
use Rattle.ops_word.specs.Op.{op_word, decider}
use Rattle.ops_word.proofs.Laws.{op_still}
use Rattle.ops_merge.specs.Tree.{Exact, ToldMerge, Done, Child, Along}

pub anc_half : (p d : ℕ) → anc (p / 64) d ≡ anc p (suc d)
unfolding anc
anc_half p zero = refl
anc_half p (suc d) = ap (λ (x : ℕ). x / 64) (anc_half p d)

-- the bit at place p of a layer
pub on_is : (N : ℕ) (s : List ℕ) (k p : ℕ) → on N s k p ≡ bit (word N s k (p / 64)) (p % 64)
unfolding on
on_is N s k p = refl

-- a word that is not 0 is a word of the layer
pub some_in : (N : ℕ) (s : List ℕ) (k q : ℕ) → word N s k q ≢ 0 → q < layer_len N k
some_in N s k q n = go (dec_lt q (layer_len N k))
  where
    go : Dec (q < layer_len N k) → q < layer_len N k
    go (yes l) = l
    go (no m) = absurd (n (word_out N s k q (omega arith)))

module _ (N : ℕ) (s : List ℕ) where
  -- all words under a word that is 0 are 0
  zero_under : (k j : ℕ) → Exact N s k j → word N s k j ≡ 0 → (d l q : ℕ) → l + d ≡ k → anc q d ≡ j → word N s l q ≡ 0
  unfolding anc
  zero_under k j f z zero l q e a = ap₂ (word N s) (omega arith) a ∙ z
  zero_under k j f z (suc d) l q e a =
      go (zero_under k j f z d (suc l) (q / 64) (omega arith) (anc_half q d ∙ a)) (ℕ_discrete (word N s l q) 0)
    where
      go : word N s (suc l) (q / 64) ≡ 0 → Dec (word N s l q ≡ 0) → word N s l q ≡ 0
      go above (yes p) = p
      go above (no n) =
          absurd (omega (arith, on_is N s (suc l) q ∙ ap (λ (w : ℕ). bit w (q % 64)) above ∙ bit_of_zero (q % 64), (f.is l d q e a).1 n))

  exact_child : (k j c : ℕ) → c / 64 ≡ j → Exact N s (suc k) j → Exact N s k c
  unfolding anc
  exact_child k j c h f = record { is = λ l d p e a. f.is l (suc d) p (omega arith) (ap (λ (x : ℕ). x / 64) a ∙ h) }

  -- a bit of a word tells of its child
  child_flag : (k j c : ℕ) → c / 64 ≡ j → Exact N s (suc k) j → (bit (word N s (suc k) j) (c % 64) ≡ 1) ↔ (word N s k c ≢ 0)
  unfolding anc
  child_flag k j c h f =
      let e : on N s (suc k) c ≡ bit (word N s (suc k) j) (c % 64) = on_is N s (suc k) c ∙ ap (λ (x : ℕ). bit (word N s (suc k) x) (c % 64)) h in
      let i = f.is k 0 c (omega arith) h in
      ((λ o. i.0 (e ∙ o)), λ n. sym e ∙ i.1 n)

  child_off : (k j c : ℕ) → c / 64 ≡ j → Exact N s (suc k) j → bit (word N s (suc k) j) (c % 64) ≡ 0 → word N s k c ≡ 0
  child_off k j c h f z = go (ℕ_discrete (word N s k c) 0)
    where
      go : Dec (word N s k c ≡ 0) → word N s k c ≡ 0
      go (yes p) = p
      go (no n) = absurd (omega (arith, z, (child_flag k j c h f).1 n))

  child_in : (k j c : ℕ) → c / 64 ≡ j → Exact N s (suc k) j → bit (word N s (suc k) j) (c % 64) ≡ 1 → c < layer_len N k
  child_in k j c h f o = some_in N s k c ((child_flag k j c h f).0 o)

  -- what holds of the words under a word holds where they are the same
  pub exact_move : (t : List ℕ) (k j : ℕ) → ((d l q : ℕ) → l + d ≡ k → anc q d ≡ j → word N t l q ≡ word N s l q) → Exact N s k j → Exact N t k j
  unfolding anc
  exact_move t k j same f =
      record {
        is = λ l d p e a.
            let i = f.is l d p e a in
            let o = on_same l d p e a in
            let w = same (suc d) l p e a in
            ((λ x z. i.0 (sym o ∙ x) (sym w ∙ z)), λ n. o ∙ i.1 (λ z. n (w ∙ z)));
      }
    where
      on_same : (l d p : ℕ) → l + suc d ≡ k → anc p (suc d) ≡ j → on N t (suc l) p ≡ on N s (suc l) p
      on_same l d p e a =
          on_is N t (suc l) p
          ∙ ap (λ (w : ℕ). bit w (p % 64)) (same d (suc l) (p / 64) (omega arith) (anc_half p d ∙ a))
          ∙ sym (on_is N s (suc l) p)

module _ (N op : ℕ) (s b : List ℕ) where
  -- what is not moved is done already
  still : (k j : ℕ) → decider op (word N s k j) (word N b k j) ≡ 0 → Exact N s k j → Exact N b k j → Done N op s b k j s
  unfolding decider
  still k j z f g = record { low = λ q a. sym (op_still op (word N s 0 q) (word N b 0 q) (go (eqb op 16) z q a)); exact = f }
    where
      go : (p : Bool) → cond p (word N s k j) (word N b k j) ≡ 0 → (q : ℕ) → anc q k ≡ j → cond p (word N s 0 q) (word N b 0 q) ≡ 0
      go true h q a = zero_under N s k j f h k 0 q (omega arith) a
      go false h q a = zero_under N b k j g h k 0 q (omega arith) a

  -- before the first turn
  pub along_start : (k j w m : ℕ) → ToldMerge N op s b k j w m → Along N op s b k j s w m
  along_start k j w m z =
      record {
        kept = λ l q h n. refl;
        inside = z.inside;
        done = λ c h e. record { flag = z.flagged c h e; is = still k c (z.idle c h e) (z.first c h) (z.second c h) };
      }

  -- what is told of the words under a word whose summaries are exact
  pub told_under : (k c : ℕ) → Exact N s (suc k) c → Exact N b (suc k) c
      → ToldMerge N op s b k c (word N s (suc k) c) (decider op (word N s (suc k) c) (word N b (suc k) c))
  unfolding decider
  told_under k c f g =
      record {
        first = λ i h. exact_child N s k c i h f;
        second = λ i h. exact_child N b k c i h g;
        inside = λ i h. inside i h (eqb op 16);
        flagged = λ i h e. child_flag N s k c i h f;
        idle = λ i h. idle i h (eqb op 16);
      }
    where
      inside : (i : ℕ) → i / 64 ≡ c → (p : Bool) → bit (cond p (word N s (suc k) c) (word N b (suc k) c)) (i % 64) ≡ 1 → i < layer_len N k
      inside i h true o = child_in N s k c i h f o
      inside i h false o = child_in N b k c i h g o

      idle : (i : ℕ) → i / 64 ≡ c → (p : Bool) → bit (cond p (word N s (suc k) c) (word N b (suc k) c)) (i % 64) ≡ 0
          → cond p (word N s k i) (word N b k i) ≡ 0
      idle i h true z = child_off N s k c i h f z
      idle i h false z = child_off N b k c i h g z

-- ---- one word of layer k + 1 with all that stands under it, when that is done and the word is written

pub record MergeStepped (N op : ℕ) (s b : List ℕ) (k c : ℕ) (u : List ℕ) (r : ℕ) : Type 0 where
  pub kept : (l q : ℕ) → l ≤ top N → ((d : ℕ) → l + d ≡ k → anc q d ≡ c → ⊥) → word N u l q ≡ word N s l q
  pub result : r ≡ word N u k c
  pub done : Done N op s b k c u

module _ (N op : ℕ) (s b : List ℕ) (k c : ℕ) (t : List ℕ) (r : ℕ) (long : length t ≡ store_len N) (known : suc k ≤ top N) (fits : c < layer_len N (suc k))
    (v : Along N op s b k c t r 0) where
  abbrev u : List ℕ
  u = put N t (suc k) c r

  under_same : (d l q : ℕ) → l + d ≡ k → word N u l q ≡ word N t l q
  under_same d l q e = word-put_other N t long (suc k) c r known fits l q (omega arith) (λ z a. omega arith)

  each : (i : ℕ) → i / 64 ≡ c → Child N op s b k i t r
  each i h = v.done i h (bit_of_zero (i % 64))

  exact_under : (i : ℕ) → i / 64 ≡ c → Exact N u k i
  exact_under i h = exact_move N t u k i (λ d l q e a. under_same d l q e) (each i h).is.exact

  exact_here : (l d p : ℕ) → l + suc d ≡ suc k → anc p (suc d) ≡ c → (on N u (suc l) p ≡ 1) ↔ (word N u l p ≢ 0)
  unfolding anc
  exact_here l zero p e a =
      let q : k ≡ l = omega arith in
      subst (λ (y : ℕ). (on N u (suc y) p ≡ 1) ↔ (word N u y p ≢ 0)) q
      (rw (on-put-same N t long (suc k) c r known fits p a, under_same 0 k p (omega arith)) (each p a).flag)
  exact_here l (suc d) p e a = (exact_under (anc p (suc d)) a).is l d p (omega arith) refl

  pub merge_stepped : MergeStepped N op s b (suc k) c (put N t (suc k) c r) r
  unfolding anc
  merge_stepped =
      record {
        kept = λ l q h n.
            word-put_other N t long (suc k) c r known fits l q h (λ e a. n 0 (omega arith) a)
            ∙ v.kept l q h (λ d e a z. n (suc d) (omega arith) a);
        result = sym (word-put-same N t long (suc k) c r known fits);
        done =
            record {
              low = λ q a. under_same k 0 q (omega arith) ∙ (each (anc q k) a).is.low q refl;
              exact = record { is = exact_here };
            };
      }

-- ---- a child's turn

-- the words under a child that is left are as at the start
module _ (N op : ℕ) (s b : List ℕ) (k j c : ℕ) (t : List ℕ) (w m : ℕ) (known : k ≤ top N) (here : c / 64 ≡ j) (left : bit m (c % 64) ≡ 1)
    (v : Along N op s b k j t w m) where
  pub before : (d l q : ℕ) → l + d ≡ k → anc q d ≡ c → word N t l q ≡ word N s l q
  unfolding anc
  before d l q e a = v.kept l q (omega arith) other
    where
      other : (d' : ℕ) → l + d' ≡ k → anc q (suc d') ≡ j → bit m (anc q d' % 64) ≡ 0 → ⊥
      other d' e' a' z =
          let same : d' ≡ d = omega arith in
          let p : anc q d' ≡ c = ap (anc q) same ∙ a in
          omega (arith, left, sym (ap (λ (y : ℕ). bit m (y % 64)) p) ∙ z)

  module _ (u : List ℕ) (r : ℕ) (x : MergeStepped N op t b k c u r) where
    -- the word above and what is left, after the turn
    abbrev w' : ℕ
    w' = change (not (eqb r 0)) w (c % 64)

    abbrev m' : ℕ
    m' = change false m (c % 64)

    off : bit m' (c % 64) ≡ 0
    off = change-same false m (c % 64) (omega arith)

    -- words under another child are not changed
    after : (i : ℕ) → i ≢ c → (d l q : ℕ) → l + d ≡ k → anc q d ≡ i → word N u l q ≡ word N t l q
    after i n d l q e a = x.kept l q (omega arith) (λ d' e' a'. let same : d ≡ d' = omega arith in n (sym a ∙ ap (anc q) same ∙ a'))

    gone : (y : ℕ) → bit m (y % 64) ≡ 0 → bit m' (y % 64) ≡ 0
    gone y z = go (ℕ_discrete (y % 64) (c % 64))
      where
        go : Dec (y % 64 ≡ c % 64) → bit m' (y % 64) ≡ 0
        go (yes p) = ap (bit m') p ∙ off
        go (no n) = change_other false m (c % 64) (omega arith) (y % 64) (omega arith) n ∙ z

    flag_here : (bit w' (c % 64) ≡ 1) ↔ (word N u k c ≢ 0)
    flag_here = rw (change-same (not (eqb r 0)) w (c % 64) (omega arith)) (go (eqb r 0) refl)
      where
        go : (p : Bool) → eqb r 0 ≡ p → (◌≡◌ {A = ℕ} (cond (not p) 1 0) 1) ↔ (word N u k c ≢ 0)
        go true e = ((λ z. absurd (omega arith)), λ n. absurd (n (sym x.result ∙ eqb-true r 0 e)))
        go false e = ((λ z q. eqb-false r 0 e (x.result ∙ q)), λ n. refl)

    child_here : Child N op s b k c u w'
    child_here =
        record {
          flag = flag_here;
          is =
              record {
                low = λ q a. x.done.low q a ∙ ap (λ (y : ℕ). op_word op y (word N b 0 q)) (before k 0 q (omega arith) a);
                exact = x.done.exact;
              };
        }

    child_other : (i : ℕ) → i / 64 ≡ j → i ≢ c → bit m' (i % 64) ≡ 0 → Child N op s b k i u w'
    unfolding anc
    child_other i h n z =
        let far : i % 64 ≢ c % 64 = λ e. n (omega arith) in
        let old = v.done i h (sym (change_other false m (c % 64) (omega arith) (i % 64) (omega arith) far) ∙ z) in
        let same_w : bit w' (i % 64) ≡ bit w (i % 64) = change_other (not (eqb r 0)) w (c % 64) (omega arith) (i % 64) (omega arith) far in
        let same-u : word N u k i ≡ word N t k i = after i n 0 k i (omega arith) refl in
        record {
          flag = rw (same_w, same-u) old.flag;
          is =
              record {
                low = λ q a. after i n k 0 q (omega arith) a ∙ old.is.low q a;
                exact = exact_move N t u k i (after i n) old.is.exact;
              };
        }

    pub turned : Along N op s b k j u (change (not (eqb r 0)) w (c % 64)) (change false m (c % 64))
    unfolding anc
    turned =
        record {
          kept = λ l q h n.
              x.kept l q h (λ d e a. n d e (ap (λ (y : ℕ). y / 64) a ∙ here) (ap (λ (y : ℕ). bit m' (y % 64)) a ∙ off))
              ∙ v.kept l q h (λ d e a z. n d e a (gone (anc q d) z));
          inside = λ i h z. v.inside i h (stays i z (ℕ_discrete (i % 64) (c % 64)));
          done = λ i h z. which i h z (ℕ_discrete i c);
        }
      where
        stays : (i : ℕ) → bit m' (i % 64) ≡ 1 → Dec (i % 64 ≡ c % 64) → bit m (i % 64) ≡ 1
        stays i z (yes p) = absurd (omega (arith, z, ap (bit m') p ∙ off))
        stays i z (no n) = sym (change_other false m (c % 64) (omega arith) (i % 64) (omega arith) n) ∙ z

        which : (i : ℕ) → i / 64 ≡ j → bit m' (i % 64) ≡ 0 → Dec (i ≡ c) → Child N op s b k i u w'
        which i h z (yes p) = subst (λ (y : ℕ). Child N op s b k y u w') (sym p) child_here
        which i h z (no n) = child_other i h n z
