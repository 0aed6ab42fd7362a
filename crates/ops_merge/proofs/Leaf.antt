-- A group of layer 0, lent to be merged and back, is the words under a word of layer 1 done.
use mathlib.Core.List.{List}
use mathlib.Core.Logic.{◌≢◌, ◌↔◌}
use mathlib.Core.Path.{◌≡◌, refl, sym, ap, ap₂, ◌∙◌, subst}
use Prim.Native.Nat.{ℕ, ◌+◌, ◌-◌, ◌*◌, ◌/◌, ◌%◌, ◌^◌, ◌≤◌, ◌<◌, min}
use native.Mathlib.Decide.{dec_lt}
use native.Mathlib.Omega.{arith}
use borrow.Rule.Slice.PartMut.{mid_of, put_mid, same_len_mid, mid_len}
use lib.ListN.{length, get_or, get_or-eq_default}
use Rattle.util.specs.Word.{bit}
use Rattle.util.proofs.Bits.{bit_of_zero}
use Rattle.store.specs.Layout.{header, top, layer_len, layer_start, StoreOf}
use Rattle.store.specs.Word.{word, anc}
use Rattle.store.proofs.Geometry.{end_step, same_place, after-header}
use Rattle.store.proofs.Parts.{part_word}
use Rattle.store.proofs.Words.{word_in, word_out}
use Rattle.ops_word.specs.Op.{op_word, decider}
use Rattle.ops_group.specs.Group.{merge_named, mark_named, group_words, group_over}
use Rattle.ops_group.proofs.Loops.{sparse_out, short_sparse}
use Rattle.ops_group.proofs.Named.{length_group, words_at, over_at}
use Rattle.ops_merge.specs.Tree.{ToldMerge, Level}
use Rattle.ops_merge.proofs.Parts.{put_in, put_out}

-- where the group stands in a store: behind the groups before it, and as far as the store goes
pub record GroupSpot (N : ℕ) (s : List ℕ) (j a e : ℕ) : Type 0 where
  pub from : a ≡ min (layer_start N 0 + j * 64) (length s)
  pub upto : e ≡ min (a + 64) (length s)

module _ {N : ℕ} {s : List ℕ} {j a e : ℕ} (z : StoreOf N s) (x : GroupSpot N s j a e) where
  -- layer 0 ends where the store does
  last : length s ≡ layer_start N 0 + layer_len N 0
  last = z.long ∙ end_step N 0 (omega arith)

  pub low_high : (a ≤ e) × (e ≤ length s)
  low_high = omega (arith, x.from, x.upto)

  -- word c of layer 0 is word c % 64 of its group
  pub spot_word : (u : List ℕ) → length u ≡ length s → (c : ℕ) → c / 64 ≡ j → get_or (mid_of a (e - a) u) (c % 64) 0 ≡ word N u 0 c
  spot_word u long c h = go (dec_lt c (layer_len N 0))
    where
      go : Dec (c < layer_len N 0) → get_or (mid_of a (e - a) u) (c % 64) 0 ≡ word N u 0 c
      go (yes l) =
          let q : a + c % 64 ≡ layer_start N 0 + c = omega (arith, x.from, last) in
          part_word a e (c % 64) u (omega (arith, x.from, x.upto, last))
          ∙ ap (λ (y : ℕ). get_or u y 0) q ∙ sym (word_in N u 0 c l)
      go (no l) =
          get_or-eq_default (mid_of a (e - a) u) 0 (omega (arith, x.from, x.upto, last, mid_len a e u (omega (arith, low_high))))
          ∙ sym (word_out N u 0 c (omega arith))

  module _ (ys : List ℕ) (long : length ys ≡ length (mid_of a (e - a) s)) where
    abbrev t : List ℕ
    t = put_mid a (e - a) s ys

    size : length ys ≡ e - a
    size = long ∙ mid_len a e s low_high.1

    pub put_long : length (put_mid a (e - a) s ys) ≡ length s
    put_long = same_len_mid a (e - a) s ys long

    pub put-head : (i : ℕ) → i < header → get_or (put_mid a (e - a) s ys) i 0 ≡ get_or s i 0
    put-head i h =
        put_out a e s ys low_high.0 low_high.1 size i (λ f g. omega (arith, x.from, x.upto, after-header N 1, last))

    pub put_word : (c : ℕ) → c / 64 ≡ j → word N (put_mid a (e - a) s ys) 0 c ≡ get_or ys (c % 64) 0
    put_word c h = go (dec_lt c (layer_len N 0))
      where
        go : Dec (c < layer_len N 0) → word N t 0 c ≡ get_or ys (c % 64) 0
        go (yes l) =
            let q : layer_start N 0 + c ≡ a + c % 64 = omega (arith, x.from, last) in
            word_in N t 0 c l ∙ ap (λ (y : ℕ). get_or t y 0) q
            ∙ put_in a e s ys low_high.0 low_high.1 size (c % 64) (omega (arith, x.from, x.upto, last))
        go (no l) =
            word_out N t 0 c (omega arith) ∙ sym (get_or-eq_default ys 0 (omega (arith, x.from, x.upto, last, size)))

    pub put_other : (l q : ℕ) → l ≤ top N → (l ≡ 0 → q / 64 ≡ j → ⊥) → word N (put_mid a (e - a) s ys) l q ≡ word N s l q
    put_other l q h n = go (dec_lt q (layer_len N l))
      where
        go : Dec (q < layer_len N l) → word N t l q ≡ word N s l q
        go (yes p) =
            word_in N t l q p
            ∙ put_out a e s ys low_high.0 low_high.1 size (layer_start N l + q)
            (λ f g.
            let r = layer_start N l + q - layer_start N 0 in
            let y = same_place N l 0 q r h (omega arith) p (omega (arith, x.from, x.upto, last)) (omega (arith, x.from, last)) in
            n y.0 (omega (arith, y.1, x.from, x.upto, last)))
            ∙ sym (word_in N s l q p)
        go (no p) =
            let o : layer_len N l ≤ q = omega arith in
            word_out N t l q o ∙ sym (word_out N s l q o)

  -- THE GROUP: all its words are done
  module _ (op : ℕ) (b : List ℕ) (w m : ℕ) (few : m < 2 ^ 64) (same : length b ≡ length s) where
    abbrev xs : List ℕ
    xs = mid_of a (e - a) s

    abbrev bs : List ℕ
    bs = mid_of a (e - a) b

    long_bs : length bs ≤ length xs
    long_bs = omega (arith, mid_len a e s low_high.1, mid_len a e b (omega (arith, low_high)))

    pub level_leaves : {ys : List ℕ} {r : ℕ} → ys ≡ group_words op (mid_of a (e - a) s) (mid_of a (e - a) b) m
        → r ≡ group_over op (mid_of a (e - a) s) (mid_of a (e - a) b) w m → Level N op s b 0 j w m (put_mid a (e - a) s ys) r 0
    unfolding anc
    level_leaves {ys} {r} is over =
        record {
          few = omega arith;
          long = put_long ys long;
          head = put-head ys long;
          along = λ told.
              record {
                kept = λ l q h n. put_other ys long l q h (λ f g. n 0 (omega arith) g (bit_of_zero (q % 64)));
                inside = λ c h o. absurd (omega (arith, bit_of_zero (c % 64)));
                done = λ c h off.
                    record {
                      flag = flag told c h;
                      is =
                          record {
                            low = λ q g. subst (λ (y : ℕ). word N (put_mid a (e - a) s ys) 0 y ≡ op_word op (word N s 0 y) (word N b 0 y)) (sym g) (low told c h);
                            exact = record { is = λ l d p f. absurd (omega arith) };
                          };
                    };
              };
        }
      where
        long : length ys ≡ length xs
        long = ap length is ∙ length_group op xs bs w m few

        at : (c : ℕ) → c / 64 ≡ j → word N (put_mid a (e - a) s ys) 0 c ≡ get_or (group_words op xs bs m) (c % 64) 0
        at c h = put_word ys long c h ∙ ap (λ (l : List ℕ). get_or l (c % 64) 0) is

        low : ToldMerge N op s b 0 j w m → (c : ℕ) → c / 64 ≡ j → word N (put_mid a (e - a) s ys) 0 c ≡ op_word op (word N s 0 c) (word N b 0 c)
        low told c h =
            let f = spot_word s refl c h in
            let g = spot_word b same c h in
            at c h
            ∙ words_at op xs bs w m few (c % 64) (omega arith) long_bs (λ q. ap₂ (decider op) f g ∙ told.idle c h q)
            ∙ ap₂ (op_word op) f g

        flag : ToldMerge N op s b 0 j w m → (c : ℕ) → c / 64 ≡ j → (bit r (c % 64) ≡ 1) ↔ (word N (put_mid a (e - a) s ys) 0 c ≢ 0)
        flag told c h =
            rw (over, at c h) (over_at op xs bs w m few (c % 64) (omega arith) (λ q. rw (spot_word s refl c h) (told.flagged c h q)))

    -- the same of a group that is not full
    pub level_short : {ys : List ℕ} {r : ℕ} → e < a + 64 → ys ≡ merge_named op m 0 (mid_of a (e - a) s) (mid_of a (e - a) b)
        → r ≡ mark_named m (merge_named op m 0 (mid_of a (e - a) s) (mid_of a (e - a) b)) w → Level N op s b 0 j w m (put_mid a (e - a) s ys) r 0
    level_short {ys} {r} l is over =
        let o = sparse_out op xs bs w m ys r (short_sparse (length xs) (length bs) m (λ z. omega (arith, z, mid_len a e s low_high.1))) is over in
        level_leaves o.0 o.1
