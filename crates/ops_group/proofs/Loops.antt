-- A turn and the end of each loop over a group.
use mathlib.Core.Bool.{Bool, true, false, cond, not, ◌&&◌}
use mathlib.Core.List.{List}
use mathlib.Core.Logic.{◌≢◌}
use mathlib.Core.Path.{◌≡◌, refl, sym, ap, ap₂, ◌∙◌, subst}
use Prim.Native.Nat.{ℕ, zero, suc, ◌-◌, ◌%◌, ◌^◌, ◌≤◌, ◌<◌}
use native.Mathlib.Decide.{dec_lt, ℕ_discrete}
use native.Mathlib.Omega.{arith}
use borrow.Author.Tests.{eqb-true, ne_eqb}
use lib.Bits.{and_le_l}
use lib.Dec.{eqb, leb}
use lib.ListN.{length, get_or, set, take, drop, length-set}
use lib.Seq.{ext_get_or, get_or-set_same, get_or-set_other, take_all}
use Rattle.util.specs.Word.{bit, flip, change, count}
use Rattle.util.proofs.Bits.{bit_lt, bit_of_zero, bit_high, word_ext, change-same, change_other, change_lt, clear_minus}
use Rattle.util.proofs.Same.{both}
use Rattle.store.specs.Build.{flag, flags}
use Rattle.store.proofs.Build.{flags_lt, bit-flags}
use Rattle.ops_word.specs.Op.{op_word}
use Rattle.ops_group.specs.Group.{merge_named, mark_named, all, is_dense, group_words, group_over, Merging, Naming}
use Rattle.ops_group.proofs.Named.{length_named, named_here, named_off, marked_on, marked_off, marked_lt, bit-all}

-- ---- every word merged

pub merging_start : (op : ℕ) (xs ys : List ℕ) → Merging op xs ys xs 0
merging_start op xs ys = record { upto = omega arith; long = refl; new = λ i h. absurd (omega arith); old = λ i h. refl }

pub merging_turn : {op : ℕ} {xs ys zs : List ℕ} {t x : ℕ} → length xs ≡ 64 → t < 64 → Merging op xs ys zs t → x ≡ op_word op (get_or zs t 0) (get_or ys t 0)
    → Merging op xs ys (set zs t x) (suc t)
merging_turn {op} {xs} {ys} {zs} {t} {x} full l v is =
    record {
      upto = l;
      long = (simp length-set) ∙ v.long;
      new = λ i h. new i h (ℕ_discrete i t);
      old = λ i h. get_or-set_other zs t i x 0 (λ e. omega arith) ∙ v.old i (omega arith);
    }
  where
    new : (i : ℕ) → i < suc t → Dec (i ≡ t) → get_or (set zs t x) i 0 ≡ op_word op (get_or xs i 0) (get_or ys i 0)
    new i h (yes p) =
        ap (λ (y : ℕ). get_or (set zs t x) y 0) p
        ∙ get_or-set_same zs t x 0 (omega (arith, v.long))
        ∙ is
        ∙ ap (λ (y : ℕ). op_word op y (get_or ys t 0)) (v.old t (omega arith))
        ∙ sym (ap (λ (y : ℕ). op_word op (get_or xs y 0) (get_or ys y 0)) p)
    new i h (no n) = get_or-set_other zs t i x 0 n ∙ v.new i (omega arith)

pub merging_end : {op : ℕ} {xs ys zs : List ℕ} {t : ℕ} → length xs ≡ 64 → 64 ≤ t → Merging op xs ys zs t → zs ≡ merge_named op all 0 xs ys
merging_end {op} {xs} {ys} {zs} {t} full h v =
    ext_get_or 0 zs (merge_named op all 0 xs ys) (v.long ∙ sym (length_named op all 0 xs ys))
    (λ i l.
    let j : i < 64 = omega (arith, v.long) in
    v.new i (omega arith) ∙ sym (named_here op all xs ys i (omega (arith, v.long)) (bit-all i j)))

-- ---- the summary of a group

pub flags_whole : (l : List ℕ) {w : ℕ} → length l ≡ 64 → w ≡ flags (take 64 (drop 0 l)) → w ≡ flags l
flags_whole l {w} full e = e ∙ ap flags (take_all 64 l (omega arith))

-- the word above a group that was merged whole
pub marked_all : (zs : List ℕ) (w : ℕ) → length zs ≡ 64 → mark_named all zs w ≡ flags zs
marked_all zs w full =
    word_ext (mark_named all zs w) (flags zs) (marked_lt all zs w (omega arith)) (subst (λ (n : ℕ). flags zs < 2 ^ n) full (flags_lt zs))
    (λ i h. marked_on all zs w i (omega arith) h (bit-all i h) ∙ sym (bit-flags zs i))

-- ---- the words that are named, one by one

pub naming_start : (op : ℕ) (xs ys : List ℕ) (w m : ℕ) → w < 2 ^ 64 → m < 2 ^ 64 → Naming op xs ys w m xs w m
naming_start op xs ys w m h g = record { few = g; small = h; long = refl; words = refl; over = refl }

-- the flag of a word as the code has it
flag_is : (z : ℕ) → ◌≡◌ {A = ℕ} (cond (not (eqb z 0)) 1 0) (flag z)
flag_is z = go (eqb z 0)
  where
    go : (b : Bool) → ◌≡◌ {A = ℕ} (cond (not b) 1 0) (cond b 0 1)
    go true = refl
    go false = refl

module _ {op : ℕ} {xs ys : List ℕ} {w m : ℕ} {zs : List ℕ} {v n : ℕ} (h : Naming op xs ys w m zs v n) where
  module _ (t : ℕ) (l : t < 64) (on : bit n t ≡ 1) where
    -- the word, the group, the word above and what is still named, after the turn
    abbrev x : ℕ
    x = op_word op (get_or zs t 0) (get_or ys t 0)

    abbrev us : List ℕ
    us = set zs t x

    abbrev z : ℕ
    z = get_or us t 0

    abbrev v' : ℕ
    v' = change (not (eqb z 0)) v t

    abbrev n' : ℕ
    n' = change false n t

    few' : n' < 2 ^ 64
    few' = change_lt false n t l h.few

    off : bit n' t ≡ 0
    off = change-same false n t l

    rest : (i : ℕ) → i ≢ t → bit n' i ≡ bit n i
    rest i ne = go (dec_lt i 64)
      where
        go : Dec (i < 64) → bit n' i ≡ bit n i
        go (yes g) = change_other false n t l i g ne
        go (no g) = bit_high 64 n' i few' (omega arith) ∙ sym (bit_high 64 n i h.few (omega arith))

    same-words : merge_named op n' 0 us ys ≡ merge_named op n 0 zs ys
    same-words =
        ext_get_or 0 (merge_named op n' 0 us ys) (merge_named op n 0 zs ys) (length_named op n' 0 us ys ∙ length-set zs t x ∙ sym (length_named op n 0 zs ys))
        (λ i g.
        let k : i < length zs = omega (arith, length_named op n' 0 us ys, length-set zs t x) in
        at i k (ℕ_discrete i t))
      where
        at : (i : ℕ) → i < length zs → Dec (i ≡ t) → get_or (merge_named op n' 0 us ys) i 0 ≡ get_or (merge_named op n 0 zs ys) i 0
        at i k (yes p) =
            subst (λ (y : ℕ). get_or (merge_named op n' 0 us ys) y 0 ≡ get_or (merge_named op n 0 zs ys) y 0) (sym p)
            (let g : t < length zs = omega arith in
            named_off op n' us ys t off ∙ get_or-set_same zs t x 0 g ∙ sym (named_here op n zs ys t g on))
        at i k (no ne) = go (bit n i) refl
          where
            old : get_or us i 0 ≡ get_or zs i 0
            old = get_or-set_other zs t i x 0 ne

            go : (b : ℕ) → bit n i ≡ b → get_or (merge_named op n' 0 us ys) i 0 ≡ get_or (merge_named op n 0 zs ys) i 0
            go zero e = named_off op n' us ys i (rest i ne ∙ e) ∙ old ∙ sym (named_off op n zs ys i e)
            go (suc b) e =
                let o : bit n i ≡ 1 = omega (arith, bit_lt n i) in
                named_here op n' us ys i (omega (arith, length-set zs t x)) (rest i ne ∙ o)
                ∙ ap (λ (y : ℕ). op_word op y (get_or ys i 0)) old ∙ sym (named_here op n zs ys i k o)

    abbrev Z : List ℕ
    Z = merge_named op m 0 xs ys

    here : get_or Z t 0 ≡ z
    here = ap (λ (q : List ℕ). get_or q t 0) (sym (same-words ∙ h.words)) ∙ named_off op n' us ys t off

    same_over : mark_named n' Z v' ≡ mark_named n Z v
    same_over =
        word_ext (mark_named n' Z v') (mark_named n Z v) (marked_lt n' Z v' few') (marked_lt n Z v h.few) (λ i g. at i g (ℕ_discrete i t))
      where
        at : (i : ℕ) → i < 64 → Dec (i ≡ t) → bit (mark_named n' Z v') i ≡ bit (mark_named n Z v) i
        at i g (yes p) =
            subst (λ (y : ℕ). bit (mark_named n' Z v') y ≡ bit (mark_named n Z v) y) (sym p)
            (marked_off n' Z v' t few' l off ∙ change-same (not (eqb z 0)) v t l ∙ flag_is z ∙ ap flag (sym here)
            ∙ sym (marked_on n Z v t h.few l on))
        at i g (no ne) = go (bit n i) refl
          where
            go : (b : ℕ) → bit n i ≡ b → bit (mark_named n' Z v') i ≡ bit (mark_named n Z v) i
            go zero e =
                marked_off n' Z v' i few' g (rest i ne ∙ e) ∙ change_other (not (eqb z 0)) v t l i g ne
                ∙ sym (marked_off n Z v i h.few g e)
            go (suc b) e =
                let o : bit n i ≡ 1 = omega (arith, bit_lt n i) in
                marked_on n' Z v' i few' g (rest i ne ∙ o) ∙ sym (marked_on n Z v i h.few g o)

    turned : Naming op xs ys w m us v' n'
    turned =
        record {
          few = few';
          small = change_lt (not (eqb z 0)) v t l h.small;
          long = length-set zs t x ∙ h.long;
          words = same-words ∙ h.words;
          over = same_over ∙ h.over;
        }

  -- as the code has it
  pub naming_turn : {t : ℕ} {ts : List ℕ} {r v₁ n₁ : ℕ} → t < 64 → bit n t ≡ 1 → ts ≡ set zs t (op_word op (get_or zs t 0) (get_or ys t 0)) → r ≡ get_or ts t 0
      → v₁ ≡ change (not (eqb r 0)) v (t % 64) → n₁ ≡ change false n (t % 64) → Naming op xs ys w m ts v₁ n₁
  naming_turn {t} {ts} {r} {v₁} {n₁} l on ts-is r-is v-is n-is =
      let q : t % 64 ≡ t = omega arith in
      let rz : r ≡ get_or (set zs t (op_word op (get_or zs t 0) (get_or ys t 0))) t 0 = r-is ∙ ap (λ (y : List ℕ). get_or y t 0) ts-is in
      let X : List ℕ = set zs t (op_word op (get_or zs t 0) (get_or ys t 0)) in
      let W : ℕ = change (not (eqb (get_or X t 0) 0)) v t in
      let ev : v₁ ≡ W = v-is ∙ ap₂ (λ (a b : ℕ). change (not (eqb a 0)) v b) rz q in
      let en : n₁ ≡ change false n t = n-is ∙ ap (change false n) q in
      subst (λ (y : ℕ). Naming op xs ys w m ts y n₁) (sym ev)
      (subst (λ (y : ℕ). Naming op xs ys w m ts W y) (sym en)
      (subst (λ (y : List ℕ). Naming op xs ys w m y W (change false n t)) (sym ts-is) (turned t l on)))

  pub naming_words : n ≡ 0 → zs ≡ merge_named op m 0 xs ys
  naming_words e =
      ext_get_or 0 zs (merge_named op m 0 xs ys) (h.long ∙ sym (length_named op m 0 xs ys))
      (λ i l. sym (named_off op n zs ys i (ap (λ (y : ℕ). bit y i) e ∙ bit_of_zero i)) ∙ ap (λ (q : List ℕ). get_or q i 0) h.words)

  pub naming_over : n ≡ 0 → v ≡ mark_named m (merge_named op m 0 xs ys) w
  naming_over e =
      word_ext v (mark_named n (merge_named op m 0 xs ys) v) h.small (marked_lt n (merge_named op m 0 xs ys) v h.few)
      (λ i l. sym (marked_off n (merge_named op m 0 xs ys) v i h.few l (ap (λ (y : ℕ). bit y i) e ∙ bit_of_zero i)))
      ∙ h.over

-- the lowest word is taken off, as the code has it
pub taken_off : {n n₁ t : ℕ} → n < 2 ^ 64 → t < 64 → bit n t ≡ 1 → n₁ ≡ n - 2 ^ t → n₁ ≡ change false n (t % 64)
unfolding change
taken_off {n} {n₁} {t} h l on e = let q : t ≡ t % 64 = omega arith in e ∙ sym (clear_minus n t h l on) ∙ ap (change false n) q

-- each turn leaves less
pub less-left : {n n₁ t : ℕ} → t < 64 → bit n t ≡ 1 → n₁ ≡ change false n (t % 64) → n₁ < n
unfolding change
less-left {n} {n₁} {t} l on e =
    let q : t % 64 ≡ t = omega arith in
    let ne : change false n t ≢ n = λ z. omega (arith, on, ap (λ (x : ℕ). bit x t) z, change-same false n t l) in
    omega (arith, e ∙ ap (change false n) q, and_le_l n (flip (2 ^ t)))

-- ---- the two ways out of `group`

pub dense_long : (n l m : ℕ) → is_dense n l m ≡ true → (n ≡ 64) × (l ≡ 64)
unfolding is_dense
dense_long n l m e =
    let a = both (eqb n 64) (eqb l 64 && leb 12 (count m)) e in
    let b = both (eqb l 64) (leb 12 (count m)) a.1 in
    (eqb-true n 64 a.0, eqb-true l 64 b.0)

module _ (op : ℕ) (xs ys : List ℕ) (w m : ℕ) (zs : List ℕ) where
  pub dense_out : (r : ℕ) → is_dense (length xs) (length ys) m ≡ true → zs ≡ merge_named op all 0 xs ys → r ≡ flags zs
      → (zs ≡ group_words op xs ys m) × (r ≡ group_over op xs ys w m)
  unfolding group_words group_over
  dense_out r d e f =
      rw d (
        e,
        f ∙ sym (marked_all zs w (ap length e ∙ length_named op all 0 xs ys ∙ (dense_long (length xs) (length ys) m d).0))
            ∙ ap (λ (q : List ℕ). mark_named all q w) e,
      )

  pub sparse_out : (v : ℕ) → is_dense (length xs) (length ys) m ≡ false → zs ≡ merge_named op m 0 xs ys → v ≡ mark_named m (merge_named op m 0 xs ys) w
      → (zs ≡ group_words op xs ys m) × (v ≡ group_over op xs ys w m)
  unfolding group_words group_over
  sparse_out v d e f = rw d (e, f)

-- a group that is not full is not dense
pub short_sparse : (n l m : ℕ) → n ≢ 64 → is_dense n l m ≡ false
unfolding is_dense
short_sparse n l m h = rw (ne_eqb n 64 h) refl
