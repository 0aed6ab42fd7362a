-- `average::average_ones` meets its contract: the search starts at the whole word, each `descend` halves the field, and the last
-- comparison leaves one bit.
-- ---- the count, and the start of the search
use mathlib.Core.Path.{◌≡◌, refl, sym, ap, ◌∙◌}
use Prim.Native.Nat.{ℕ, suc, ◌+◌, ◌-◌, ◌*◌, ◌/◌, ◌^◌, ◌<◌}
use native.Mathlib.Omega.{arith}
use lib.Arith.{digits_div}
use lib.Bits.{bit_and}
use lib.Count.{ones, ones-le}
use lib.Dec.{T, ltb, leb, lit<, ltb→lt, leb→le}
use lib.Pow.{shr_lt}
use Rattle.average.specs.Search.{tally, bits_above, InRange, HalfStep}
use Rattle.average.specs.declared.Search.{Search}
use Rattle.average.proofs.Average.{found, none_found, above_none, above_all}
use Rattle.average.proofs.Tally.{lower, twice, by_one_mask, tally-bits, tally_whole, mask_widens, field_lt}
use Rattle.average.proofs.average_ones.Goals as goal
use Rattle.average.proofs.average_ones.Goals.{Else-count-le1, After-descend, After-descend-2, After-descend-3, After-descend-4, After-descend-s}

abbrev counted : ℕ → ℕ
counted e = bit_and (e + e / 4294967296) 0xffff_ffff

abbrev whole : ℕ → Search
whole e = record { result = 64; target = counted e / 2; cur = e / 4294967296 }

module _ (n e : ℕ) (word : n < 2 ^ 64) (is : e ≡ tally 32 2 n) where
  count_is : counted e ≡ ones n
  unfolding lower twice
  count_is = ap (by_one_mask 32 1) is ∙ mask_widens 32 (lit< tt) 1 n ∙ tally_whole 64 n word

  cur_is : e / 2 ^ 32 ≡ bits_above n 32
  unfolding tally
  cur_is =
      ap (λ (x : ℕ). x / 2 ^ 32) is ∙ digits_div (tally 32 1 (n / 2 ^ 32)) (field_lt 32 n)
      ∙ tally_whole 32 (n / 2 ^ 32) (shr_lt 32 32 word)

  small : e < 2 ^ 63
  small = omega (arith, cur_is, ones-le 32 (n / 2 ^ 32) (shr_lt 32 32 word))

  start : 1 < counted e → InRange n (ones n / 2) 32 (whole e)
  start h =
      record {
        field = 0;
        aligned = refl;
        inside = omega arith;
        target_is = omega (arith, above_none n word, count_is);
        target_pos = omega arith;
        cur_is = omega (arith, above_none n word, cur_is);
        reach = omega (arith, above_all n word);
      }

-- what `descend` asks, from where the search stands
step : (n t k m q : ℕ) {s : Search} {child mask : ℕ} → InRange n t (k + k) s → child ≡ tally k m n
    → T (ltb 0 k) → m * k ≡ 64 → mask ≡ 2 ^ q - 1 → T (ltb k (2 ^ q)) → T (leb q k) → HalfStep n t s child k mask
step n t k m q w i s a e g l =
    record {
      from = w;
      some = ltb→lt 0 k s;
      fields = m;
      whole = a;
      child_is = i;
      bits = q;
      mask_is = e;
      wide = ltb→lt k (2 ^ q) g;
      narrow = leb→le q k l;
    }

pub overflow_add-count : goal.overflow_add-count
overflow_add-count c =
    let e = c.count_fields-l in
    record { fits = omega (arith, small c.args.n e.result.e c.ranges.n.fits e.ensures.e_is) }

pub returns-then-count-le1 : goal.returns-then-count-le1
returns-then-count-le1 c =
    let n : ℕ = c.args.n in
    let e = c.count_fields-l in
    let word : n < 2 ^ 64 = c.ranges.n.fits in
    none_found n word (omega (arith, count_is n e.result.e word e.ensures.e_is, c.if-count-le1.true))

-- the bit that is looked for, counted from the top
abbrev half : ℕ → ℕ
half n = ones n / 2

-- what each step asks, by the step before it
ask16 : (c : Else-count-le1) → let l = c.count_fields-l.result in HalfStep c.args.n (half c.args.n) (whole l.e) l.d 16 255
ask16 c =
    let l = c.count_fields-l in
    step _ _ 16 4 8 (start c.args.n l.result.e c.ranges.n.fits l.ensures.e_is c.if-count-le1.false) l.ensures.d_is tt refl refl tt tt

ask8 : (c : After-descend) → HalfStep c.args.n (half c.args.n) c.descend.result c.count_fields-l.result.c 8 15
ask8 c = step _ _ 8 8 4 (c.descend.ensures _ _ (ask16 c.before)) c.count_fields-l.ensures.c_is tt refl refl tt tt

ask4 : (c : After-descend-2) → HalfStep c.args.n (half c.args.n) c.descend-2.result c.count_fields-l.result.b 4 7
ask4 c = step _ _ 4 16 3 (c.descend-2.ensures _ _ (ask8 c.before)) c.count_fields-l.ensures.b_is tt refl refl tt tt

ask2 : (c : After-descend-3) → HalfStep c.args.n (half c.args.n) c.descend-3.result c.count_fields-l.result.a 2 3
ask2 c = step _ _ 2 32 2 (c.descend-3.ensures _ _ (ask4 c.before)) c.count_fields-l.ensures.a_is tt refl refl tt tt

ask1 : (c : After-descend-4) → HalfStep c.args.n (half c.args.n) c.descend-4.result c.args.n 1 1
ask1 c = step _ _ 1 64 1 (c.descend-4.ensures _ _ (ask2 c.before)) (sym (tally-bits 64 c.args.n c.ranges.n.fits)) tt refl refl tt tt

-- where the search ends: two bits are left
last : (c : After-descend-s) → InRange c.args.n (half c.args.n) 1 c.descend-s.result
last c = c.descend-s.ensures _ _ (ask1 c.before)

pub descend-requires : goal.descend-requires
descend-requires c = (_, _, ask16 c)

pub descend-requires-2 : goal.descend-requires-2
descend-requires-2 c = (_, _, ask8 c)

pub descend-requires-3 : goal.descend-requires-3
descend-requires-3 c = (_, _, ask4 c)

pub descend-requires-4 : goal.descend-requires-4
descend-requires-4 c = (_, _, ask2 c)

pub descend-s-requires : goal.descend-s-requires
descend-s-requires c = (_, _, ask1 c)

pub overflow_sub-result : goal.overflow_sub-result
overflow_sub-result c = omega (arith, (last (goal.at.overflow_sub-result c).After-descend-s).aligned)

pub overflow_sub-result-else-s : goal.overflow_sub-result-else-s
overflow_sub-result-else-s c = omega (arith, (last (goal.at.overflow_sub-result-else-s c).After-descend-s).aligned)

-- a place of which the bits above are too few and those from it on enough is the answer
pub returns-then-s : goal.returns-then-s
returns-then-s c =
    let a = last (goal.at.returns-then-s c).After-descend-s in
    let n : ℕ = c.args.n in
    let r : ℕ = c.descend-s.result.result in
    let e : suc (r - 2) ≡ r - 1 = omega (arith, a.aligned) in
    found n c.ranges.n.fits (r - 2) (omega (arith, a.aligned, a.inside)) (omega (arith, ap (bits_above n) e, a.cur_is, a.target_is, c.if-s.true)) a.reach

pub returns-else-s : goal.returns-else-s
returns-else-s c =
    let a = last (goal.at.returns-else-s c).After-descend-s in
    let n : ℕ = c.args.n in
    let r : ℕ = c.descend-s.result.result in
    let e : suc (r - 1) ≡ r = omega (arith, a.aligned) in
    found n c.ranges.n.fits (r - 1) (omega (arith, a.aligned, a.inside)) (omega (arith, ap (bits_above n) e, a.target_is, a.target_pos))
    (omega (arith, a.cur_is, a.target_is, c.if-s.false))
