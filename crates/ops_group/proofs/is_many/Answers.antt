-- `is_many` meets its contract: three steps that leave nothing are three set bits or fewer.
use Rattle.std.proofs.Common.{◌≡◌, ℕ, ◌-◌, ◌^◌, ◌<◌, ◌≤◌, leb, sym, ap, ◌∙◌, arith}
use Rattle.std.specs.Int.Count.{count_trailing_zeros}
use borrow.Author.Tests.{lt-leb}
use Rattle.util.specs.Word.{count}
use Rattle.util.proofs.Count.{count_ones}
use Rattle.util.proofs.Places.{count_none, count_less}
use Rattle.ops_group.proofs.is_many.Goals as goal

few : (m : ℕ) {a b r : ℕ} → m < 2 ^ 64 → a ≡ m - 2 ^ count_trailing_zeros 64 m → b ≡ a - 2 ^ count_trailing_zeros 64 a → r ≡ b - 2 ^ count_trailing_zeros 64 b
    → r ≡ 0 → count m ≤ 3
few m {a} {b} {r} h a_is b_is r-is e =
    omega (
      arith,
      ap count a_is ∙ count_less m h,
      ap count b_is ∙ count_less a (omega arith),
      ap count r-is ∙ count_less b (omega arith),
      (count_none r (omega arith)).0 e,
    )

pub returns-then-drop_lowest-ne0 : goal.returns-then-drop_lowest-ne0
returns-then-drop_lowest-ne0 c = sym (ap (leb 12) (count_ones c.args.m c.ranges.m.fits))

pub returns-else-drop_lowest-ne0 : goal.returns-else-drop_lowest-ne0
returns-else-drop_lowest-ne0 c =
    let h = few c.args.m c.ranges.m.fits c.drop_lowest.ensures c.drop_lowest-2.ensures c.drop_lowest-3.ensures c.if-drop_lowest-ne0.false in
    rw c.if-drop_lowest-ne0.false (sym (lt-leb 12 (count c.args.m) (omega (arith, h))))
