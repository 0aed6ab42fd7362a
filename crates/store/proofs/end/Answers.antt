-- `store::end` meets its contract: each layer's end is a sum of plain divisions.
use Rattle.std.proofs.Common.{◌≡◌, ℕ, suc, ◌+◌, ◌%◌, ◌^◌, refl, arith}
use Rattle.store.specs.Layout.{folded}
use Rattle.store.proofs.Ends.{end_at, end_above, end3, end2, end1, end0}
use Rattle.store.proofs.end.Goals as goal

-- the number that is taken for n
taken : {n : ℕ} (m : ℕ) → (m + 1) % 2 ^ 64 ≡ n → suc (m % 16777216) ≡ folded n
taken m e = omega (arith, e)

pub returns-in-0 : goal.returns-in-0
returns-in-0 c = end_at _ _ _ (taken _ c.wrapping_sub_u64.ensures.value) _ 0 (end0 _) c.in-0.is

pub returns-in-1 : goal.returns-in-1
returns-in-1 c = end_at _ _ _ (taken _ c.wrapping_sub_u64.ensures.value) _ 1 (end1 _) c.in-1.is

pub returns-in-2 : goal.returns-in-2
returns-in-2 c = end_at _ _ _ (taken _ c.wrapping_sub_u64.ensures.value) _ 2 (end2 _) c.in-2.is

pub returns-in-3 : goal.returns-in-3
returns-in-3 c = end_at _ _ _ (taken _ c.wrapping_sub_u64.ensures.value) _ 3 (end3 _) c.in-3.is

pub returns-in_default : goal.returns-in_default
returns-in_default c =
    let k = c.args.k in
    end_at _ _ _ (taken _ c.wrapping_sub_u64.ensures.value) _ k (λ m. end_above _ m k (omega arith)) refl
