-- Words that hold no prefix.
use mathlib.Core.Bool.{Bool, true, false}
use mathlib.Core.List.{List}
use mathlib.Core.Path.{◌≡◌, refl}
use Prim.Native.Nat.{ℕ, zero, suc, ◌+◌, ◌^◌, ◌≤◌, ◌<◌}
use native.Mathlib.Omega.{arith}
use lib.ListN.{get_or}
use Rattle.store.specs.Layout.{top_most, top, cap, is_store}
use Rattle.store.proofs.TopLayer.{top_is}
use Rattle.walk.specs.Calls.{fits, refused, next_in}
use Rattle.walk.proofs.Cursors.{fine_of}
use Rattle.export_cursor.specs.Ten.{prefix_of, cursor_of}

-- the prefix of a word past 32 bits
wide_prefix : (l : List ℕ) (k : ℕ) → k < top_most → 2 ^ 32 ≤ get_or l (5 + k) 0 → get_or (cursor_of l).prefix k 0 ≡ 4294967295
unfolding cursor_of prefix_of
wide_prefix l zero h w = omega arith
wide_prefix l (suc zero) h w = omega arith
wide_prefix l (suc (suc zero)) h w = omega arith
wide_prefix l (suc (suc (suc k))) h w = absurd (omega arith)

-- A word that is no 32-bit number is refused as any other number that is no prefix: after refusal 2, with 7.
pub wide_refused : (s l : List ℕ) (b k : ℕ) → is_store s ≡ true → k < top_most → 2 ^ 32 ≤ get_or l (5 + k) 0 → next_in s (cursor_of l) b ≡ refused 7 (cursor_of l)
unfolding next_in
wide_refused s l b k h j w = go (fits (top (cap s)) (cursor_of l)) refl
  where
    go : (x : Bool) → fits (top (cap s)) (cursor_of l) ≡ x → next_in s (cursor_of l) b ≡ refused 7 (cursor_of l)
    go true e =
        let f = fine_of (top (cap s)) (cursor_of l).prefix e k (omega (arith, j, top_is (cap s))) in
        absurd (omega (arith, f.0, wide_prefix l k j w))
    go false e = rw (h, e)
