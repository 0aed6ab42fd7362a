-- The binary search down the counts: one step, over the stride.
use mathlib.Core.Path.{◌≡◌, sym, ap, ap₂, ◌∙◌, subst}
use Prim.Native.Nat.{ℕ, suc, ◌+◌, ◌-◌, ◌*◌, ◌/◌, ◌%◌, ◌^◌, ◌≤◌, ◌<◌}
use native.Mathlib.Nat.{suc-mul, add-mul, mul-add, lt_of_not-le, mul-le-mul_right, not-le_of_lt}
use native.Mathlib.Omega.{arith}
use lib.Bits.{bit_and}
use lib.Count.{ones}
use Rattle.average.specs.Search.{tally, bits_above, InRange, HalfStep}
use Rattle.average.specs.declared.Search.{Search}
use Rattle.average.proofs.Tally.{above_split, field_masked}

module _ (n t : ℕ) (s : Search) (child k mask : ℕ) (g : HalfStep n t s child k mask) where
  -- the child's field below place r, where r is suc f times k + k, has the count of the upper half
  upper : (r f : ℕ) → r ≡ suc f * (k + k) → r ≤ 64 → bits_above n r + bit_and (child / 2 ^ (r - k)) mask ≡ bits_above n (r - k)
  upper r f e l =
      let i : ℕ = suc (f + f) in
      let at : r ≡ i * k + k = e ∙ omega (arith, mul-add (suc f) k k, suc-mul f k, suc-mul (f + f) k, add-mul f f k) in
      let below : r - k ≡ i * k = omega arith in
      let inside : i < g.fields =
      lt_of_not-le (λ (b : g.fields ≤ i). not-le_of_lt g.some (omega (arith, g.whole, mul-le-mul_right k b))) in
      let taken : bit_and (child / 2 ^ (r - k)) mask ≡ ones (n / 2 ^ (i * k) % 2 ^ k) =
      ap₂ (λ (x y : ℕ). bit_and (x / 2 ^ (r - k)) y) g.child_is g.mask_is
      ∙ ap (λ (x : ℕ). bit_and (tally k g.fields n / 2 ^ x) (2 ^ g.bits - 1)) below
      ∙ field_masked k g.fields i n g.bits inside g.narrow g.wide in
      ap₂ (λ (x y : ℕ). bits_above n x + y) at taken ∙ sym (above_split n (i * k) k) ∙ ap (bits_above n) (sym below)

  pub to_lower : s.cur < s.target
      → InRange n t k (record { result = s.result - 2 * k; target = s.target - s.cur; cur = bit_and (child / 2 ^ (s.result - 2 * k - k)) mask })
  to_lower h =
      let a = g.from in
      let f : ℕ = a.field in
      let al : s.result - 2 * k ≡ suc (f + f) * (k + k) =
      omega (arith, a.aligned, mul-add (suc f) (k + k) (k + k), suc-mul f (k + k), suc-mul (f + f) (k + k), add-mul f f (k + k)) in
      let here : s.result - 2 * k ≡ s.result - (k + k) = omega arith in
      record {
        field = f + f;
        aligned = al;
        inside = omega (arith, a.inside);
        target_is = omega (arith, ap (bits_above n) here, a.cur_is, a.target_is);
        target_pos = omega arith;
        cur_is = upper (s.result - 2 * k) (f + f) al (omega (arith, a.inside));
        reach = subst (λ (x : ℕ). t ≤ bits_above n x) (omega arith) a.reach;
      }

  pub to_upper : s.target ≤ s.cur → InRange n t k (record { result = s.result; target = s.target; cur = bit_and (child / 2 ^ (s.result - k)) mask })
  to_upper h =
      let a = g.from in
      let f : ℕ = a.field in
      let al : s.result ≡ suc (suc (f + f)) * (k + k) =
      omega (arith, a.aligned, mul-add (suc f) (k + k) (k + k), suc-mul f (k + k), suc-mul (suc (f + f)) (k + k), suc-mul (f + f) (k + k), add-mul f f (k + k)) in
      record {
        field = suc (f + f);
        aligned = al;
        inside = a.inside;
        target_is = a.target_is;
        target_pos = a.target_pos;
        cur_is = upper s.result (suc (f + f)) al a.inside;
        reach = omega (arith, a.cur_is, a.target_is);
      }
