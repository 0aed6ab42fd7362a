-- The code's test of layer 0's last word, and what the check answers.
use mathlib.Core.Bool.{Bool, false, ◌&&◌}
use mathlib.Core.List.{List}
use mathlib.Core.Path.{◌≡◌, sym, ap, ap₂, ◌∙◌}
use Prim.Native.Nat.{ℕ, suc, ◌+◌, ◌-◌, ◌*◌, ◌/◌, ◌%◌, ◌^◌, ◌≤◌, ◌<◌}
use native.Mathlib.Decide.{dec_lt}
use native.Mathlib.Nat.{div-lt_iff_lt-mul, pow-suc, mul_comm}
use native.Mathlib.Omega.{arith}
use borrow.Author.Tests.{lt-ltb, le-ltb}
use lib.Dec.{ltb}
use lib.ListN.{length, get_or, length-drop}
use lib.Pow.{pow_pos}
use lib.Seq.{get_or-drop}
use Rattle.util.specs.Word.{same}
use Rattle.util.proofs.Same.{same_refl}
use Rattle.store.specs.Build.{build, layer0, room0}
use Rattle.store.specs.Layout.{room, layer_len, layer_start, StoreOf}
use Rattle.store.proofs.Geometry.{end_step}
use Rattle.summary.specs.Calls.{kept_of, sound_of}

-- no bit stands above bit r
below : (w r : ℕ) → ltb (w / 2 ^ r) 2 ≡ ltb w (2 ^ suc r)
below w r = go (dec_lt w (2 ^ suc r))
  where
    twice : 2 ^ suc r ≡ 2 * 2 ^ r
    twice = pow-suc 2 r ∙ mul_comm (2 ^ r) 2

    go : Dec (w < 2 ^ suc r) → ltb (w / 2 ^ r) 2 ≡ ltb w (2 ^ suc r)
    go (yes l) = lt-ltb (w / 2 ^ r) 2 ((div-lt_iff_lt-mul (pow_pos r)).1 (omega (arith, twice))) ∙ sym (lt-ltb w (2 ^ suc r) l)
    go (no l) =
        le-ltb (w / 2 ^ r) 2 (high (dec_lt (w / 2 ^ r) 2)) ∙ sym (le-ltb w (2 ^ suc r) (omega arith))
      where
        high : Dec (w / 2 ^ r < 2) → 2 ≤ w / 2 ^ r
        high (yes q) = absurd (omega (arith, l, twice, (div-lt_iff_lt-mul (pow_pos r)).0 q))
        high (no q) = omega arith

module _ {N : ℕ} {s : List ℕ} (z : StoreOf N s) where
  some_in : 1 ≤ layer_len N 0
  unfolding room
  some_in = omega (arith, z.some)

  pub some_word : 1 ≤ length s
  some_word = omega (arith, z.long, end_step N 0 (omega arith), some_in)

  last_kept : ltb (get_or s (length s - 1) 0 / 2 ^ ((N - 1) % 64)) 2 ≡ kept_of N (layer0 N s)
  unfolding kept_of room
  last_kept =
      let ws = layer0 N s in
      let n : length ws ≡ layer_len N 0 = length-drop (layer_start N 0) s ∙ omega (arith, z.long, end_step N 0 (omega arith)) in
      let q : length s - 1 ≡ layer_start N 0 + (length ws - 1) = omega (arith, z.long, end_step N 0 (omega arith), n, z.some) in
      let w : get_or s (length s - 1) 0 ≡ get_or ws (length ws - 1) 0 = ap (λ (x : ℕ). get_or s x 0) q ∙ sym (get_or-drop (layer_start N 0) s (length ws - 1) 0) in
      let r : suc ((N - 1) % 64) ≡ room0 N (length ws - 1) = omega (arith, n, z.some) in
      below (get_or s (length s - 1) 0) ((N - 1) % 64) ∙ ap₂ (λ (x y : ℕ). ltb x (2 ^ y)) w r

  -- the layers are right, and the last word says the rest; or a layer is not
  pub sound_end : s ≡ build N (layer0 N s) → ltb (get_or s (length s - 1) 0 / 2 ^ ((N - 1) % 64)) 2 ≡ sound_of N s
  unfolding sound_of
  sound_end e = last_kept ∙ sym (ap (λ (b : Bool). b && kept_of N (layer0 N s)) (ap (same s) (sym e) ∙ same_refl s))

  pub sound_fault : same s (build N (layer0 N s)) ≡ false → false ≡ sound_of N s
  unfolding sound_of
  sound_fault e = sym (ap (λ (b : Bool). b && kept_of N (layer0 N s)) e)
