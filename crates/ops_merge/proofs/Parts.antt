-- A part that was lent as `&mut xs[a..e]` is back: the words inside are the part's, those outside are as they were.
use mathlib.Core.List.{List, ◌++◌}
use mathlib.Core.Path.{◌≡◌, sym, ap, ◌∙◌}
use Prim.Native.Nat.{ℕ, ◌+◌, ◌-◌, ◌<◌, ◌≤◌}
use native.Mathlib.Decide.{dec_lt}
use native.Mathlib.Omega.{arith}
use borrow.Rule.Slice.PartMut.{post_of, put_mid, take_put, drop_put}
use lib.ListN.{length, get_or, take, get_or-append}
use lib.Seq.{get_or-take, get_or-drop, get_or-append-add, length-take-le}

module _ (a e : ℕ) (xs ys : List ℕ) (h : a ≤ e) (g : e ≤ length xs) (l : length ys ≡ e - a) where
  pub put_in : (i : ℕ) → a + i < e → get_or (put_mid a (e - a) xs ys) (a + i) 0 ≡ get_or ys i 0
  put_in i f =
      let q : length (take a xs) ≡ a = length-take-le a xs (omega arith) in
      sym (ap (λ (y : ℕ). get_or (put_mid a (e - a) xs ys) (y + i) 0) q)
      ∙ get_or-append-add (take a xs) (ys ++ post_of a (e - a) xs) i 0
      ∙ get_or-append ys (post_of a (e - a) xs) 0 i (omega arith)

  pub put_out : (x : ℕ) → (a ≤ x → x < e → ⊥) → get_or (put_mid a (e - a) xs ys) x 0 ≡ get_or xs x 0
  put_out x n = go (dec_lt x a)
    where
      go : Dec (x < a) → get_or (put_mid a (e - a) xs ys) x 0 ≡ get_or xs x 0
      go (yes f) =
          sym (get_or-take a (put_mid a (e - a) xs ys) x 0 f)
          ∙ ap (λ (z : List ℕ). get_or z x 0) (take_put a (e - a) xs ys (omega arith))
          ∙ get_or-take a xs x 0 f
      go (no f) = past (dec_lt x e)
        where
          past : Dec (x < e) → get_or (put_mid a (e - a) xs ys) x 0 ≡ get_or xs x 0
          past (yes k) = absurd (n (omega arith) k)
          past (no k) =
              let q : e + (x - e) ≡ x = omega arith in
              sym (ap (λ (y : ℕ). get_or (put_mid a (e - a) xs ys) y 0) q)
              ∙ sym (get_or-drop e (put_mid a (e - a) xs ys) (x - e) 0)
              ∙ ap (λ (z : List ℕ). get_or z (x - e) 0) (drop_put a e xs ys h g l)
              ∙ get_or-drop e xs (x - e) 0
              ∙ ap (λ (y : ℕ). get_or xs y 0) q
