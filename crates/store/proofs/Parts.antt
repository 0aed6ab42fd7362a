-- A part of a slice, lent and back. `mid_of a n xs` is the part of xs that starts at a and is n long, `put_mid a n xs ys` is xs with ys there.
use Rattle.std.proofs.Common.{◌≡◌, ℕ, ◌+◌, ◌-◌, ◌<◌, ◌≤◌, List, length, get_or, drop, set, ap, ◌∙◌, arith, length-drop, length-take, get_or-drop, get_or-take}
use borrow.Rule.Slice.PartMut.{mid_of, put_mid, set_mid_at}

-- a word of the part
pub part_word : (a e i : ℕ) (xs : List ℕ) → a + i < e → get_or (mid_of a (e - a) xs) i 0 ≡ get_or xs (a + i) 0
part_word a e i xs h = get_or-take (e - a) (drop a xs) i 0 (omega arith) ∙ get_or-drop a xs i 0

-- a part in which one word was written, back in the whole
pub part_set : (a e i w : ℕ) (xs ys : List ℕ) → a + i < e → e ≤ length xs → ys ≡ set (mid_of a (e - a) xs) i w → put_mid a (e - a) xs ys ≡ set xs (a + i) w
part_set a e i w xs ys h g q =
    ap (put_mid a (e - a) xs) q ∙ set_mid_at a (e - a) i xs w (simp (length-take, length-drop) (omega arith))

-- a place of a part that goes on to the end
pub part_in : (a i : ℕ) (xs : List ℕ) → a + i < length xs → i < length (mid_of a (length xs - a) xs)
part_in a i xs h = simp (length-take, length-drop) (omega arith)
