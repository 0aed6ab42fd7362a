-- A line joined of parts of pieces.
use Rattle.std.proofs.Common.{◌≡◌, refl, sym, ap, ◌∙◌, ℕ, zero, suc, ◌+◌, ◌-◌, ◌≤◌, ◌<◌, min, max, cond, ltb, ◌==◌, List, [], ◌∷◌, ◌++◌, length, take, drop, set, position, append_assoc, length-take-le, arith, lt-ltb, le-ltb, Some, None}
use Rattle.std.proofs.Math.ListN.{length-set, length-drop, length-take, drop_of_length-le}
use Rattle.std.proofs.Math.Seq.{set_out, sets, take_all}
use Rattle.std.proofs.lemmas.List.Edits.{sets-eq}
use Rattle.std.specs.List.{position_or_len, slice_range}
use Rattle.std.proofs.lemmas.Bool.Decides.{nat_tests}
use borrow.Rule.Slice.PartMut.{put_mid, Post-is}
use native.Mathlib.Decide.{dec_lt}
use Rattle.text_out.specs.Out.{Held, holding}
use Rattle.text_in.specs.Line.{joined, up_to, Taken, taken_text, ends_at, gather_of}

-- ---- bytes behind a line

-- those that are put past the end are dropped
dropped : (bs line : List ℕ) (len : ℕ) → length line ≤ len → sets line len bs ≡ line
dropped [] line len h = refl
dropped (b ∷ bs) line len h =
    ap (λ (l : List ℕ). sets l (suc len) bs) (set_out line len b h) ∙ dropped bs line (suc len) (omega arith)

-- so those that fit are enough
enough : (bs line : List ℕ) (len n : ℕ) → length line ≤ len + n → sets line len (take n bs) ≡ sets line len bs
enough [] line len zero h = refl
enough [] line len (suc n) h = refl
enough (b ∷ bs) line len zero h = sym (dropped (b ∷ bs) line len (omega arith))
enough (b ∷ bs) line len (suc n) h = enough bs (set line len b) (suc len) n (omega (arith, length-set line len b))

-- what `copy_from_slice` leaves
copied : (line : List ℕ) (at n : ℕ) (bs : List ℕ) → at + n ≤ length line → length bs ≡ n → put_mid at (at + n - at) line bs ≡ sets line at bs
copied line at n bs h l =
    ap (λ (z : List ℕ). take at line ++ (bs ++ z)) (Post-is at (at + n) line (omega arith) ∙ ap (λ (k : ℕ). drop (at + k) line) (sym l))
    ∙ sym (append_assoc (take at line) bs (drop (at + length bs) line))
    ∙ sym (sets-eq bs line at (omega arith))

-- as many as fit, at the line's end or where the buffer ends before it
pub keeps : (h : Held) (bs : List ℕ) {at n : ℕ} → at ≡ min h.at (length h.buf) → n ≡ min (length bs) (length h.buf - at)
    → holding (put_mid at (at + n - at) h.buf (take n bs)) (h.at + n) ≡ joined h bs
keeps h bs {at} {n} a m = go (dec_lt (length h.buf) h.at)
  where
    long : h.at + n ≡ max h.at (min (h.at + length bs) (length h.buf))
    long = omega arith

    whole : put_mid at (at + n - at) h.buf (take n bs) ≡ sets h.buf at bs
    whole = copied h.buf at n (take n bs) (omega arith) (omega (arith, length-take n bs)) ∙ all (dec_lt n (length bs))
      where
        all : Dec (n < length bs) → sets h.buf at (take n bs) ≡ sets h.buf at bs
        all (yes l) = enough bs h.buf at n (omega arith)
        all (no l) = ap (sets h.buf at) (take_all n bs (omega arith))

    go : Dec (length h.buf < h.at) → holding (put_mid at (at + n - at) h.buf (take n bs)) (h.at + n) ≡ joined h bs
    go (yes l) =
        let past = dropped bs h.buf at (omega arith) ∙ sym (dropped bs h.buf h.at (omega arith)) in
        rw (whole, long, past)
    go (no l) = let e : at ≡ h.at = omega arith in rw (whole, long, e)

-- ---- the part of a piece

-- what `position` says of the place before which nothing passes
place_none : (k m : ℕ) → None ≡ cond (ltb k m) (Some k) None → m ≤ k
place_none k m e = grind (arith, nat_tests)

place_some : (k m : ℕ) {n : ℕ} → Some n ≡ cond (ltb k m) (Some k) None → (n ≡ k) × (n < m)
place_some k m e = (grind (arith, nat_tests), grind (arith, nat_tests))

module _ (h : Held) (piece : List ℕ) (from : ℕ) where
  -- past the end nothing is taken
  pub gather_past : length piece < from → taken_text h None ≡ gather_of h piece from
  unfolding gather_of ends_at
  gather_past l =
      let none : length piece ≤ from = omega arith in
      let e : max h.at (min (h.at + 0) (length h.buf)) ≡ h.at = omega arith in
      let z : length piece ≤ from + 0 = omega arith in
      sym (simp (drop_of_length-le piece none, e, le-ltb _ _ z))

  module _ (rest : List ℕ) (l : from ≤ length piece) (is : rest ≡ slice_range piece from (length piece)) where
    left : drop from piece ≡ rest
    left = sym (is ∙ take_all (length piece - from) (drop from piece) (omega (arith, length-drop from piece)))

    long : from + length rest ≡ length piece
    long = omega (arith, ap length left, length-drop from piece)

    -- no newline: all that is left
    pub gather_rest : None ≡ position (λ b. b == 10) rest → taken_text (joined h rest) None ≡ gather_of h piece from
    unfolding gather_of ends_at
    gather_rest none =
        let whole = take_all (position_or_len (λ b. b == 10) rest) rest (place_none _ _ none) in
        let z : length piece ≤ from + length rest = omega (arith, long) in
        sym (rw (left, whole, le-ltb _ _ z))

    -- a newline: what stands in front of it
    pub gather_front : {n : ℕ} → Some n ≡ position (λ b. b == 10) rest → taken_text (joined h (take n rest)) (Some (from + n + 1)) ≡ gather_of h piece from
    unfolding gather_of ends_at
    gather_front {n} some =
        let at = place_some (position_or_len (λ b. b == 10) rest) (length rest) some in
        let inside : from + n < length piece = omega (arith, long, at.1) in
        sym (rw (left, ← at.0, length-take-le n rest (omega (arith, at.1)), lt-ltb _ _ inside))

-- ---- what a caller knows of the place where the next line starts

module _ (h : Held) (piece : List ℕ) (from : ℕ) where
  -- it is past `from` and inside the piece
  goes_on : {next : ℕ} → Some next ≡ (gather_of h piece from).next → (from < next) × (next ≤ length piece)
  unfolding gather_of ends_at
  goes_on e = (grind (arith, nat_tests), grind (arith, nat_tests))

  -- and where none starts, the piece is used up
  pub line_uses_up : None ≡ (gather_of h piece from).next → from + length (up_to (drop from piece)) ≡ max from (length piece)
  unfolding gather_of ends_at
  line_uses_up e =
      let run = up_to (drop from piece) in
      let past : length piece ≤ from + length run = grind (arith, nat_tests) in
      omega (arith, past, length-drop from piece, length-take (position_or_len (λ b. b == 10) (drop from piece)) (drop from piece))

pub line_goes_on : (h : Held) (piece : List ℕ) (from : ℕ) {t : Taken} {next : ℕ} → t ≡ gather_of h piece from → Some next ≡ t.next
    → (from < next) × (next ≤ length piece)
line_goes_on h piece from e n = goes_on h piece from (n ∙ ap (λ (t : Taken). t.next) e)
