-- How many words are not zero, counted word by word.
use Rattle.std.proofs.Common.{◌≡◌, ℕ, zero, suc, ◌+◌, ◌-◌, ◌*◌, ◌≤◌, List, [], ◌∷◌, ◌++◌, Bool, true, false, cond, not, ◌==◌, leb, length, get_or, take, count_by, sum_by, sym, refl, ap, ◌∙◌, add-zero, arith, length-append, length-set, take_at, drop_of_length-le, le-leb}
use Rattle.std.proofs.Math.Seq.{set_split}
use Rattle.std.proofs.lemmas.List.Sums.{count_by-le-length, sum_by-cons, sum_by_push}
use Rattle.std.proofs.lemmas.List.Recursion.{is_count_by}
use Rattle.std.specs.Int.{from_bool}
use Rattle.util.specs.Word.{keep, places}
use Rattle.store.specs.Build.{flag}
use Rattle.store.proofs.Build.{flag_one}
use Rattle.map_format.specs.Steps.{with_last, used_at}

-- ---- the words with another for the last

module _ (ws : List ℕ) (w : ℕ) where
  pub length_with_last : length (with_last ws w) ≡ length ws
  unfolding with_last
  length_with_last = length-set ws (length ws - 1) w

  pub with_last_is : 1 ≤ length ws → with_last ws w ≡ take (length ws - 1) ws ++ w ∷ []
  unfolding with_last
  with_last_is some =
      set_split ws (length ws - 1) w (omega arith)
      ∙ ap (λ (l : List ℕ). take (length ws - 1) ws ++ w ∷ l) (drop_of_length-le ws {i = suc (length ws - 1)} (omega arith))

-- ---- places at which a word is not zero

length-keep : (d b : ℕ) (l : List ℕ) → length (keep d b l) ≡ flag d + length l
length-keep zero b l = omega arith
length-keep (suc d) b l = omega (arith, flag_one (suc d) (λ e. omega arith))

places_same : (f g : ℕ → ℕ) (b c n : ℕ) → ((i : ℕ) → f (b + i) ≡ g (c + i)) → length (places f b n) ≡ length (places g c n)
unfolding places
places_same f g b c zero h = refl
places_same f g b c (suc n) h =
    let e : f b ≡ g c = ap f (sym (add-zero b)) ∙ h 0 ∙ ap g (add-zero c) in
    let rest = places_same f g (suc b) (suc c) n (λ i. ap f (add_suc b i) ∙ h (suc i) ∙ ap g (sym (add_suc c i))) in
    omega (arith, length-keep (f b) b (places f (suc b) n), length-keep (g c) c (places g (suc c) n), ap (λ (w : ℕ). flag w) e, rest)
  where
    add_suc : (a i : ℕ) → suc a + i ≡ a + suc i
    add_suc a i = omega arith

-- the count by the list's words
pub used_none : length (used_at []) ≡ 0
unfolding used_at places
used_none = refl

pub used_cons : (w : ℕ) (ws : List ℕ) → length (used_at (w ∷ ws)) ≡ flag w + length (used_at ws)
unfolding used_at places
used_cons w ws =
    length-keep w 0 (places (λ q. get_or (w ∷ ws) q 0) 1 (length ws))
    ∙ ap (λ (k : ℕ). flag w + k) (places_same (λ q. get_or (w ∷ ws) q 0) (λ q. get_or ws q 0) 1 0 (length ws) (λ i. shifted i))
  where
    shifted : (i : ℕ) → get_or (w ∷ ws) (1 + i) 0 ≡ get_or ws (0 + i) 0
    shifted i = let e : 1 + i ≡ suc i = omega arith in let f : 0 + i ≡ i = omega arith in rw (e, f)

used_count : (ws : List ℕ) → length (used_at ws) ≡ count_by (λ w. not (w == 0)) ws
used_count = is_count_by (λ ws. length (used_at ws)) (λ w. not (w == 0)) used_none (λ w ws. used_cons w ws ∙ either (w == 0) (length (used_at ws)))
  where
    either : (b : Bool) (n : ℕ) → cond b 0 1 + n ≡ cond (not b) (1 + n) n
    either true n = omega arith
    either false n = refl

-- the code adds up flags
pub flags_few : (ws : List ℕ) → sum_by (λ w. from_bool (not (w == 0))) ws ≤ length ws
flags_few [] = omega arith
flags_few (w ∷ ws) = omega (arith, flags_few ws, sum_by-cons (λ w. from_bool (not (w == 0))) w ws, small (not (w == 0)))
  where
    small : (b : Bool) → from_bool b ≤ 1
    small true = omega arith
    small false = omega arith

-- ---- how long the map is, and whether there is room

module _ (ws : List ℕ) (w : ℕ) where
  -- the last word apart
  pub used_front : (xs : List ℕ) (v : ℕ) → ws ≡ xs ++ v ∷ [] → length (used_at (with_last ws w)) ≡ count_by (λ w. not (w == 0)) xs + from_bool (not (w == 0))
  used_front xs v e =
      let some : length ws ≡ length xs + 1 = omega (arith, ap length e, length-append xs (v ∷ [])) in
      let front : take (length ws - 1) ws ≡ xs = ap (take (length ws - 1)) e ∙ take_at xs (v ∷ []) (length ws - 1) (omega arith) in
      ap (λ (l : List ℕ). length (used_at l)) (with_last_is ws w (omega arith) ∙ ap (λ (l : List ℕ). l ++ w ∷ []) front)
      ∙ used_count (xs ++ w ∷ [])
      ∙ sum_by_push (λ v. cond (not (v == 0)) 1 0) xs w
      ∙ ap (λ (k : ℕ). count_by (λ w. not (w == 0)) xs + k) (number (not (w == 0)))
    where
      number : (b : Bool) → cond b 1 0 ≡ from_bool b
      number true = refl
      number false = refl

  pub used_few : length (used_at (with_last ws w)) ≤ length ws
  used_few = omega (arith, used_count (with_last ws w), count_by-le-length (λ w. not (w == 0)) (with_last ws w), length_with_last ws w)

  pub room_for_all : (bytes : ℕ) → 16 + 12 * length ws ≤ bytes → leb (16 + 12 * length ws) bytes ≡ leb (16 + 12 * length (used_at (with_last ws w))) bytes
  room_for_all bytes h =
      le-leb (16 + 12 * length ws) bytes h ∙ sym (le-leb (16 + 12 * length (used_at (with_last ws w))) bytes (omega (arith, used_few)))
