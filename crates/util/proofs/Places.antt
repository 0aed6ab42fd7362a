-- The numbers at which a function is not 0, and the set bits of a word as the case that all walks go by.
use mathlib.Core.List.Memᴰ
use mathlib.Core.List.{List, [], ◌∷◌, ◌++◌, Memᴰ}
use mathlib.Core.Logic.{◌≢◌, ◌↔◌, ◌⊎◌, inl, inr, ⊎_elim}
use mathlib.Core.Path.{◌≡◌, refl, sym, ap, ap₂, ◌∙◌, subst}
use Prim.Native.Nat.{ℕ, zero, suc, ◌+◌, ◌-◌, ◌/◌, ◌%◌, ◌^◌, ◌≤◌, ◌<◌}
use native.Mathlib.Decide.{ℕ_discrete}
use native.Mathlib.Nat.{add-zero, pow-suc}
use native.Mathlib.Omega.{arith}
use lib.Count.{ones_in, count_trailing_zeros, under}
use lib.ListN.{length}
use Rattle.util.specs.Word.{bit, count, keep, places, bits, Rising}
use Rattle.util.proofs.Bits.{bit_lt, bit_zero, bit_suc, bit_of_zero, minus_same, minus_other, word_ext}

-- ---- equal functions, none, some before some

pub places_same : (f g : ℕ → ℕ) (b n : ℕ) → ((i : ℕ) → b ≤ i → i < b + n → f i ≡ g i) → places f b n ≡ places g b n
unfolding places
places_same f g b zero h = refl
places_same f g b (suc n) h =
    ap₂ (λ (d : ℕ) (l : List ℕ). keep d b l) (h b (omega arith) (omega arith))
    (places_same f g (suc b) n (λ i l u. h i (omega arith) (omega arith)))

pub places_none : (f : ℕ → ℕ) (b n : ℕ) → ((i : ℕ) → b ≤ i → i < b + n → f i ≡ 0) → places f b n ≡ []
unfolding places
places_none f b zero h = refl
places_none f b (suc n) h =
    ap₂ (λ (d : ℕ) (l : List ℕ). keep d b l) (h b (omega arith) (omega arith))
    (places_none f (suc b) n (λ i l u. h i (omega arith) (omega arith)))

keep_append : (d b : ℕ) (x y : List ℕ) → keep d b (x ++ y) ≡ keep d b x ++ y
keep_append zero b x y = refl
keep_append (suc d) b x y = refl

pub places-append : (f : ℕ → ℕ) (b m n : ℕ) → places f b (m + n) ≡ places f b m ++ places f (b + m) n
unfolding places
places-append f b zero n = let e : 0 + n ≡ n = omega arith in ap₂ (places f) (sym (add-zero b)) e
places-append f b (suc m) n =
    let e : suc m + n ≡ suc (m + n) = omega arith in
    let g : suc b + m ≡ b + suc m = omega arith in
    ap (places f b) e
    ∙ ap (keep (f b) b) (places-append f (suc b) m n)
    ∙ keep_append (f b) b (places f (suc b) m) (places f (suc b + m) n)
    ∙ ap (λ (x : ℕ). keep (f b) b (places f (suc b) m) ++ places f x n) g

-- the first that is not 0 stands at p
pub places_first : (f : ℕ → ℕ) (b p n : ℕ) → b ≤ p → p < b + n → ((i : ℕ) → b ≤ i → i < p → f i ≡ 0) → f p ≢ 0
    → places f b n ≡ p ∷ places f (suc p) (b + n - suc p)
unfolding places
places_first f b p n l u zeros some =
    let e : n ≡ (p - b) + suc (b + n - suc p) = omega arith in
    let g : b + (p - b) ≡ p = omega arith in
    ap (places f b) e
    ∙ places-append f b (p - b) (suc (b + n - suc p))
    ∙ ap₂ (λ (x : List ℕ) (q : ℕ). x ++ places f q (suc (b + n - suc p))) (places_none f b (p - b) (λ i h k. zeros i h (omega arith))) g
    ∙ kept (f p) refl
  where
    kept : (d : ℕ) → f p ≡ d → keep d p (places f (suc p) (b + n - suc p)) ≡ p ∷ places f (suc p) (b + n - suc p)
    kept zero z = absurd (some z)
    kept (suc d) z = refl

-- one alone
pub places-one : (f : ℕ → ℕ) (b p n : ℕ) → b ≤ p → p < b + n → f p ≢ 0 → ((i : ℕ) → b ≤ i → i < b + n → i ≢ p → f i ≡ 0)
    → places f b n ≡ p ∷ []
places-one f b p n l u some zeros =
    places_first f b p n l u (λ i h k. zeros i h (omega arith) (omega arith)) some
    ∙ ap (λ (x : List ℕ). p ∷ x) (places_none f (suc p) (b + n - suc p) (λ i h k. zeros i (omega arith) (omega arith) (omega arith)))

-- how many there are does not go by where they start
length-keep : (d b c : ℕ) (x y : List ℕ) → length x ≡ length y → length (keep d b x) ≡ length (keep d c y)
length-keep zero b c x y e = e
length-keep (suc d) b c x y e = ap suc e

pub length_shift : (f g : ℕ → ℕ) (b c n : ℕ) → ((i : ℕ) → i < n → f (b + i) ≡ g (c + i)) → length (places f b n) ≡ length (places g c n)
unfolding places
length_shift f g b c zero h = refl
length_shift f g b c (suc n) h =
    let e : f b ≡ g c = ap f (sym (add-zero b)) ∙ h 0 (omega arith) ∙ ap g (add-zero c) in
    length-keep (f b) b c (places f (suc b) n) (places g (suc c) n)
    (length_shift f g (suc b) (suc c) n (λ i l.
    let x : suc b + i ≡ b + suc i = omega arith in
    let y : c + suc i ≡ suc c + i = omega arith in
    ap f x ∙ h (suc i) (omega arith) ∙ ap g y))
    ∙ ap (λ (d : ℕ). length (keep d c (places g (suc c) n))) e

-- of two functions that are 0 or 1, and differ at i alone
length_kept : (d b : ℕ) (l : List ℕ) → d < 2 → length (keep d b l) ≡ d + length l
length_kept zero b l h = omega arith
length_kept (suc zero) b l h = omega arith
length_kept (suc (suc d)) b l h = absurd (omega arith)

pub length_changed : (f g : ℕ → ℕ) (i : ℕ) → ((j : ℕ) → f j < 2) → ((j : ℕ) → g j < 2) → ((j : ℕ) → j ≢ i → f j ≡ g j)
    → (b n : ℕ) → b ≤ i → i < b + n → length (places g b n) + f i ≡ length (places f b n) + g i
unfolding places
length_changed f g i hf hg same b zero l u = absurd (omega arith)
length_changed f g i hf hg same b (suc n) l u = go (λ h. length_changed f g i hf hg same (suc b) n h (omega arith)) (ℕ_discrete b i)
  where
    go : (suc b ≤ i → length (places g (suc b) n) + f i ≡ length (places f (suc b) n) + g i) → Dec (b ≡ i)
        → length (keep (g b) b (places g (suc b) n)) + f i ≡ length (keep (f b) b (places f (suc b) n)) + g i
    go rest (yes e) =
        let after = ap length (places_same f g (suc b) n (λ j l u. same j (omega arith))) in
        omega (arith, length_kept (g b) b (places g (suc b) n) (hg b), length_kept (f b) b (places f (suc b) n) (hf b), after, ap f e, ap g e)
    go rest (no e) =
        omega (arith, length_kept (g b) b (places g (suc b) n) (hg b), length_kept (f b) b (places f (suc b) n) (hf b), same b e, rest (omega arith))

-- ---- the set bits of a word

pub bits_zero : bits 0 ≡ []
unfolding bits
bits_zero = places_none (bit 0) 0 64 (λ i l u. bit_of_zero i)

-- they are as many as its count says
pub length-bits_in : (n w : ℕ) → length (places (bit w) 0 n) ≡ ones_in n w
unfolding places ones_in
length-bits_in zero w = refl
length-bits_in (suc n) w = go (bit w 0) refl (halved ∙ length-bits_in n (w / 2))
  where
    halved : length (places (bit w) 1 n) ≡ length (places (bit (w / 2)) 0 n)
    halved = length_shift (bit w) (bit (w / 2)) 1 0 n (λ i l.
        let e : 1 + i ≡ suc i = omega arith in
        let z : i ≡ 0 + i = omega arith in
        ap (bit w) e ∙ bit_suc w i ∙ ap (bit (w / 2)) z)

    go : (d : ℕ) → bit w 0 ≡ d → length (places (bit w) 1 n) ≡ ones_in n (w / 2) → length (keep d 0 (places (bit w) 1 n)) ≡ w % 2 + ones_in n (w / 2)
    go zero e rest = rest ∙ omega (arith, sym (bit_zero w) ∙ e)
    go (suc zero) e rest = ap suc rest ∙ omega (arith, sym (bit_zero w) ∙ e)
    go (suc (suc d)) e rest = absurd (omega (arith, bit_lt w 0))

pub length-bits : (w : ℕ) → length (bits w) ≡ count w
unfolding bits count
length-bits w = length-bits_in 64 w

-- the lowest set bit of a word that is not 0
pub record Lowest (w b : ℕ) : Type 0 where
  pub inside : b < 64
  pub on : bit w b ≡ 1
  pub first : (i : ℕ) → i < b → bit w i ≡ 0

-- the set bits of a word are its lowest, and those of the word without it
pub bits_lowest : (w b : ℕ) → w < 2 ^ 64 → Lowest w b → bits w ≡ b ∷ bits (w - 2 ^ b)
unfolding bits
bits_lowest w b h z =
    places_first (bit w) 0 b 64 (omega arith) (omega (arith, z.inside)) (λ i l u. z.first i u) (λ e. omega (arith, z.on))
    ∙ ap (λ (x : List ℕ). b ∷ x) (sym (split ∙ low ∙ high))
  where
    split : places (bit (w - 2 ^ b)) 0 64 ≡ places (bit (w - 2 ^ b)) 0 (suc b) ++ places (bit (w - 2 ^ b)) (0 + suc b) (63 - b)
    split =
        let e : 64 ≡ suc b + (63 - b) = omega (arith, z.inside) in
        ap (places (bit (w - 2 ^ b)) 0) e ∙ places-append (bit (w - 2 ^ b)) 0 (suc b) (63 - b)

    at : (i : ℕ) → i < suc b → Dec (i ≡ b) → bit (w - 2 ^ b) i ≡ 0
    at i u (yes p) = ap (bit (w - 2 ^ b)) p ∙ minus_same w b h z.inside z.on
    at i u (no n) = minus_other w b h z.inside z.on i (omega (arith, z.inside)) n ∙ z.first i (omega arith)

    low : places (bit (w - 2 ^ b)) 0 (suc b) ++ places (bit (w - 2 ^ b)) (0 + suc b) (63 - b) ≡ places (bit (w - 2 ^ b)) (suc b) (63 - b)
    low =
        let e : 0 + suc b ≡ suc b = omega arith in
        ap₂ (λ (x : List ℕ) (q : ℕ). x ++ places (bit (w - 2 ^ b)) q (63 - b))
        (places_none (bit (w - 2 ^ b)) 0 (suc b) (λ i l u. at i (omega arith) (ℕ_discrete i b))) e

    high : places (bit (w - 2 ^ b)) (suc b) (63 - b) ≡ places (bit w) (suc b) (0 + 64 - suc b)
    high =
        let e : 63 - b ≡ 0 + 64 - suc b = omega (arith, z.inside) in
        places_same (bit (w - 2 ^ b)) (bit w) (suc b) (63 - b)
        (λ i l u. minus_other w b h z.inside z.on i (omega (arith, z.inside)) (omega arith))
        ∙ ap (places (bit w) (suc b)) e

lowest_in : (n w : ℕ) → w < 2 ^ n → 0 < w
    → (count_trailing_zeros n w < n) × (bit w (count_trailing_zeros n w) ≡ 1) × ((i : ℕ) → i < count_trailing_zeros n w → bit w i ≡ 0)
unfolding count_trailing_zeros
lowest_in zero w h p = absurd (omega arith)
lowest_in (suc n) w h p = go (w % 2) refl (λ q. lowest_in n (w / 2) (omega (arith, pow-suc 2 n)) q)
  where
    go : (r : ℕ) → w % 2 ≡ r
        → (0 < w / 2 → (count_trailing_zeros n (w / 2) < n) × (bit (w / 2) (count_trailing_zeros n (w / 2)) ≡ 1) × ((i : ℕ) → i < count_trailing_zeros n (w / 2) → bit (w / 2) i ≡ 0))
        → (under r (count_trailing_zeros n (w / 2)) < suc n) × (bit w (under r (count_trailing_zeros n (w / 2))) ≡ 1)
        × ((i : ℕ) → i < under r (count_trailing_zeros n (w / 2)) → bit w i ≡ 0)
    go zero e ih =
        let l = ih (omega arith) in
        (omega arith, bit_suc w (count_trailing_zeros n (w / 2)) ∙ l.1, below l.2)
      where
        below : ((i : ℕ) → i < count_trailing_zeros n (w / 2) → bit (w / 2) i ≡ 0) → (i : ℕ) → i < suc (count_trailing_zeros n (w / 2)) → bit w i ≡ 0
        below g zero l = bit_zero w ∙ e
        below g (suc i) l = bit_suc w i ∙ g i (omega arith)
    go (suc r) e ih = (omega arith, bit_zero w ∙ omega arith, λ i l. absurd (omega arith))

pub lowest : (w : ℕ) → w < 2 ^ 64 → 0 < w → Lowest w (count_trailing_zeros 64 w)
lowest w h p = let l = lowest_in 64 w h p in record { inside = l.0; on = l.1; first = l.2 }

-- the set bits one by one: none of 0, else the lowest and those of the word without it
pub bits_none : (w : ℕ) → w ≡ 0 → bits w ≡ []
bits_none w e = ap bits e ∙ bits_zero

pub bits_taken : (w v : ℕ) → w < 2 ^ 64 → w ≢ 0 → v ≡ w - 2 ^ count_trailing_zeros 64 w → bits w ≡ count_trailing_zeros 64 w ∷ bits v
bits_taken w v h n e =
    bits_lowest w (count_trailing_zeros 64 w) h (lowest w h (omega arith)) ∙ ap (λ (x : ℕ). count_trailing_zeros 64 w ∷ bits x) (sym e)

-- a word that is not 0 has a set bit
pub some_bit : (w : ℕ) → w < 2 ^ 64 → w ≢ 0 → (b : ℕ) × (b < 64) × (bit w b ≡ 1)
some_bit w h n = let l = lowest w h (omega arith) in (count_trailing_zeros 64 w, l.inside, l.on)

-- a word without its lowest set bit has one less, and only 0 has none
count_lowest : (w : ℕ) → w < 2 ^ 64 → 0 < w → count w ≡ suc (count (w - 2 ^ count_trailing_zeros 64 w))
count_lowest w h p = sym (length-bits w) ∙ ap length (bits_lowest w (count_trailing_zeros 64 w) h (lowest w h p)) ∙ ap suc (length-bits (w - 2 ^ count_trailing_zeros 64 w))

pub count_none : (w : ℕ) → w < 2 ^ 64 → (w ≡ 0) ↔ (count w ≡ 0)
count_none w h = (
  λ e. sym (length-bits w) ∙ ap (λ (x : ℕ). length (bits x)) e ∙ ap length bits_zero,
  λ e. go (ℕ_discrete w 0) e,
)
  where
    go : Dec (w ≡ 0) → count w ≡ 0 → w ≡ 0
    go (yes z) e = z
    go (no n) e = absurd (omega (arith, count_lowest w h (omega arith)))

pub count_less : (w : ℕ) → w < 2 ^ 64 → count (w - 2 ^ count_trailing_zeros 64 w) ≡ count w - 1
count_less w h = go (ℕ_discrete w 0)
  where
    go : Dec (w ≡ 0) → count (w - 2 ^ count_trailing_zeros 64 w) ≡ count w - 1
    go (yes z) = let e : w - 2 ^ count_trailing_zeros 64 w ≡ w = omega arith in ap count e ∙ omega (arith, (count_none w h).0 z)
    go (no n) = omega (arith, count_lowest w h (omega arith))

-- ---- what is in the list, and that it rises

keep_in : (d b i : ℕ) (l : List ℕ) → Memᴰ i (keep d b l) → ((i ≡ b) × (d ≢ 0)) ⊎ Memᴰ i l
keep_in zero b i l m = inr m
keep_in (suc d) b i l m = ⊎_elim (λ e. inl (e, λ z. omega arith)) (λ t. inr t) (Memᴰ.cases_cons m)

in_keep : (d b i : ℕ) (l : List ℕ) → ((i ≡ b) × (d ≢ 0)) ⊎ Memᴰ i l → Memᴰ i (keep d b l)
in_keep zero b i l (inl e) = absurd (e.1 refl)
in_keep zero b i l (inr m) = m
in_keep (suc d) b i l (inl e) = Memᴰ.head e.0
in_keep (suc d) b i l (inr m) = Memᴰ.tail m

pub places_in_lem : (f : ℕ → ℕ) (b n i : ℕ) → Memᴰ i (places f b n) → (b ≤ i) × (i < b + n) × (f i ≢ 0)
unfolding places
places_in_lem f b zero i m = absurd (Memᴰ.not-nil m)
places_in_lem f b (suc n) i m =
    ⊎_elim
    (λ (h : (i ≡ b) × (f b ≢ 0)). (omega arith, omega arith, λ z. h.1 (ap f (sym h.0) ∙ z)))
    (λ t. let r = places_in_lem f (suc b) n i t in (omega arith, omega arith, r.2))
    (keep_in (f b) b i (places f (suc b) n) m)

pub in_places : (f : ℕ → ℕ) (b n i : ℕ) → b ≤ i → i < b + n → f i ≢ 0 → Memᴰ i (places f b n)
unfolding places
in_places f b zero i l u h = absurd (omega arith)
in_places f b (suc n) i l u h = go (in_places f (suc b) n i) (ℕ_discrete i b)
  where
    go : (suc b ≤ i → i < suc b + n → f i ≢ 0 → Memᴰ i (places f (suc b) n)) → Dec (i ≡ b) → Memᴰ i (keep (f b) b (places f (suc b) n))
    go rest (yes e) = in_keep (f b) b i (places f (suc b) n) (inl (e, λ z. h (ap f e ∙ z)))
    go rest (no e) = in_keep (f b) b i (places f (suc b) n) (inr (rest (omega arith) (omega arith) h))

rising_from : (b c : ℕ) (l : List ℕ) → b ≤ c → Rising c l → Rising b l
rising_from b c [] h r = tt
rising_from b c (x ∷ l) h r = (omega (arith, r.0), r.1)

pub places_rising : (f : ℕ → ℕ) (b n : ℕ) → Rising b (places f b n)
unfolding places
places_rising f b zero = tt
places_rising f b (suc n) = go (f b) (places_rising f (suc b) n)
  where
    go : (d : ℕ) → Rising (suc b) (places f (suc b) n) → Rising b (keep d b (places f (suc b) n))
    go zero r = rising_from b (suc b) (places f (suc b) n) (omega arith) r
    go (suc d) r = (omega arith, r)

-- ---- a word is settled by its set bits: what a loop over them is told

bit_listed : (v u i : ℕ) → bits v ≡ bits u → i < 64 → bit v i ≡ 1 → bit u i ≡ 1
unfolding bits
bit_listed v u i e h on =
    let m : Memᴰ i (places (bit u) 0 64) = subst (λ (l : List ℕ). Memᴰ i l) e (in_places (bit v) 0 64 i (omega arith) (omega arith) (λ z. omega arith)) in
    omega (arith, (places_in_lem (bit u) 0 64 i m).2, bit_lt u i)

pub bits_settle : (v u : ℕ) → v < 2 ^ 64 → u < 2 ^ 64 → bits v ≡ bits u → v ≡ u
bits_settle v u h g e = word_ext v u h g (λ i l. at i l (ℕ_discrete (bit v i) 1) (ℕ_discrete (bit u i) 1))
  where
    at : (i : ℕ) → i < 64 → Dec (bit v i ≡ 1) → Dec (bit u i ≡ 1) → bit v i ≡ bit u i
    at i l (yes p) d = p ∙ sym (bit_listed v u i e l p)
    at i l (no n) (yes q) = absurd (n (bit_listed u v i (sym e) l q))
    at i l (no n) (no m) = omega (arith, bit_lt v i, bit_lt u i)

-- one is handed out
pub ones_next : (w v : ℕ) {b : ℕ} → w < 2 ^ 64 → (bits w ≡ b ∷ bits v) × (v ≤ w) → Lowest w b × (v ≡ w - 2 ^ b)
ones_next w v {b} h (e, g) = go (ℕ_discrete w 0)
  where
    go : Dec (w ≡ 0) → Lowest w b × (v ≡ w - 2 ^ b)
    go (yes z) = let n : [] ≡ b ∷ bits v = sym (bits_none w z) ∙ e in absurd (omega (arith, ap length n))
    go (no n) =
        let c : ℕ = count_trailing_zeros 64 w in
        let t : b ∷ bits v ≡ c ∷ bits (w - 2 ^ c) = sym e ∙ bits_taken w (w - 2 ^ c) h n refl in
        let q : c ≡ b = cc in
        let r : v ≡ w - 2 ^ c = bits_settle v (w - 2 ^ c) (omega arith) (omega arith) cc in
        (subst (Lowest w) q (lowest w h (omega arith)), r ∙ ap (λ (x : ℕ). w - 2 ^ x) q)

-- and none is left
pub ones_end : (w : ℕ) → w < 2 ^ 64 → bits w ≡ [] → w ≡ 0
ones_end w h e = bits_settle w 0 h (omega arith) (e ∙ sym bits_zero)
