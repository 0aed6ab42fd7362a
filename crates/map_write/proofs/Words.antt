-- The words that a map tells of: bits at or past N taken as absent, which changes at most the last word.
use Rattle.std.proofs.Common.{◌≡◌, ℕ, zero, suc, ◌+◌, ◌-◌, ◌*◌, ◌%◌, ◌^◌, ◌≤◌, ◌<◌, List, [], ◌∷◌, ◌++◌, length, get_or, take, refl, sym, ap, ap₂, ◌∙◌, subst, arith, mod-lt, mod-eq_of_lt, pow_pos}
use Rattle.store.specs.Build.{room0, Kept}
use Rattle.store.specs.Layout.{room, layer_len}
use Rattle.store.specs.Word.{Words64}
use Rattle.map_format.specs.Steps.{with_last}
use Rattle.map_format.proofs.Used.{with_last_is}
use Rattle.map_write.specs.Map.{kept_from}

-- ---- the words from number q on

pub length_kept : (N q : ℕ) (ws : List ℕ) → length (kept_from N q ws) ≡ length ws
unfolding kept_from
length_kept N q [] = refl
length_kept N q (w ∷ ws) = ap suc (length_kept N (suc q) ws)

pub kept_word : (N q : ℕ) (ws : List ℕ) (i : ℕ) → get_or (kept_from N q ws) i 0 ≡ get_or ws i 0 % 2 ^ room0 N (q + i)
unfolding kept_from
kept_word N q [] i = sym (mod-eq_of_lt (pow_pos (room0 N (q + i))))
kept_word N q (w ∷ ws) zero = let e : q ≡ q + 0 = omega arith in ap (λ (k : ℕ). w % 2 ^ room0 N k) e
kept_word N q (w ∷ ws) (suc i) =
    let e : suc q + i ≡ q + suc i = omega arith in
    kept_word N (suc q) ws i ∙ ap (λ (k : ℕ). get_or ws i 0 % 2 ^ room0 N k) e

-- no bit stands at or past N
pub kept_low : (N : ℕ) (ws : List ℕ) → Kept N (kept_from N 0 ws)
kept_low N ws q =
    let e : 0 + q ≡ q = omega arith in
    subst (λ (w : ℕ). w < 2 ^ room0 N q) (sym (kept_word N 0 ws q ∙ ap (λ (k : ℕ). get_or ws q 0 % 2 ^ room0 N k) e))
    (mod-lt (get_or ws q 0) (pow_pos (room0 N q)))

-- words with no such bit stay as they are
pub kept_same : (N q : ℕ) (ws : List ℕ) → ((i : ℕ) → get_or ws i 0 < 2 ^ room0 N (q + i)) → kept_from N q ws ≡ ws
unfolding kept_from
kept_same N q [] h = refl
kept_same N q (w ∷ ws) h =
    let e : q + 0 ≡ q = omega arith in
    ap₂ ◌∷◌ (mod-eq_of_lt (subst (λ (k : ℕ). w < 2 ^ room0 N k) e (h 0)))
    (kept_same N (suc q) ws (λ i. let f : q + suc i ≡ suc q + i = omega arith in subst (λ (k : ℕ). get_or ws i 0 < 2 ^ room0 N k) f (h (suc i))))

-- ---- only the last word changes

cut_none : (N q w : ℕ) → 64 * q + 64 ≤ N → w < 2 ^ 64 → w ≡ w % 2 ^ room0 N q
cut_none N q w h g = let f : 64 ≡ room0 N q = omega arith in sym (mod-eq_of_lt g) ∙ ap (λ (k : ℕ). w % 2 ^ k) f

kept_end : (N q w : ℕ) (ws : List ℕ) → 64 * (q + length ws) ≤ N → Words64 (w ∷ ws)
    → kept_from N q (w ∷ ws) ≡ take (length ws) (w ∷ ws) ++ get_or (w ∷ ws) (length ws) 0 % 2 ^ room0 N (q + length ws) ∷ []
unfolding kept_from
kept_end N q w [] h small = let e : q ≡ q + 0 = omega arith in ap (λ (k : ℕ). w % 2 ^ room0 N k ∷ []) e
kept_end N q w (v ∷ ws) h small =
    let e : suc q + length ws ≡ q + length (v ∷ ws) = omega arith in
    let g : 64 * (suc q + length ws) ≤ N = omega arith in
    ap₂ ◌∷◌ (sym (cut_none N q w (omega arith) (small 0)))
    (kept_end N (suc q) v ws g (λ x. small (suc x))
    ∙ ap (λ (k : ℕ). take (length ws) (v ∷ ws) ++ get_or (v ∷ ws) (length ws) 0 % 2 ^ room0 N k ∷ []) e)

pub kept_with_last : (N : ℕ) (ws : List ℕ) → 1 ≤ N → length ws ≡ layer_len N 0 → Words64 ws
    → with_last ws (get_or ws (length ws - 1) 0 % 2 ^ room0 N (length ws - 1)) ≡ kept_from N 0 ws
unfolding room
kept_with_last N [] some long small = absurd (omega arith)
kept_with_last N (w ∷ ws) some long small =
    let e : length (w ∷ ws) - 1 ≡ length ws = omega arith in
    let g : 64 * (0 + length ws) ≤ N = omega arith in
    let f : length ws ≡ 0 + length ws = omega arith in
    with_last_is (w ∷ ws) (get_or (w ∷ ws) (length (w ∷ ws) - 1) 0 % 2 ^ room0 N (length (w ∷ ws) - 1)) (omega arith)
    ∙ ap (λ (k : ℕ). take k (w ∷ ws) ++ get_or (w ∷ ws) k 0 % 2 ^ room0 N k ∷ []) e
    ∙ ap (λ (k : ℕ). take (length ws) (w ∷ ws) ++ get_or (w ∷ ws) (length ws) 0 % 2 ^ room0 N k ∷ []) f
    ∙ sym (kept_end N 0 w ws g small)
