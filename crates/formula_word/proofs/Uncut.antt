-- Where no code is 19 or more, the value does not depend on which bits exist.
use mathlib.Core.Bool.{Bool, true, false, cond, ◌||◌, true≢false}
use mathlib.Core.List.{List, [], ◌∷◌}
use mathlib.Core.Path.{◌≡◌, refl, ap, ◌∙◌}
use Prim.Native.Nat.{ℕ, ◌+◌, ◌%◌, ◌<◌}
use native.Mathlib.Omega.{arith}
use borrow.Author.Tests.{leb-false, ne_eqb}
use lib.Dec.{leb, ltb, eqb}
use lib.ListN.{get_or, set}
use Rattle.formula_codes.specs.Codes.{code_kind, cuts_in}
use Rattle.formula_codes.specs.Codes.CodeKind.{is_store, is_both, is_either, is_one_of, is_unknown}
use Rattle.formula_word.specs.Machine.{Stack, made_of, moves, stepped, evaluated}

made_uncut : (c w k a b x y : ℕ) → c < 19 → made_of (code_kind c) w k a x y ≡ made_of (code_kind c) w k b x y
unfolding code_kind made_of
made_uncut c w k a b x y h = rw (ne_eqb c 19 (λ e. omega arith), ne_eqb c 20 (λ e. omega arith)) (go (ltb c 4) (eqb c 16) (eqb c 17) (eqb c 18))
  where
    go : (p q r s : Bool) → made_of (cond p is_store (cond q is_both (cond r is_either (cond s is_one_of is_unknown)))) w k a x y
        ≡ made_of (cond p is_store (cond q is_both (cond r is_either (cond s is_one_of is_unknown)))) w k b x y
    go true q r s = refl
    go false true r s = refl
    go false false true s = refl
    go false false false true = refl
    go false false false false = refl

pub uncut : (k a b : ℕ) (ws cs : List ℕ) (s : Stack) → cuts_in cs ≡ false → evaluated k a ws cs s ≡ evaluated k b ws cs s
unfolding evaluated stepped
uncut k a b ws [] s e = refl
uncut k a b ws (c ∷ cs) s e = go (leb 19 c) refl e (λ z. uncut k a b ws cs (stepped k b ws c s) z)
  where
    v : List ℕ
    v = set s.words s.place s.last

    after : ℕ → Stack
    after x = record { words = v; place = (s.place + moves (code_kind c)) % 8; last = x }

    go : (x : Bool) → leb 19 c ≡ x → (x || cuts_in cs) ≡ false → (cuts_in cs ≡ false → evaluated k a ws cs (stepped k b ws c s) ≡ evaluated k b ws cs (stepped k b ws c s))
        → evaluated k a ws cs (stepped k a ws c s) ≡ evaluated k b ws cs (stepped k b ws c s)
    go true p e on = absurd (true≢false e)
    go false p e on =
        ap (λ (x : ℕ). evaluated k a ws cs (after x)) (made_uncut c (get_or ws c 0) k a b (get_or v ((s.place + 7) % 8) 0) s.last (leb-false 19 c p))
        ∙ on e
