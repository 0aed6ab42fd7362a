-- What a caller wants: opened and cleared stores are sound and hold nothing, and on sound stores equality and emptiness speak of members.
use mathlib.Core.Bool.{Bool, true}
use mathlib.Core.List.{List}
use mathlib.Core.Logic.{◌↔◌}
use mathlib.Core.Path.{◌≡◌, refl, sym, ap, ◌∙◌, subst}
use Prim.Native.Nat.{ℕ, ◌+◌, ◌*◌, ◌/◌, ◌%◌, ◌≤◌, ◌<◌}
use native.Mathlib.Decide.{ℕ_discrete}
use native.Mathlib.Omega.{arith}
use borrow.Author.Tests.{eq-eqb, eqb-true}
use lib.Dec.{eqb}
use lib.ListN.{length}
use Rattle.util.specs.Word.{bit, same}
use Rattle.util.proofs.Bits.{bit_of_zero}
use Rattle.util.proofs.Places.{some_bit}
use Rattle.util.proofs.Same.{same_refl, same_eq}
use Rattle.store.specs.Answer.{says}
use Rattle.store.specs.Build.{empty}
use Rattle.store.specs.Layout.{top, max_cap, cap}
use Rattle.store.specs.Word.{word, on, anc, Member, count_below, SoundStore}
use Rattle.store.proofs.Answers.{says_yes}
use Rattle.store.proofs.Build.{fine_empty, word-empty}
use Rattle.store.proofs.Ends.{cap_in_lem}
use Rattle.store.proofs.Geometry.{is_store_lem}
use Rattle.store.proofs.Members.{own, over_on, summary-members, fine_same, none_counted}
use Rattle.store.proofs.TopLayer.{top_one}
use Rattle.store.proofs.Words.{word_lt, on_word, bit-place, place_in, anc_in}
use Rattle.set_whole.specs.Calls.{open_refusal, open_of, is_empty_of, equal_of}
use Rattle.set_whole.proofs.Answers.{can_open_lem}

-- opening and clearing leave `empty N` (their definitions say so): a sound store with no member
pub opened : (N : ℕ) → 1 ≤ N → N ≤ max_cap → SoundStore N (empty N) × ((i : ℕ) → Member (empty N) i → ⊥)
unfolding on
opened N some most = (
  fine_empty N some most,
  λ i m. omega (arith, sym m.held ∙ ap (λ (w : ℕ). bit w (i % 64)) (word-empty N some 0 (i / 64) (omega arith)) ∙ bit_of_zero (i % 64)),
)

-- so an opening that nothing stands in the way of leaves one
pub opened_by : (s : List ℕ) (N : ℕ) → open_refusal N (length s) ≡ 0
    → SoundStore N (open_of s N).lent × ((i : ℕ) → Member (open_of s N).lent i → ⊥) × (count_below N (open_of s N).lent N ≡ 0)
unfolding open_of
opened_by s N h =
    let room = cap_in_lem N (can_open_lem N (length s) h).0 in
    let o = opened N room.0 room.1 in
    rw h (o.0, o.1, none_counted (empty N) o.1 N)

-- "Equality: all words equal." ON SOUND STORES of one capacity it is equality of members.
pub equal_members : {N : ℕ} {s t : List ℕ} → SoundStore N s → SoundStore N t → (equal_of s t ≡ says true tt) ↔ ((i : ℕ) → Member s i ↔ Member t i)
unfolding equal_of
equal_members {N} {s} {t} f g =
    let asked : equal_of s t ≡ says (same s t) tt = rw (is_store_lem f.is, is_store_lem g.is, f.is.names, g.is.names, eq-eqb N N refl) in (
      λ q i. (let p = same_eq s t (says_yes (same s t) (sym asked ∙ q)) in (λ m. subst (λ (x : List ℕ). Member x i) p m, λ m. subst (λ (x : List ℕ). Member x i) (sym p) m)),
      λ m. asked ∙ ap (λ (b : Bool). says b tt) (subst (λ (x : List ℕ). same s x ≡ true) (fine_same f g m) (same_refl s)),
    )

-- "`is_empty` reads layer 3." ON A SOUND STORE it says yes exactly if no id is a member.
pub empty-members : {N : ℕ} {s : List ℕ} → SoundStore N s → (is_empty_of s ≡ says true tt) ↔ ((i : ℕ) → Member s i → ⊥)
unfolding is_empty_of
empty-members {s = s} f = (to, λ none. from none (ℕ_discrete w 0))
  where
    w : ℕ
    w = word (cap s) s (top (cap s)) 0

    asked : is_empty_of s ≡ says (eqb (word (cap s) s (top (cap s)) 0) 0) tt
    asked = rw (is_store_lem f.is)

    -- every id stands under the one word of the top layer
    one_word : (i : ℕ) → i < cap s → anc i (top (cap s)) / 64 ≡ 0
    one_word i h =
        let z = (own f).is in
        omega (arith, place_in (cap s) (top (cap s)) (anc i (top (cap s))) (anc_in (cap s) i (top (cap s)) h), top_one (cap s) z.some z.most)

    to : is_empty_of s ≡ says true tt → (i : ℕ) → Member s i → ⊥
    to e i m =
        on_word (cap s) s (top (cap s)) (anc i (top (cap s))) (over_on (cap s) s (own f).sound (top (cap s)) (omega arith) i m.held)
        (ap (word (cap s) s (top (cap s))) (one_word i m.below) ∙ eqb-true w 0 (says_yes (eqb w 0) (sym asked ∙ e)))

    from : ((i : ℕ) → Member s i → ⊥) → Dec (w ≡ 0) → is_empty_of s ≡ says true tt
    from none (yes q) = asked ∙ ap (λ (b : Bool). says b tt) (eq-eqb w 0 q)
    from none (no n) =
        let b = some_bit w (word_lt (cap s) s f.words (top (cap s)) 0) n in
        let m = (summary-members s f.words (own f).sound (top (cap s)) (64 * 0 + b.0) (omega arith)).0
        (sym (bit-place (cap s) s (top (cap s)) 0 b.0 b.1) ∙ b.2) in
        absurd (none m.0 m.1)
