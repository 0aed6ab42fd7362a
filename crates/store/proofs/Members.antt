-- Members and summaries of sound stores: a summary bit is on exactly if a member lies under it, and the members settle every word.
use Rattle.std.proofs.Common.{◌≡◌, ℕ, zero, suc, ◌+◌, ◌*◌, ◌/◌, ◌<◌, ◌≤◌, min, ◌↔◌, List, length, get_or, sym, refl, ap, ◌∙◌, subst, arith, ext_get_or}
use mathlib.Core.List.{Memᴰ}
use native.Mathlib.Decide.{dec_lt, ℕ_discrete}
use Rattle.util.specs.Word.{Rising}
use Rattle.util.proofs.Bits.{word_ext}
use Rattle.util.proofs.Places.{some_bit, places_none, places_in_lem, in_places, places_rising}
use Rattle.store.specs.Layout.{header, top, room, store_len, cap}
use Rattle.store.specs.Word.{word, on, anc, Member, members, count_below, Sound, Words64, SoundStore}
use Rattle.store.proofs.Geometry.{spot_in}
use Rattle.store.proofs.Words.{word_in, word_lt, on_lt, on_same, on_word, bit-place}

-- members of a store of capacity N, by the bits of layer 0
pub member-on : {N : ℕ} {s : List ℕ} {j : ℕ} → cap s ≡ N → Member s j → (j < N) × (on N s 0 j ≡ 1)
member-on {s = s} {j = j} e m = subst (λ (n : ℕ). (j < n) × (on n s 0 j ≡ 1)) e (m.below, m.held)

pub on-member : {N : ℕ} {s : List ℕ} {j : ℕ} → cap s ≡ N → j < N → on N s 0 j ≡ 1 → Member s j
on-member {s = s} {j = j} e h o = record { below = subst (λ (n : ℕ). j < n) (sym e) h; held = subst (λ (n : ℕ). on n s 0 j ≡ 1) (sym e) o }

-- an id that is a member of both or of neither has the same bit in both
pub bits_agree : {N : ℕ} {s t : List ℕ} → cap s ≡ N → cap t ≡ N → {j : ℕ} → j < N → Member s j ↔ Member t j → on N s 0 j ≡ on N t 0 j
bits_agree {N} {s} {t} e f {j} l m =
    on_same N s t 0 j (λ o. (member-on f (m.0 (on-member e l o))).1) (λ o. (member-on e (m.1 (on-member f l o))).1)

-- a sound store, by its own capacity
pub own : {N : ℕ} {s : List ℕ} → SoundStore N s → SoundStore (cap s) s
own {s = s} f = subst (λ (n : ℕ). SoundStore n s) (sym f.is.names) f

-- ---- the list of members: exactly the members, each once, rising

pub members_are : (s : List ℕ) (i : ℕ) → Memᴰ i (members s) ↔ Member s i
unfolding members
members_are s i = (
  λ m. let h = places_in_lem (on (cap s) s 0) 0 (cap s) i m in record { below = omega arith; held = omega (arith, on_lt (cap s) s 0 i, h.2) },
  λ h. in_places (on (cap s) s 0) 0 (cap s) i (omega arith) (omega (arith, h.below)) (λ z. omega (arith, h.held)),
)

pub members_rise : (s : List ℕ) → Rising 0 (members s)
unfolding members
members_rise s = places_rising (on (cap s) s 0) 0 (cap s)

-- where there is no member, none is counted
pub none_counted : (s : List ℕ) → ((i : ℕ) → Member s i → ⊥) → (a : ℕ) → count_below (cap s) s a ≡ 0
none_counted s none a = ap length (places_none (on (cap s) s 0) 0 (min a (cap s)) (λ i l u. off i (omega arith) (ℕ_discrete (on (cap s) s 0 i) 1)))
  where
    off : (i : ℕ) → i < cap s → Dec (on (cap s) s 0 i ≡ 1) → on (cap s) s 0 i ≡ 0
    off i l (yes e) = absurd (none i (record { below = l; held = e }))
    off i l (no n) = omega (arith, on_lt (cap s) s 0 i)

-- ---- THE SUMMARY. Place p of layer k is on exactly if an id under it is.

-- an id under place p of layer k whose bit is set
pub record Under (N : ℕ) (s : List ℕ) (k p : ℕ) : Type 0 where
  pub id : ℕ
  pub held : on N s 0 id ≡ 1
  pub here : anc id k ≡ p

module _ (N : ℕ) (s : List ℕ) (z : Sound N s) where
  pub over_on : (k : ℕ) → k ≤ top N → (i : ℕ) → on N s 0 i ≡ 1 → on N s k (anc i k) ≡ 1
  unfolding anc
  over_on zero h i e = e
  over_on (suc k) h i e = (z.layers.exact k (anc i k / 64) h).1 (on_word N s k (anc i k) (over_on k (omega arith) i e))

  pub on-under : Words64 s → (k : ℕ) → k ≤ top N → (p : ℕ) → on N s k p ≡ 1 → Under N s k p
  unfolding anc
  on-under small zero h p e = record { id = p; held = e; here = refl }
  on-under small (suc k) h p e =
      let b = some_bit (word N s k p) (word_lt N s small k p) ((z.layers.exact k p h).0 e) in
      let u = on-under small k (omega arith) (64 * p + b.0) (sym (bit-place N s k p b.0 b.1) ∙ b.2) in
      record { id = u.id; held = u.held; here = ap (λ (x : ℕ). x / 64) u.here ∙ omega (arith, b.1) }

pub summary-members : (s : List ℕ) → Words64 s → Sound (cap s) s → (k p : ℕ) → k ≤ top (cap s)
    → (on (cap s) s k p ≡ 1) ↔ ((i : ℕ) × Member s i × (anc i k ≡ p))
unfolding room
summary-members s small z k p h = (
  λ e. let u = on-under (cap s) s z small k h p e in (u.id, record { below = z.layers.inside 0 u.id (omega arith) u.held; held = u.held }, u.here),
  λ m. subst (λ (x : ℕ). on (cap s) s k x ≡ 1) m.2 (over_on (cap s) s z k h m.0 m.1.held),
)

-- ---- THE WORDS. Sound stores of one capacity with the same members are equal, word for word.

module _ (N : ℕ) (s t : List ℕ) (ws : Words64 s) (wt : Words64 t) where
  -- a layer whose bits agree
  pub words_same : (k : ℕ) → ((p : ℕ) → on N s k p ≡ 1 → on N t k p ≡ 1) → ((p : ℕ) → on N t k p ≡ 1 → on N s k p ≡ 1)
      → (q : ℕ) → word N s k q ≡ word N t k q
  words_same k st ts q =
      word_ext (word N s k q) (word N t k q) (word_lt N s ws k q) (word_lt N t wt k q)
      (λ b h. let p = 64 * q + b in bit-place N s k q b h ∙ on_same N s t k p (st p) (ts p) ∙ sym (bit-place N t k q b h))

  -- from layer 0 up
  layers_same : Sound N s → Sound N t → ((p : ℕ) → p < N → on N s 0 p ≡ 1 → on N t 0 p ≡ 1) → ((p : ℕ) → p < N → on N t 0 p ≡ 1 → on N s 0 p ≡ 1)
      → (k : ℕ) → k ≤ top N → (q : ℕ) → word N s k q ≡ word N t k q
  unfolding room
  layers_same zs zt st ts zero h = words_same 0 (λ p e. st p (zs.layers.inside 0 p h e) e) (λ p e. ts p (zt.layers.inside 0 p h e) e)
  layers_same zs zt st ts (suc k) h =
      let ih = layers_same zs zt st ts k (omega arith) in
      words_same (suc k)
      (λ p e. (zt.layers.exact k p h).1 (λ w. (zs.layers.exact k p h).0 e (ih p ∙ w)))
      (λ p e. (zs.layers.exact k p h).1 (λ w. (zt.layers.exact k p h).0 e (sym (ih p) ∙ w)))

-- lists of a store's length that agree in the header and in every layer are equal
pub by_layers : (N : ℕ) (s t : List ℕ) → length s ≡ store_len N → length t ≡ store_len N → ((x : ℕ) → x < header → get_or s x 0 ≡ get_or t x 0)
    → ((k : ℕ) → k ≤ top N → (q : ℕ) → word N s k q ≡ word N t k q) → s ≡ t
by_layers N s t ls lt head layers = ext_get_or 0 s t (ls ∙ sym lt) (λ x l. at x l (dec_lt x header))
  where
    at : (x : ℕ) → x < length s → Dec (x < header) → get_or s x 0 ≡ get_or t x 0
    at x l (yes h) = head x h
    at x l (no h) =
        let f = spot_in N x (omega arith) (omega arith) in
        ap (λ (y : ℕ). get_or s y 0) f.here
        ∙ sym (word_in N s f.layer f.index f.inside)
        ∙ layers f.layer f.known f.index
        ∙ word_in N t f.layer f.index f.inside
        ∙ sym (ap (λ (y : ℕ). get_or t y 0) f.here)

pub fine_same : {N : ℕ} {s t : List ℕ} → SoundStore N s → SoundStore N t → ((j : ℕ) → Member s j ↔ Member t j) → s ≡ t
fine_same {N} {s} {t} f g m =
    by_layers N s t f.is.long g.is.long
    (λ x h. let z : x ≡ 0 = omega arith in ap (λ (y : ℕ). get_or s y 0) z ∙ f.is.names ∙ sym (ap (λ (y : ℕ). get_or t y 0) z ∙ g.is.names))
    (layers_same N s t f.words g.words f.sound g.sound (λ p l o. sym (agree p l) ∙ o) (λ p l o. agree p l ∙ o))
  where
    agree : (p : ℕ) → p < N → on N s 0 p ≡ on N t 0 p
    agree p l = bits_agree f.is.names g.is.names l (m p)
