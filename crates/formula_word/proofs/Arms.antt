-- What each arm of the code makes, and one turn of the loop over the codes.
use mathlib.Core.List.{List, [], ◌∷◌}
use mathlib.Core.Logic.{◌≢◌, inl, inr}
use mathlib.Core.Path.{◌≡◌, refl, sym, ap, ap₂, ◌∙◌}
use Prim.Native.Nat.{ℕ, zero, suc, ◌+◌, ◌-◌, ◌%◌, ◌≤◌, ◌<◌}
use native.Mathlib.Decide.{ℕ_discrete}
use native.Mathlib.Omega.{arith}
use lib.Bits.{bit_and}
use lib.ListN.{length, get_or, set, take, drop, length-set, length-drop}
use lib.Seq.{get_or-set_same, get_or-set_other}
use Rattle.std.proofs.Common.{take_all}
use Rattle.util.specs.Word.{flip}
use Rattle.formula_codes.specs.Codes.{code_kind}
use Rattle.formula_codes.specs.Tree.{joined, not_in}
use Rattle.formula_codes.proofs.Turns.{kind_store, kind_unknown}
use Rattle.formula_word.specs.Machine.{Stack, made_of, moves, stepped, evaluated}
use Rattle.formula_word.specs.Steps.{held, Joins, Turned}
use Rattle.formula_word.specs.declared.Ground.{Ground}

-- ---- what a code makes

module _ (c w k cut a b : ℕ) where
  pub made_store : c < 4 → w ≡ made_of (code_kind c) w k cut a b
  unfolding made_of
  made_store h = sym (rw (kind_store c h))

  -- a code that joins two looks at nothing else
  pub made_joined : 16 ≤ c → c < 19 → joined c k a b ≡ made_of (code_kind c) w k cut a b
  unfolding made_of code_kind joined
  made_joined h l = go (ℕ_discrete c 16) (ℕ_discrete c 17)
    where
      go : Dec (c ≡ 16) → Dec (c ≡ 17) → joined c k a b ≡ made_of (code_kind c) w k cut a b
      go (yes e) d = rw e
      go (no n) (yes e) = rw e
      go (no n) (no o) = let e : c ≡ 18 = omega arith in rw e

  pub made_all : c ≡ 20 → cut ≡ made_of (code_kind c) w k cut a b
  unfolding made_of code_kind
  made_all e = sym (rw e)

  pub made_not : c ≡ 19 → k ≡ 0 → bit_and cut (flip b) ≡ made_of (code_kind c) w k cut a b
  unfolding made_of code_kind not_in
  made_not e z = sym (rw (e, z))

  pub made_low : 4 ≤ c → c < 16 → b ≡ made_of (code_kind c) w k cut a b
  unfolding made_of
  made_low h l = sym (rw (kind_unknown c h (inl l) (λ e. omega arith) (λ e. omega arith)))

  pub made_high : 21 ≤ c → b ≡ made_of (code_kind c) w k cut a b
  unfolding made_of
  made_high h = sym (rw (kind_unknown c (omega arith) (inr (omega arith)) (λ e. omega arith) (λ e. omega arith)))

-- not above layer 0
pub made_not_above : (c w k cut a b : ℕ) → c ≡ 19 → k ≢ 0 → cut ≡ made_of (code_kind c) w k cut a b
unfolding made_of code_kind not_in
made_not_above c w zero cut a b e n = absurd (n refl)
made_not_above c w (suc k) cut a b e n = sym (rw e)

pub ruleset mades = (made_store, made_joined, made_all, made_not, made_not_above, made_low, made_high)

-- ---- where the place goes

module _ (c : ℕ) where
  pub moves_on : c < 4 → 1 ≡ moves (code_kind c)
  unfolding moves
  moves_on h = sym (rw (kind_store c h))

  pub moves_all : c ≡ 20 → 1 ≡ moves (code_kind c)
  unfolding moves code_kind
  moves_all e = sym (rw e)

  pub moves_back : 16 ≤ c → c < 19 → 7 ≡ moves (code_kind c)
  unfolding moves code_kind
  moves_back h l = go (ℕ_discrete c 16) (ℕ_discrete c 17)
    where
      go : Dec (c ≡ 16) → Dec (c ≡ 17) → 7 ≡ moves (code_kind c)
      go (yes e) d = sym (rw e)
      go (no a) (yes e) = sym (rw e)
      go (no a) (no b) = let e : c ≡ 18 = omega arith in sym (rw e)

  pub moves_not : c ≡ 19 → 0 ≡ moves (code_kind c)
  unfolding moves code_kind
  moves_not e = sym (rw e)

  pub moves_low : 4 ≤ c → c < 16 → 0 ≡ moves (code_kind c)
  unfolding moves
  moves_low h l = sym (rw (kind_unknown c h (inl l) (λ e. omega arith) (λ e. omega arith)))

  pub moves_high : 21 ≤ c → 0 ≡ moves (code_kind c)
  unfolding moves
  moves_high h = sym (rw (kind_unknown c (omega arith) (inr (omega arith)) (λ e. omega arith) (λ e. omega arith)))

pub ruleset moved = (moves_on, moves_all, moves_back, moves_not, moves_low, moves_high)

-- ---- turns

-- the codes behind the first n, as the code lends them
pub behind : (n : ℕ) (cs : List ℕ) → take (length cs - n) (drop n cs) ≡ drop n cs
behind n cs = take_all (length cs - n) (drop n cs) (omega (arith, length-drop n cs))

-- one code
module _ (g : Ground) (v : List ℕ) (d b : ℕ) where
  pub turned_one : (cs : List ℕ) (m r : ℕ) → 0 < length cs → m ≡ moves (code_kind (get_or cs 0 0))
      → r ≡ made_of (code_kind (get_or cs 0 0)) (get_or g.words.now (get_or cs 0 0) 0) g.k g.cut (get_or (set v d b) ((d + 7) % 8) 0) b
      → Turned g (held v d b) cs (held (set v d b) ((d + m) % 8) r) (take (length cs - 1) (drop 1 cs))
  unfolding evaluated stepped
  turned_one [] m r h em er = absurd (omega arith)
  turned_one (c ∷ cs) m r h em er =
      rw (behind 1 (c ∷ cs)) (record { on = omega arith; same = ap₂ (λ (x y : ℕ). evaluated g.k g.cut g.words.now cs (held (set v d b) ((d + x) % 8) y)) em er })

-- a store's code
store_step : (k cut : ℕ) (ws v : List ℕ) (c d b : ℕ) → c < 4 → stepped k cut ws c (held v d b) ≡ held (set v d b) ((d + 1) % 8) (get_or ws c 0)
unfolding stepped made_of moves
store_step k cut ws v c d b h = rw (kind_store c h)

-- a code that joins the values x and y, which was put last
join_step : (k cut : ℕ) (ws v : List ℕ) (c d x y : ℕ) {r : ℕ} → 16 ≤ c → c < 19 → get_or (set v d y) ((d + 7) % 8) 0 ≡ x → r ≡ joined c k x y
    → stepped k cut ws c (held v d y) ≡ held (set v d y) ((d + 7) % 8) r
unfolding stepped
join_step k cut ws v c d x y h l e er =
    ap₂ (λ (m z : ℕ). held (set v d y) ((d + m) % 8) (made_of (code_kind c) (get_or ws c 0) k cut z y)) (sym (moves_back c h l)) e
    ∙ ap (held (set v d y) ((d + 7) % 8)) (sym (er ∙ made_joined c (get_or ws c 0) k cut x y h l))

-- three codes that join two stores
module _ (g : Ground) (v : List ℕ) (d b : ℕ) (long : length v ≡ 8) (h : d < 8) where
  abbrev e : ℕ
  e = (d + 1) % 8

  abbrev three_put : ℕ → ℕ → List ℕ
  three_put x y = set (set (set v d b) e x) ((d + 2) % 8) y

  abbrev word_of : ℕ → ℕ
  word_of c = get_or g.words.now c 0

  -- the first two put their words, and the third finds them
  three_steps : (c₀ c₁ c₂ r : ℕ) → c₀ < 4 → c₁ < 4 → 16 ≤ c₂ → c₂ < 19 → r ≡ joined c₂ g.k (word_of c₀) (word_of c₁)
      → stepped g.k g.cut g.words.now c₂ (stepped g.k g.cut g.words.now c₁ (stepped g.k g.cut g.words.now c₀ (held v d b))) ≡ held (three_put (word_of c₀) (word_of c₁)) e r
  three_steps c₀ c₁ c₂ r h₀ h₁ h₂ l₂ er =
      let step : ℕ → Stack → Stack = stepped g.k g.cut g.words.now in
      let x = word_of c₀ in
      let y = word_of c₁ in
      let v₁ = set v d b in
      let v₂ = set v₁ e x in
      let q : (e + 1) % 8 ≡ (d + 2) % 8 = omega arith in
      let z : ((d + 2) % 8 + 7) % 8 ≡ e = omega arith in
      let i : e < length v₁ = omega (arith, length-set v d b) in
      let under : get_or (set v₂ ((d + 2) % 8) y) (((d + 2) % 8 + 7) % 8) 0 ≡ x =
      ap (λ (n : ℕ). get_or (set v₂ ((d + 2) % 8) y) n 0) z ∙ get_or-set_other v₂ ((d + 2) % 8) e y 0 (λ (s : e ≡ (d + 2) % 8). omega arith) ∙ get_or-set_same v₁ e x 0 i in
      ap (λ s. step c₂ (step c₁ s)) (store_step g.k g.cut g.words.now v c₀ d b h₀)
      ∙ ap (step c₂) (store_step g.k g.cut g.words.now v₁ c₁ e x h₁ ∙ ap (λ (n : ℕ). held v₂ n y) q)
      ∙ join_step g.k g.cut g.words.now v₂ c₂ ((d + 2) % 8) x y h₂ l₂ under er
      ∙ ap (λ (n : ℕ). held (set v₂ ((d + 2) % 8) y) n r) z

  pub turned_three : (cs : List ℕ) (r : ℕ) → Joins cs → r ≡ joined (get_or cs 2 0) g.k (word_of (get_or cs 0 0)) (word_of (get_or cs 1 0))
      → Turned g (held v d b) cs (held (three_put (word_of (get_or cs 0 0)) (word_of (get_or cs 1 0))) e r) (take (length cs - 3) (drop 3 cs))
  unfolding evaluated
  turned_three [] r j er = absurd (omega (arith, j.there))
  turned_three (c₀ ∷ []) r j er = absurd (omega (arith, j.there))
  turned_three (c₀ ∷ c₁ ∷ []) r j er = absurd (omega (arith, j.there))
  turned_three (c₀ ∷ c₁ ∷ c₂ ∷ cs) r j er =
      rw (behind 3 (c₀ ∷ c₁ ∷ c₂ ∷ cs)) (record { on = omega arith; same = ap (evaluated g.k g.cut g.words.now cs) (sym (three_steps c₀ c₁ c₂ r j.first j.second j.joins j.known er)) })

  -- and a fourth that joins what waits with them
  four : (cs : List ℕ) (z r : ℕ) → Joins cs → 0 < length (drop 3 cs) → 16 ≤ get_or (drop 3 cs) 0 0 → get_or (drop 3 cs) 0 0 < 19
      → z ≡ joined (get_or cs 2 0) g.k (word_of (get_or cs 0 0)) (word_of (get_or cs 1 0)) → r ≡ joined (get_or (drop 3 cs) 0 0) g.k b z
      → Turned g (held v d b) cs (held (set (three_put (word_of (get_or cs 0 0)) (word_of (get_or cs 1 0))) e z) d r) (drop 1 (drop 3 cs))
  unfolding evaluated
  four [] z r j m h₃ l₃ ez er = absurd (omega (arith, j.there))
  four (c₀ ∷ []) z r j m h₃ l₃ ez er = absurd (omega (arith, j.there))
  four (c₀ ∷ c₁ ∷ []) z r j m h₃ l₃ ez er = absurd (omega (arith, j.there))
  four (c₀ ∷ c₁ ∷ c₂ ∷ []) z r j m h₃ l₃ ez er = absurd (omega (arith, m))
  four (c₀ ∷ c₁ ∷ c₂ ∷ c₃ ∷ cs) z r j m h₃ l₃ ez er =
      let x = word_of c₀ in
      let y = word_of c₁ in
      let v₁ = set v d b in
      let v₂ = set v₁ e x in
      let v₃ = set v₂ ((d + 2) % 8) y in
      let f : (e + 7) % 8 ≡ d = omega arith in
      let under : get_or (set v₃ e z) ((e + 7) % 8) 0 ≡ b =
      ap (λ (n : ℕ). get_or (set v₃ e z) n 0) f
      ∙ get_or-set_other v₃ e d z 0 (λ (s : d ≡ e). omega arith)
      ∙ get_or-set_other v₂ ((d + 2) % 8) d y 0 (λ (s : d ≡ (d + 2) % 8). omega arith)
      ∙ get_or-set_other v₁ e d x 0 (λ (s : d ≡ e). omega arith)
      ∙ get_or-set_same v d b 0 (omega arith) in
      record {
        on = omega arith;
        same = sym (
            ap (λ s. evaluated g.k g.cut g.words.now cs (stepped g.k g.cut g.words.now c₃ s)) (three_steps c₀ c₁ c₂ z j.first j.second j.joins j.known ez)
            ∙ ap (evaluated g.k g.cut g.words.now cs) (join_step g.k g.cut g.words.now v₃ c₃ e b z h₃ l₃ under er ∙ ap (λ (n : ℕ). held (set v₃ e z) n r) f)
            );
      }

  pub turned_four : (cs : List ℕ) (z r : ℕ) → Joins cs → let u = take (length cs - 3) (drop 3 cs) in 0 < length u → 16 ≤ get_or u 0 0 → get_or u 0 0 < 19
      → z ≡ joined (get_or cs 2 0) g.k (word_of (get_or cs 0 0)) (word_of (get_or cs 1 0)) → r ≡ joined (get_or u 0 0) g.k b z
      → Turned g (held v d b) cs (held (set (three_put (word_of (get_or cs 0 0)) (word_of (get_or cs 1 0))) e z) d r) (take (length u - 1) (drop 1 u))
  turned_four cs z r j m h₃ l₃ ez er =
      let q = behind 3 cs in rw (q, behind 1 (drop 3 cs)) (four cs z r j (rw q at m) (rw q at h₃) (rw q at l₃) ez (rw q at er))
