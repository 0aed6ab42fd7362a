-- What a caller wants: the result is sound, its members are the union, the intersection or the symmetric difference, it is the one sound
-- store with those members, and any two outcomes that meet the promise are equal where it settles them.
use mathlib.Core.Bool.{Bool, true, false, cond, ◌&&◌, true≢false}
use mathlib.Core.List.{List, [], ◌∷◌, zip_with}
use mathlib.Core.Logic.{◌≢◌, ◌⊎◌, inl, inr, ⊎_elim, ◌↔◌}
use mathlib.Core.Path.{◌≡◌, refl, sym, ap, ap₂, ◌∙◌, subst}
use Prim.Native.Nat.{ℕ, zero, suc, ◌/◌, ◌%◌, ◌<◌, max}
use native.Mathlib.Decide.{ℕ_discrete}
use native.Mathlib.Omega.{arith}
use borrow.Author.Tests.{eqb-true}
use lib.Bits.{differ}
use lib.Dec.{eqb}
use lib.ListN.{length}
use Rattle.util.specs.Outcome.{Outcome, Settled, settles}
use Rattle.util.specs.Word.{bit}
use Rattle.util.proofs.Same.{both}
use Rattle.store.specs.Answer.{did_paper, does, refuses}
use Rattle.store.specs.Build.{build, layer0}
use Rattle.store.specs.Layout.{layer_len, cap, is_store, StoreOf}
use Rattle.store.specs.Word.{on, word, Member, Sound, Words64, SoundStore}
use Rattle.std.specs.Prelude.{Result}
use Rattle.store.specs.declared.Refusal.{Refusal}
use Rattle.store.proofs.Build.{cap-build, on-build, build_fine}
use Rattle.store.proofs.Geometry.{is_store_lem, store_is}
use Rattle.store.proofs.Members.{member-on, on-member, own, fine_same}
use Rattle.store.proofs.Words.{on_lt}
use Rattle.ops_word.specs.Op.{op_word, op_bit}
use Rattle.ops_word.specs.Named.{code, named}
use Rattle.ops_word.proofs.Laws.{op_bit_lem, op_word_named}
use Rattle.ops_merge.specs.Calls.{merged_of, mergeable, BothStores, assign_of, BothSound, Assigned}
use Rattle.ops_merge.proofs.Tree.{on_is}
use Rattle.ops_merge.proofs.Whole.{long_merged, word_merged, kept_merged}

-- the test of two stores, as facts
pub both_stores : (s t : List ℕ) → mergeable s t ≡ true → BothStores s t
unfolding mergeable
both_stores s t e =
    let p = both (is_store s && is_store t) (eqb (cap s) (cap t)) e in
    let q = both (is_store s) (is_store t) p.0 in
    let c : cap t ≡ cap s = sym (eqb-true (cap s) (cap t) p.1) in
    record { first = store_is q.0; second = subst (λ (n : ℕ). StoreOf n t) c (store_is q.1); caps = c }

differ_one : (x y : ℕ) → x < 2 → y < 2 → differ x y ≡ 1 → ((x ≡ 1) × (y ≡ 0)) ⊎ ((y ≡ 1) × (x ≡ 0))
differ_one zero y h g e = inr (e, refl)
differ_one (suc x) zero h g e = inl (e, refl)
differ_one (suc zero) (suc zero) h g e = absurd (omega arith)
differ_one (suc zero) (suc (suc y)) h g e = absurd (omega arith)
differ_one (suc (suc x)) (suc y) h g e = absurd (omega arith)

-- ---- THE RESULT, for two sound stores of equal capacity
module _ (s t : List ℕ) (p : BothStores s t) (ws : Words64 s) (wt : Words64 t) where
  abbrev low : ℕ → List ℕ
  low op = zip_with (op_word op) (layer0 (cap s) s) (layer0 (cap s) t)

  long : (op : ℕ) → length (low op) ≡ layer_len (cap s) 0
  long op = long_merged op p.first p.second ws wt

  pub cap_merged : (op : ℕ) → cap (merged_of op s t) ≡ cap s
  unfolding merged_of
  cap_merged op = cap-build (cap s) (low op) (long op)

  -- bit by bit
  pub on_merged : (op i : ℕ) → on (cap s) (merged_of op s t) 0 i ≡ op_bit op (on (cap s) s 0 i) (on (cap s) t 0 i)
  unfolding merged_of
  on_merged op i =
      on-build (cap s) (low op) (long op) i
      ∙ ap (λ (w : ℕ). bit w (i % 64)) (word_merged op p.first p.second ws wt (i / 64))
      ∙ op_bit_lem op (word (cap s) s 0 (i / 64)) (word (cap s) t 0 (i / 64)) (i % 64)
      ∙ sym (ap₂ (op_bit op) (on_is (cap s) s 0 i) (on_is (cap s) t 0 i))

  -- SOUNDNESS is kept
  fine_both : (op : ℕ) → Sound (cap s) s → Sound (cap s) t → SoundStore (cap s) (merged_of op s t)
  unfolding merged_of
  fine_both op zs zt =
      build_fine (cap s) (low op) p.first.some p.first.most (long op) (kept_merged op p.first p.second ws wt zs zt)

  pub sound_merged : (op : ℕ) → Sound (cap s) s → Sound (cap s) t → Sound (cap s) (merged_of op s t)
  sound_merged op zs zt = (fine_both op zs zt).sound

  -- a member of a store of this capacity, by its bit
  by_bit : (u : List ℕ) → cap u ≡ cap s → (i : ℕ) → Member u i ↔ ((i < cap s) × (on (cap s) u 0 i ≡ 1))
  by_bit u c i = (member-on c, λ m. on-member c m.0 m.1)

  module _ (i : ℕ) where
    abbrev a : ℕ
    a = on (cap s) s 0 i

    abbrev b : ℕ
    b = on (cap s) t 0 i

    of_s : Member s i ↔ ((i < cap s) × (a ≡ 1))
    of_s = by_bit s refl i

    of_t : Member t i ↔ ((i < cap s) × (b ≡ 1))
    of_t = by_bit t p.caps i

    of_merged : (op : ℕ) → Member (merged_of op s t) i ↔ ((i < cap s) × (op_bit op a b ≡ 1))
    of_merged op = rw (sym (on_merged op i)) (by_bit (merged_of op s t) (cap_merged op) i)

    small : (a < 2) × (b < 2)
    small = (on_lt (cap s) s 0 i, on_lt (cap s) t 0 i)

    -- UNION
    pub member_or : Member (merged_of 17 s t) i ↔ (Member s i ⊎ Member t i)
    unfolding op_bit
    member_or = (to, from)
      where
        to : Member (merged_of 17 s t) i → Member s i ⊎ Member t i
        to m = let h = (of_merged 17).0 m in go h (ℕ_discrete a 1)
          where
            go : (i < cap s) × (max a b ≡ 1) → Dec (a ≡ 1) → Member s i ⊎ Member t i
            go h (yes e) = inl (of_s.1 (h.0, e))
            go h (no e) = inr (of_t.1 (h.0, omega (arith, h.1, small)))

        from : Member s i ⊎ Member t i → Member (merged_of 17 s t) i
        from =
            ⊎_elim
            (λ (m : Member s i). let h = of_s.0 m in (of_merged 17).1 (h.0, omega (arith, h.1, small)))
            (λ (m : Member t i). let h = of_t.0 m in (of_merged 17).1 (h.0, omega (arith, h.1, small)))

    -- INTERSECTION
    pub member_and : Member (merged_of 16 s t) i ↔ (Member s i × Member t i)
    unfolding op_bit
    member_and = (
      (λ m. let h = (of_merged 16).0 m in (of_s.1 (h.0, omega (arith, h.1, small)), of_t.1 (h.0, omega (arith, h.1, small)))),
      λ m. let h = of_s.0 m.0 in let g = of_t.0 m.1 in (of_merged 16).1 (h.0, omega (arith, h.1, g.1)),
    )

    -- SYMMETRIC DIFFERENCE
    pub member_xor : Member (merged_of 18 s t) i ↔ ((Member s i × (Member t i → ⊥)) ⊎ (Member t i × (Member s i → ⊥)))
    unfolding op_bit
    member_xor = (to, from)
      where
        to : Member (merged_of 18 s t) i → (Member s i × (Member t i → ⊥)) ⊎ (Member t i × (Member s i → ⊥))
        to m =
            let h = (of_merged 18).0 m in
            ⊎_elim
            (λ (q : (a ≡ 1) × (b ≡ 0)). inl (of_s.1 (h.0, q.0), λ n. omega (arith, q.1, (of_t.0 n).1)))
            (λ (q : (b ≡ 1) × (a ≡ 0)). inr (of_t.1 (h.0, q.0), λ n. omega (arith, q.1, (of_s.0 n).1)))
            (differ_one a b small.0 small.1 h.1)

        from : (Member s i × (Member t i → ⊥)) ⊎ (Member t i × (Member s i → ⊥)) → Member (merged_of 18 s t) i
        from =
            ⊎_elim
            (λ (m : Member s i × (Member t i → ⊥)).
            let h = of_s.0 m.0 in
            let n : b ≢ 1 = λ e. m.1 (of_t.1 (h.0, e)) in
            let z : b ≡ 0 = omega (arith, small.1) in
            (of_merged 18).1 (h.0, ap₂ differ h.1 z))
            (λ (m : Member t i × (Member s i → ⊥)).
            let h = of_t.0 m.0 in
            let n : a ≢ 1 = λ e. m.1 (of_s.1 (h.0, e)) in
            let z : a ≡ 0 = omega (arith, small.0) in
            (of_merged 18).1 (h.0, ap₂ differ z h.1))

  -- THE ONE SOUND STORE with those members
  pub merged_unique : (op : ℕ) → Sound (cap s) s → Sound (cap s) t → (u : List ℕ) → SoundStore (cap s) u
      → ((i : ℕ) → Member u i ↔ Member (merged_of op s t) i) → u ≡ merged_of op s t
  merged_unique op zs zt u f same = fine_same f (fine_both op zs zt) same

-- ---- THE CALLS

-- what it leaves of two sound stores of equal capacity is the merged store
pub leaves_merged : {op : ℕ} {s t : List ℕ} {r : Result (Unit {0}) Refusal} {u : List ℕ} → Assigned op s t r u → mergeable s t ≡ true → Sound (cap s) s → Sound (cap t) t
    → u ≡ merged_of op s t
unfolding mergeable assign_of
leaves_merged {op} {s} {t} v h zs zt =
    let p = both (is_store s && is_store t) (eqb (cap s) (cap t)) h in
    (v.whole (λ g. (zs, zt))).memory ∙ rw (p.0, p.1)

-- WHAT A CALL LEAVES of two sound stores is a sound store: of equal capacity the merged one, and of another nothing is changed
pub fine_merged : {N M op : ℕ} {s t : List ℕ} {r : Result (Unit {0}) Refusal} {u : List ℕ} → SoundStore N s → SoundStore M t → Assigned op s t r u → SoundStore N u
unfolding mergeable assign_of
fine_merged {N} {M} {op} {s} {t} {r} {u} f g v = subst (λ (n : ℕ). SoundStore n u) f.is.names (go (eqb (cap s) (cap t)) refl)
  where
    go : (x : Bool) → eqb (cap s) (cap t) ≡ x → SoundStore (cap s) u
    go true e =
        let h : mergeable s t ≡ true = rw (is_store_lem f.is, is_store_lem g.is, e) in
        let p = both_stores s t h in
        subst (SoundStore (cap s)) (sym (leaves_merged v h (own f).sound (own g).sound))
        (fine_both s t p f.words g.words op (own f).sound (subst (λ (n : ℕ). Sound n t) p.caps (own g).sound))
    go false e =
        let n : mergeable s t ≡ false = rw (is_store_lem f.is, is_store_lem g.is, e) in
        let k : (assign_of op s t).lent ≡ s = rw (is_store_lem f.is, is_store_lem g.is, e) in
        subst (SoundStore (cap s)) (sym ((v.whole (λ h. absurd (true≢false (sym h ∙ n)))).memory ∙ k)) (own f)

pub assigned_sound : {N M op : ℕ} {s t : List ℕ} {r : Result (Unit {0}) Refusal} {u : List ℕ} → SoundStore N s → SoundStore M t → Assigned op s t r u → Sound (cap u) u
assigned_sound f g v = (own (fine_merged f g v)).sound

-- "Any two outcomes that satisfy it are proved equal": always the answer, length and word 0; all memory but where the call goes through
-- with an unsound store
pub assigned_answers : {op : ℕ} {s t : List ℕ} {r r' : Result (Unit {0}) Refusal} {u u' : List ℕ} → Assigned op s t r u → Assigned op s t r' u'
    → (r ≡ r') × (length u ≡ length u') × (cap u ≡ cap u')
assigned_answers {r = r} {r' = r'} v w = (
  sym (did_paper.same r) ∙ ap did_paper.answer (v.answer ∙ sym w.answer) ∙ did_paper.same r',
  v.long ∙ sym w.long,
  v.names ∙ sym w.names,
)

pub assigned_settles : {op : ℕ} {s t : List ℕ} {r r' : Result (Unit {0}) Refusal} {u u' : List ℕ} → Assigned op s t r u → Assigned op s t r' u' → BothSound s t → (r ≡ r') × (u ≡ u')
assigned_settles v w z = settles (v.whole z) (w.whole z)

-- "16 and, 17 or, 18 xor": a call told by the operation of a number keeps what is promised for the number
zip_same : (f g : ℕ → ℕ → ℕ) → ((x y : ℕ) → f x y ≡ g x y) → (xs ys : List ℕ) → zip_with f xs ys ≡ zip_with g xs ys
unfolding zip_with
zip_same f g e [] ys = refl
zip_same f g e (x ∷ xs) [] = refl
zip_same f g e (x ∷ xs) (y ∷ ys) = ap₂ (λ (z : ℕ) (zs : List ℕ). z ∷ zs) (e x y) (zip_same f g e xs ys)

pub assign_named : (n : ℕ) (s t : List ℕ) → assign_of (code (named n)) s t ≡ assign_of n s t
unfolding assign_of merged_of
assign_named n s t =
    ap (λ (l : List ℕ). cond (is_store s && is_store t) (cond (eqb (cap s) (cap t)) (does (build (cap s) l)) (refuses 5 s)) (refuses 2 s))
    (zip_same (op_word (code (named n))) (op_word n) (op_word_named n) (layer0 (cap s) s) (layer0 (cap s) t))

pub assigned_named : (n : ℕ) {s t : List ℕ} {r : Result (Unit {0}) Refusal} {u : List ℕ} → Assigned (code (named n)) s t r u → Assigned n s t r u
assigned_named n {s} {t} {r} {u} v =
    let e = assign_named n s t in
    record {
      answer = v.answer ∙ ap (λ (o : Outcome (List ℕ)). o.numbers) e;
      long = v.long;
      names = v.names;
      whole = λ z. subst (λ (o : Outcome (List ℕ)). Settled did_paper o r u) e (v.whole z);
    }
