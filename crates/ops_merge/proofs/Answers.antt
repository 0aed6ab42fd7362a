-- What each way out of the three calls answers and leaves is what was promised there.
use mathlib.Core.Bool.{true}
use mathlib.Core.List.{List, zip_with}
use mathlib.Core.Path.{◌≡◌, refl, sym, ap, ◌∙◌, subst}
use Prim.Native.Nat.{ℕ, ◌-◌, ◌*◌}
use native.Mathlib.Omega.{arith}
use borrow.Author.Tests.{eq-eqb}
use lib.Pow.{pow_pos}
use Rattle.util.specs.Outcome.{settled}
use Rattle.util.proofs.Bits.{bit_of_zero}
use Rattle.store.specs.Answer.{does, tested_pair}
use Rattle.store.specs.Build.{build, layer0}
use Rattle.store.specs.Layout.{top, cap, StoreOf}
use Rattle.store.specs.Word.{Sound, Words64}
use Rattle.std.specs.Prelude.{Result, Ok, Err}
use Rattle.store.specs.declared.Refusal.{Refusal}
use Rattle.store.proofs.Ends.{pair_refused}
use Rattle.store.proofs.Geometry.{is_store_lem, store_kept}
use Rattle.ops_word.specs.Op.{op_word}
use Rattle.ops_merge.specs.Calls.{merged_of, mergeable, assign_of, Assigned}
use Rattle.ops_merge.specs.Tree.{MergeAt, Level}
use Rattle.ops_merge.proofs.Whole.{top-told, done_merged}

-- a refusal changes nothing
pub refused : (op : ℕ) (s t : List ℕ) {r : Result ℕ Refusal} {x : Refusal} → r ≡ tested_pair s t → r ≡ Err x → Assigned op s t (Err x) s
unfolding assign_of
refused op s t e h =
    let v = settled (pair_refused s t e h (does (merged_of op s t)) s) in
    record { answer = v.answer; long = refl; names = refl; whole = λ z. v }

-- what the top word is asked of
pub ask_top : {N k : ℕ} {s t : List ℕ} → StoreOf N s → StoreOf N t → k ≡ top N → MergeAt s t N k 0
ask_top {N} {k} z y h = record { first = z; second = y; known = omega arith; small = pow_pos (6 * (top N - k)) }

-- and what it gives
module _ {op N k : ℕ} {s t : List ℕ} {u : List ℕ} {r : ℕ} (z : StoreOf N s) (y : StoreOf N t) (h : k ≡ top N) (ws : Words64 s) (wt : Words64 t)
    (wu : Words64 u) (v : Level N op s t k 0 0 1 u r 0) where
  caps : cap s ≡ cap t
  caps = z.names ∙ sym y.names

  there : StoreOf N u
  there = store_kept z v.long (v.head 0 (omega arith))

  pair : mergeable s t ≡ true
  unfolding mergeable
  pair = rw (is_store_lem z, is_store_lem y) (eq-eqb (cap s) (cap t) caps)

  merged : Sound N s → Sound N t → u ≡ merged_of op s t
  unfolding merged_of
  merged zs zt =
      let x = subst (λ (i : ℕ). Level N op s t i 0 0 1 u r 0) h v in
      let d = ((x.along (top-told N op s t z.some z.most zs.layers zt.layers)).done 0 refl (bit_of_zero 0)).is in
      subst (λ (n : ℕ). u ≡ build n (zip_with (op_word op) (layer0 n s) (layer0 n t))) (sym z.names)
      (done_merged op z y ws wt zs zt u there wu d)

  pub merge_done : Assigned op s t (Ok tt) u
  unfolding assign_of
  merge_done =
      let f = eq-eqb (cap s) (cap t) caps in
      record {
        answer = rw (is_store_lem z, is_store_lem y, f);
        long = v.long;
        names = v.head 0 (omega arith);
        whole = λ h.
            let b = h pair in
            settled (rw (is_store_lem z, is_store_lem y, f)
            (ap (λ (l : List ℕ). does l)
            (sym (merged (subst (λ (n : ℕ). Sound n s) z.names b.0) (subst (λ (n : ℕ). Sound n t) y.names b.1)))));
      }
