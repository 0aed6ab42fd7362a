-- The layers that adding and removing write, case by case.
use mathlib.Core.List.{List}
use mathlib.Core.Logic.{◌≢◌}
use mathlib.Core.Path.{◌≡◌, refl, sym, ◌∙◌}
use Prim.Native.Nat.{ℕ, zero, suc, ◌/◌}
use native.Mathlib.Decide.{ℕ_discrete}
use native.Mathlib.Omega.{arith}
use borrow.Author.Tests.{eq-eqb, ne_eqb}
use Rattle.store.specs.Layout.{top}
use Rattle.store.specs.Word.{word, on}
use Rattle.set_edit.specs.Edit.{add_layers, word_left, climb, remove_layers}

module _ (N : ℕ) (s : List ℕ) (i : ℕ) where
  pub add_none : on N s 0 i ≡ 1 → add_layers N s i ≡ 0
  unfolding add_layers
  add_none h = rw (eq-eqb (on N s 0 i) 1 h)

  pub add_all_lem : on N s 0 i ≢ 1 → word N s 0 (i / 64) ≡ 0 → add_layers N s i ≡ suc (top N)
  unfolding add_layers
  add_all_lem h w = rw (ne_eqb (on N s 0 i) 1 h, eq-eqb (word N s 0 (i / 64)) 0 w)

  pub add_one_layer : on N s 0 i ≢ 1 → word N s 0 (i / 64) ≢ 0 → add_layers N s i ≡ 1
  unfolding add_layers
  add_one_layer h w = rw (ne_eqb (on N s 0 i) 1 h, ne_eqb (word N s 0 (i / 64)) 0 w)

  pub remove_none : on N s 0 i ≢ 1 → remove_layers N s i ≡ 0
  unfolding remove_layers
  remove_none h = rw (ne_eqb (on N s 0 i) 1 h)

  pub remove_some : on N s 0 i ≡ 1 → remove_layers N s i ≡ climb N s i 0 (top N)
  unfolding remove_layers
  remove_some h = rw (eq-eqb (on N s 0 i) 1 h)

  -- one turn of the climb
  pub climb_stop : (k d : ℕ) → word_left N s i k ≢ 0 → climb N s i k d ≡ suc k
  unfolding climb
  climb_stop k zero h = refl
  climb_stop k (suc d) h = rw (ne_eqb (word_left N s i k) 0 h)

  pub climb-on : (k d : ℕ) → word_left N s i k ≡ 0 → climb N s i k (suc d) ≡ climb N s i (suc k) d
  unfolding climb
  climb-on k d h = rw (eq-eqb (word_left N s i k) 0 h)

  pub climb-top : (k : ℕ) → climb N s i k 0 ≡ suc k
  unfolding climb
  climb-top k = refl

  -- it writes a layer at least
  pub climb_some : (k d : ℕ) → climb N s i k d ≢ 0
  climb_some k zero e = omega (arith, sym (climb-top k) ∙ e)
  climb_some k (suc d) e = go (climb_some (suc k) d) (ℕ_discrete (word_left N s i k) 0)
    where
      go : climb N s i (suc k) d ≢ 0 → Dec (word_left N s i k ≡ 0) → ⊥
      go rest (yes w) = rest (sym (climb-on k d w) ∙ e)
      go rest (no w) = omega (arith, sym (climb_stop k (suc d) w) ∙ e)
