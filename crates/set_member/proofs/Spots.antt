-- Where code finds the word over an id in a layer.
use mathlib.Core.List.{List}
use mathlib.Core.Path.{◌≡◌, sym, ap, ap₂, ◌∙◌}
use Prim.Native.Nat.{ℕ, suc, ◌+◌, ◌*◌, ◌/◌, ◌^◌, ◌<◌}
use native.Mathlib.Numerals.{add-one}
use native.Mathlib.Omega.{arith}
use lib.ListN.{length, get_or}
use Rattle.store.specs.Layout.{layer_len, layer_start, start_from}
use Rattle.store.specs.Word.{word, anc}
use Rattle.store.proofs.Ends.{Part, part}
use Rattle.store.proofs.Words.{word_in, place_in, anc_in, anc_shift}
use Rattle.set_member.specs.Place.{Placed}

-- the word over id i in layer k: where it stands in the store and in the layer
pub record IdSpot (s : List ℕ) (N i k : ℕ) : Type 0 where
  pub at : Part N s k
  pub here : i / 2 ^ (6 * (k + 1)) ≡ anc i k / 64
  pub in_layer : anc i k / 64 < layer_len N k

pub spot : {s : List ℕ} {N i k : ℕ} → Placed s N i k → IdSpot s N i k
unfolding anc
spot {s} {N} {i} {k} p =
    record {
      at = part p.store k p.layer;
      here = ap (λ (x : ℕ). i / 2 ^ (6 * x)) (add-one k) ∙ sym (anc_shift i (suc k));
      in_layer = place_in N k (anc i k) (anc_in N i k p.below);
    }

-- the same at the code's numbers: a is where the layer starts, q the word in it
module _ {s : List ℕ} {N i k : ℕ} (p : Placed s N i k) (a q : ℕ) (a_is : a ≡ start_from (length s) N k) (q-is : q ≡ i / 2 ^ (6 * (k + 1))) where
  pub record Ranged : Type 0 where
    pub start : a ≡ layer_start N k
    pub index : q ≡ anc i k / 64
    pub inside : a + q < length s

  pub ranged : Ranged
  ranged =
      let z = spot p in
      record {
        start = a_is ∙ z.at.starts;
        index = q-is ∙ z.here;
        inside = omega (arith, a_is, z.at.starts, q-is, z.here, z.in_layer, z.at.size, z.at.inside);
      }

  pub word_there : get_or s (a + q) 0 ≡ word N s k (anc i k / 64)
  word_there =
      let r = ranged in
      ap₂ (λ (x y : ℕ). get_or s (x + y) 0) r.start r.index ∙ sym (word_in N s k (anc i k / 64) (spot p).in_layer)
