-- Layer 0 as the part of the store that the writer lends on, and the words that the map tells of.
use Rattle.std.proofs.Common.{◌≡◌, ℕ, ◌+◌, ◌-◌, ◌*◌, ◌%◌, ◌^◌, ◌≤◌, List, [], ◌∷◌, length, get_or, take, drop, sym, ap, ◌∙◌, arith, get_or-drop}
use Rattle.store.specs.Build.{room0}
use Rattle.store.specs.Layout.{room, layer_len, layer_start, StoreOf}
use Rattle.store.specs.Word.{Words64}
use Rattle.store.proofs.Ends.{Lent0}
use Rattle.map_format.specs.Steps.{with_last, used_at}
use Rattle.map_format.proofs.Used.{used_none, used_cons}
use Rattle.map_write.specs.Map.{kept_from, told_words, used, map_len}
use Rattle.map_write.specs.Steps.{Tells}
use Rattle.map_write.specs.declared.Told.{Told}
use Rattle.map_write.proofs.Words.{kept_with_last}

-- ---- the words that are not zero

used_is : (ws : List ℕ) → used ws ≡ length (used_at ws)
unfolding used
used_is [] = sym used_none
used_is (w ∷ ws) = omega (arith, used_is ws, used_cons w ws)

-- their map's length
pub length-same : (ws : List ℕ) → 16 + 12 * length (used_at ws) ≡ map_len ws
length-same ws = ap (λ (k : ℕ). 16 + 12 * k) (sym (used_is ws))

-- ---- layer 0 of a store, lent from a on

abbrev pub lent : List ℕ → ℕ → List ℕ
lent s a = take (length s - a) (drop a s)

module _ {N : ℕ} {s : List ℕ} (z : StoreOf N s) {a : ℕ} (l : Lent0 N s a) where
  long_lent : length (lent s a) ≡ layer_len N 0
  long_lent = ap length l.words ∙ l.long

  pub some_lent : 1 ≤ length (lent s a)
  unfolding room
  some_lent = omega (arith, long_lent, z.some)

  -- with the last word cut they are the words of the definition
  layer_words_are : Words64 s → {last : ℕ} → last ≡ get_or (lent s a) (length (lent s a) - 1) 0 % 2 ^ room0 N (length (lent s a) - 1)
      → with_last (lent s a) last ≡ told_words N s
  layer_words_are small {last} last-is =
      ap (with_last (lent s a)) last-is
      ∙ kept_with_last N (lent s a) z.some long_lent (λ x. rw (l.words, get_or-drop (layer_start N 0) s x 0) (small (layer_start N 0 + x)))
      ∙ ap (kept_from N 0) l.words

  pub tells : Words64 s → {t : Told} → t.n ≡ N → t.layer.now ≡ lent s a → t.last ≡ get_or (lent s a) (length (lent s a) - 1) 0 % 2 ^ room0 N (length (lent s a) - 1) → Tells s t
  unfolding room
  tells small {t} n-is layer-is last-is =
      record {
        store = rw n-is z;
        some = rw layer-is some_lent;
        few = rw layer-is (omega (arith, long_lent, z.most));
        told = rw (n-is, layer-is) (layer_words_are small last-is);
      }
