-- The store that a map's words make: sound, and with the members of the store that was written, sound or not.
use Rattle.std.proofs.Common.{List, ◌≡◌, sym, ap, ◌∙◌, subst, ℕ, suc, ◌+◌, ◌-◌, ◌/◌, ◌%◌, ◌^◌, ◌<◌, arith, length, get_or, length-drop, get_or-drop}
use lib.Pow.{field, mod-mod-pow}
use Rattle.util.specs.Word.{bit, places}
use Rattle.util.proofs.Places.{places_same}
use Rattle.store.specs.Build.{build, layer0, room0, Kept}
use Rattle.store.specs.Layout.{room, layer_len, layer_start, cap, StoreOf}
use Rattle.store.specs.Word.{on, members, Sound, SoundStore, Words64}
use Rattle.store.proofs.Build.{build_fine, layer0-build, on-build, sound_built}
use Rattle.store.proofs.Geometry.{end_step}
use Rattle.store.proofs.Words.{word_in, place_in}
use Rattle.map_write.specs.Map.{kept_from, told_words}
use Rattle.map_write.proofs.Words.{length_kept, kept_word, kept_low, kept_same}

-- a bit below the cut is as it was
bit_cut : (w n b : ℕ) → b < n → bit (w % 2 ^ n) b ≡ bit w b
unfolding bit
bit_cut w n b h =
    let e : n ≡ (n - suc b + 1) + b = omega arith in
    ap (λ (k : ℕ). w % 2 ^ k / 2 ^ b % 2) e ∙ ap (λ (x : ℕ). x % 2) (field w (n - suc b + 1) b) ∙ mod-mod-pow (w / 2 ^ b) (n - suc b) 1

-- ---- the store of words with no bit at or past N

-- its map tells those words
pub build-words : (N : ℕ) (ws : List ℕ) → length ws ≡ layer_len N 0 → Kept N ws → told_words N (build N ws) ≡ ws
build-words N ws long k =
    ap (kept_from N 0) (layer0-build N ws long)
    ∙ kept_same N 0 ws (λ i. let e : i ≡ 0 + i = omega arith in subst (λ (j : ℕ). get_or ws i 0 < 2 ^ room0 N j) e (k i))

-- ---- the words of a store, sound or not

module _ {N : ℕ} {s : List ℕ} (z : StoreOf N s) where
  pub long_in : length (told_words N s) ≡ layer_len N 0
  long_in = length_kept N 0 (layer0 N s) ∙ length-drop (layer_start N 0) s ∙ omega (arith, z.long, end_step N 0 (omega arith))

  pub made_fine : SoundStore N (build N (told_words N s))
  made_fine = build_fine N (told_words N s) z.some z.most long_in (kept_low N (layer0 N s))

  on_made : (p : ℕ) → p < N → on N (build N (told_words N s)) 0 p ≡ on N s 0 p
  unfolding on room
  on_made p h =
      let e : 0 + p / 64 ≡ p / 64 = omega arith in
      on-build N (told_words N s) long_in p
      ∙ ap (λ (w : ℕ). bit w (p % 64)) (kept_word N 0 (layer0 N s) (p / 64) ∙ ap (λ (k : ℕ). get_or (layer0 N s) (p / 64) 0 % 2 ^ room0 N k) e)
      ∙ bit_cut (get_or (layer0 N s) (p / 64) 0) (room0 N (p / 64)) (p % 64) (omega arith)
      ∙ ap (λ (w : ℕ). bit w (p % 64)) (get_or-drop (layer_start N 0) s (p / 64) 0 ∙ sym (word_in N s 0 (p / 64) (place_in N 0 p h)))

  pub made_members : members (build N (told_words N s)) ≡ members s
  unfolding members
  made_members =
      ap (λ (n : ℕ). places (on n (build N (told_words N s)) 0) 0 n) made_fine.is.names
      ∙ places_same (on N (build N (told_words N s)) 0) (on N s 0) 0 N (λ i l u. on_made i (omega arith))
      ∙ sym (ap (λ (n : ℕ). places (on n s 0) 0 n) z.names)

  -- a sound store is made again, word for word
  pub made_same : Words64 s → Sound N s → build N (told_words N s) ≡ s
  made_same small y =
      let c : StoreOf (cap s) s = subst (λ (n : ℕ). StoreOf n s) (sym z.names) z in
      let b = (sound_built s c small).0 (subst (λ (n : ℕ). Sound n s) (sym z.names) y) in
      let k : Kept N (layer0 N s) = subst (λ (n : ℕ). Kept n (layer0 n s)) z.names b.1 in
      let e : s ≡ build N (layer0 N s) = subst (λ (n : ℕ). s ≡ build n (layer0 n s)) z.names b.0 in
      ap (build N) (kept_same N 0 (layer0 N s) (λ i. let f : i ≡ 0 + i = omega arith in subst (λ (j : ℕ). get_or (layer0 N s) i 0 < 2 ^ room0 N j) f (k i)))
      ∙ sym e
