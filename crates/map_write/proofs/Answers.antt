-- Each answer that the writer gives is the definition's.
use Rattle.std.proofs.Common.{◌≡◌, ℕ, ◌+◌, ◌*◌, Bool, true, false, leb, List, length, Ok, Err, sym, ap, ◌∙◌, leb-true}
use Rattle.std.proofs.Math.Seq.{sets}
use Rattle.util.specs.Outcome.{Settled, settled}
use Rattle.store.specs.Answer.{number_paper}
use Rattle.store.specs.declared.Refusal.TheVariants.{Buffer}
use Rattle.store.proofs.Geometry.{is_store_lem}
use Rattle.map_format.specs.Steps.{used_at}
use Rattle.map_write.specs.Calls.{map_length_of, write_of}
use Rattle.map_write.specs.Map.{map_of, map_len}
use Rattle.map_write.specs.Steps.{words_of, Tells, NoStoreHere, MapFits}
use Rattle.map_write.specs.declared.Told.{Told}
use Rattle.map_write.proofs.Layer.{length-same}

module _ {s : List ℕ} {e : _} (h : NoStoreHere s e) where
  pub write_2 : (b : List ℕ) → Settled number_paper (write_of s b) (Err e) b
  unfolding write_of
  write_2 b = settled (rw (h.none, h.why))

  pub length_2 : Settled number_paper (map_length_of s) (Err e) tt
  unfolding map_length_of
  length_2 = settled (rw (h.none, h.why))

module _ {s : List ℕ} {t : Told} (h : Tells s t) where
  pub length_done : {n : ℕ} → n ≡ 16 + 12 * length (used_at (words_of t)) → Settled number_paper (map_length_of s) (Ok n) tt
  unfolding map_length_of
  length_done e = settled (rw (is_store_lem h.store, h.store.names, e ∙ length-same (words_of t), h.told))

  -- and asks for their room
  module _ (b : List ℕ) {r : Bool} (asked : r ≡ leb (16 + 12 * length (used_at (words_of t))) (length b)) where
    asked_so : r ≡ leb (map_len (words_of t)) (length b)
    asked_so = asked ∙ ap (λ (k : ℕ). leb k (length b)) (length-same (words_of t))

    pub write_8 : r ≡ false → Settled number_paper (write_of s b) (Err Buffer) b
    unfolding write_of
    write_8 n = settled (rw (is_store_lem h.store, h.store.names, ← h.told, sym asked_so ∙ n))

    module _ (y : r ≡ true) where
      pub write_fits : MapFits t b
      write_fits = record { some = h.some; few = h.few; most = h.store.most; room = leb-true (map_len (words_of t)) (length b) (sym asked_so ∙ y) }

      pub write_done : {n : ℕ} {c : List ℕ} → n ≡ map_len (words_of t) → c ≡ sets b 0 (map_of t.n (words_of t)) → Settled number_paper (write_of s b) (Ok n) c
      unfolding write_of
      write_done n-is c-is = settled (rw (is_store_lem h.store, h.store.names, ← h.told, sym asked_so ∙ y, n-is, c-is))
