-- DEMAND 2, over stores that our calls reached: "A chunk map written and read again gives the same members."
use mathlib.Core.Bool.{Bool, true, false, cond}
use mathlib.Core.List.{List, [], ◌∷◌}
use mathlib.Core.Path.{◌≡◌, refl, sym, ap, ◌∙◌, subst}
use Prim.Native.Nat.{ℕ, ◌≤◌}
use native.Mathlib.Omega.{arith}
use borrow.Author.Tests.{leb-true}
use lib.Dec.{leb}
use lib.ListN.{length, get_or, take}
use lib.Seq.{sets}
use Rattle.std.specs.Prelude.{Result, Ok}
use Rattle.store.specs.declared.Refusal.{Refusal}
use Rattle.util.specs.Outcome.{Outcome, Settled}
use Rattle.store.specs.Answer.{did_paper, number_paper, gives, does, refuses}
use Rattle.store.specs.Build.{build}
use Rattle.store.specs.Word.{members, SoundStore}
use Rattle.store.proofs.Geometry.{is_store_lem}
use Rattle.map_write.specs.Calls.{write_of}
use Rattle.map_write.specs.Map.{told_words, map_of, map_len}
use Rattle.map_read.specs.Calls.{read_of}
use Rattle.map_laws.proofs.Theorems.{written-length, written_read, written-read_part, round_trip_members, round_trip_same}
use Rattle.claims.specs.Again.{Again}
use Rattle.claims.specs.Reached.{Reached}
use Rattle.claims.specs.Reached.OneCall.{reads}
use Rattle.claims.specs.Reached.Reached.{after}
use Rattle.claims.proofs.Histories.{reached_fine}

-- a writer that answers a length had room for the map
had_room : {N : ℕ} {s : List ℕ} → SoundStore N s → (b : List ℕ) (v : ℕ) → (write_of s b).numbers ≡ 0 ∷ v ∷ [] → map_len (told_words N s) ≤ length b
unfolding write_of
had_room {N} {s} f b v = rw (is_store_lem f.is, f.is.names) (go (leb (map_len (told_words N s)) (length b)) refl)
  where
    go : (x : Bool) → leb (map_len (told_words N s)) (length b) ≡ x
        → (cond x (gives (map_len (told_words N s)) (sets b 0 (map_of N (told_words N s)))) (refuses 8 b)).numbers ≡ 0 ∷ v ∷ []
        → map_len (told_words N s) ≤ length b
    go true e z = leb-true (map_len (told_words N s)) (length b) e
    go false e z = absurd (omega (arith, ap (λ (l : List ℕ). get_or l 0 0) z))

module _ {N : ℕ} {s t : List ℕ} (from : Reached N s) (into : Reached N t) (b m : List ℕ) (v : ℕ) (w : Settled number_paper (write_of s b) (Ok v) m) where
  room : map_len (told_words N s) ≤ length b
  room = had_room (reached_fine from) b v (sym w.answer)

  -- what the reader leaves of bytes that give the store of the written words
  left : (x : List ℕ) (r : Result (Unit {0}) Refusal) (u : List ℕ) → read_of x t ≡ does (build N (told_words N s)) → Settled did_paper (read_of x t) r u → Again N s r u
  left x r u e z =
      let f = reached_fine from in
      let g = reached_fine into in
      let k : u ≡ (read_of (write_of s b).lent t).lent = z.memory ∙ ap (λ (o : Outcome (List ℕ)). o.lent) (e ∙ sym (written_read f.is g.is b room)) in
      record {
        done = sym (did_paper.same r) ∙ ap did_paper.answer (z.answer ∙ ap (λ (o : Outcome (List ℕ)). o.numbers) e);
        members_are = ap members k ∙ round_trip_members f.is g.is b room;
        words_are = k ∙ round_trip_same f.is g.is b room f.words f.sound;
        reached = subst (Reached N) (sym z.memory) (after into (reads x));
      }

  -- the whole buffer read
  pub read_again : (r : Result (Unit {0}) Refusal) (u : List ℕ) → Settled did_paper (read_of m t) r u → Again N s r u
  read_again r u = left m r u (ap (λ (x : List ℕ). read_of x t) w.memory ∙ written_read (reached_fine from).is (reached_fine into).is b room)

  -- or the part of it whose length the writer answered
  pub read_part_again : (r : Result (Unit {0}) Refusal) (u : List ℕ) → Settled did_paper (read_of (take v m) t) r u → Again N s r u
  read_part_again r u =
      let f = reached_fine from in
      let g = reached_fine into in
      let k : v ≡ map_len (told_words N s) = ap (λ (l : List ℕ). get_or l 1 0) (w.answer ∙ written-length f.is g.is b room) in
      left (take v m) r u
      (ap (λ (x : List ℕ). read_of (take v x) t) w.memory ∙ ap (λ (n : ℕ). read_of (take n (write_of s b).lent) t) k ∙ written-read_part f.is g.is b room)
