-- Each answer that the public calls give is the definition's.
use Rattle.std.proofs.Common.{◌≡◌, ℕ, List, false, replicate, Result, Ok, Err, ne_eqb}
use Rattle.util.specs.Outcome.{Settled, settled}
use Rattle.store.specs.Answer.{number_paper, did_paper}
use Rattle.store.specs.Build.{build}
use Rattle.store.specs.Layout.{is_store, layer_len, StoreOf}
use Rattle.store.specs.declared.Refusal.{Refusal}
use Rattle.store.specs.declared.Refusal.TheVariants.{NoStore}
use Rattle.store.proofs.Geometry.{is_store_lem}
use Rattle.map_read.specs.Calls.{map_capacity_of, read_of}
use Rattle.map_read.specs.Judge.{judge_of}
use Rattle.map_read.specs.Steps.{filled, HeadOf, NoHead, Taken, Wrong}
use Rattle.map_read.specs.declared.Head.{Head}
use Rattle.map_read.proofs.Layer.{words_are_filled}

pub capacity_9 : {m : List ℕ} {e : Refusal} → NoHead m e → Settled number_paper (map_capacity_of m) (Err e) tt
unfolding map_capacity_of
capacity_9 h = settled (rw (h.none, h.why))

pub capacity_named : {m : List ℕ} {h : Head} → HeadOf m h → Settled number_paper (map_capacity_of m) (Ok h.n) tt
unfolding map_capacity_of
capacity_named h = settled (rw (h.is, h.capacity))

module _ {m : List ℕ} {N : ℕ} {s : List ℕ} (z : StoreOf N s) where
  pub read_no : {e : Refusal} → Wrong m N e → Settled did_paper (read_of m s) (Err e) s
  unfolding read_of
  read_no w = settled (rw (is_store_lem z, z.names, ne_eqb (judge_of m N) 0 w.wrong, w.why))

  pub read_done : {t : List ℕ} {es : List (List ℕ)} {r : Result (Unit {0}) Refusal} → Taken m N es → r ≡ Ok tt → t ≡ build N (filled (replicate (layer_len N 0) 0) es)
      → Settled did_paper (read_of m s) r t
  unfolding read_of
  read_done k d f = settled (rw (is_store_lem z, z.names, k.accepted, words_are_filled N m, d, f, k.entries))

pub read_2 : (m s : List ℕ) {r : Result (Unit {0}) Refusal} → (is_store s ≡ false) × (r ≡ Err NoStore) → Settled did_paper (read_of m s) r s
unfolding read_of
read_2 m s h = settled (rw (h.0, h.1))
