-- What a walk is refused for, by the capacity and the prefixes.
use Rattle.std.proofs.Common.{◌≡◌, ℕ, Bool, true, false, List, sym, ◌≢◌, eq-eqb, ne_eqb}
use Rattle.std.specs.Prelude.{Ok, Err}
use Rattle.store.specs.Answer.{numbered, judged}
use Rattle.store.specs.Layout.{top, top_most}
use Rattle.store.specs.declared.Refusal.TheVariants.{NoStore, Cursor}
use Rattle.store.proofs.TopLayer.{top_is}
use Rattle.walk_masks.specs.Prefixes.{prefixes_fit, refusal_of}

pub none_taken : (n : ℕ) (fit : Bool) → n ≡ 0 → Err NoStore ≡ judged (refusal_of n fit)
unfolding refusal_of numbered
none_taken n fit h = sym (rw (eq-eqb n 0 h))

module _ (n : ℕ) (ps : List ℕ) (some : n ≢ 0) where
  pub prefixes_taken : prefixes_fit top_most ps top_most ≡ true → Ok tt ≡ judged (refusal_of n (prefixes_fit (top n) ps (top n)))
  unfolding refusal_of
  prefixes_taken h = sym (rw (ne_eqb n 0 some, top_is n, h))

  pub prefixes_refused : prefixes_fit top_most ps top_most ≡ false → Err Cursor ≡ judged (refusal_of n (prefixes_fit (top n) ps (top n)))
  unfolding refusal_of numbered
  prefixes_refused h = sym (rw (ne_eqb n 0 some, top_is n, h))
