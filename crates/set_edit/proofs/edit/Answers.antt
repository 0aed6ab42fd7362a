-- `edit` meets its contract: the word over the id lies in the layer, and its part comes back with that word written.
use mathlib.Core.Path.{sym, ap₂, ◌∙◌}
use Prim.Native.Nat.{ℕ, ◌%◌}
use native.Mathlib.Omega.{arith}
use lib.ListN.{length}
use Rattle.util.specs.Word.{change}
use Rattle.store.proofs.Parts.{part_set, part_word}
use Rattle.store.proofs.Words.{anc_shift}
use Rattle.set_member.proofs.Spots.{ranged, word_there}
use Rattle.set_edit.proofs.Steps.{edited}
use Rattle.set_edit.proofs.edit.Goals as goal

pub returns : goal.returns
returns c =
    let s = c.args.store.now in
    let there = ranged c.requires _ _ c.start-a.ensures c.offset-q.ensures in
    let word = part_word _ (length s) _ s there.inside ∙ word_there c.requires _ _ c.start-a.ensures c.offset-q.ensures in
    edited c.requires there.start there.index c.args.on
    (c.with_bit-w.ensures ∙ ap₂ (λ (x y : ℕ). change c.args.on x (y % 64)) word (c.offset.ensures ∙ sym (anc_shift c.args.id c.args.k)))
    (part_set _ _ _ _ _ _ there.inside (omega arith) c.set_word.ensures)
