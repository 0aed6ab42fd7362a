use mathlib.Core.Bool.{true}
use mathlib.Core.Path.{refl, sym, ap, ◌∙◌}
use Prim.Native.Nat.{ℕ}
use native.Mathlib.Numerals.{add-one}
use native.Mathlib.Omega.{arith}
use lib.ListN.{length, get_or}
use Rattle.store.specs.Layout.{cap}
use Rattle.store.proofs.Ends.{start_is}
use Rattle.store.proofs.Geometry.{store_kept}
use Rattle.set_edit.proofs.Answers.{turn, add_turn, add_end}
use Rattle.set_edit.proofs.Edits.{length_moved, cap_moved}
use Rattle.set_edit.proofs.add_all.Goals as goal

pub loop-id-init : goal.loop-id-init
loop-id-init c = record { store = c.requires.0; starts = c.start-a.ensures ∙ start_is c.requires.0 0; room = c.requires.1; rest = refl }

pub moved-requires : goal.moved-requires
moved-requires c =
    let l = c.loop-id.invariant in
    let t = turn c.args.ids.now c.loop-id.id-index l.store l.starts l.room (omega arith) in
    record { placed = t.placed; start_is = l.starts; word_is = ap (λ (x : ℕ). get_or c.loop-id.store x 0) c.id_word.ensures ∙ t.word.word_is }

pub loop-id-preserved : goal.loop-id-preserved
loop-id-preserved c =
    let l = c.loop-id.invariant in
    let ids = c.args.ids.now in
    let n = c.args.n in
    let k = c.loop-id.id-index in
    let t = turn ids k l.store l.starts l.room (omega arith) in
    let i : ℕ = get_or ids k 0 in
    let m = c.moved.ensures.memory in
    record {
      store = store_kept l.store (ap length m ∙ length_moved true n c.loop-id.store i) (ap cap m ∙ cap_moved true n c.loop-id.store i);
      starts = l.starts;
      room = rw add-one t.rest;
      rest = rw (add-one, m) (sym (add_turn n c.loop-id.store ids k (omega arith)) ∙ l.rest);
    }

pub returns : goal.returns
returns c = sym (add_end c.args.n c.loop-id.store c.args.ids.now c.loop-id.id-index (omega arith)) ∙ c.loop-id.invariant.rest
