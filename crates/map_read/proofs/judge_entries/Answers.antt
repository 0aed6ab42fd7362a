use Rattle.std.proofs.Common.{◌<◌, ◌^◌, sym, ap, ◌∙◌, arith, rules, Err}
use lib.Count.{ones-le}
use Rattle.store.specs.Answer.{judged, numbered_number}
use Rattle.store.specs.Layout.{max_cap, words, room}
use Rattle.store.specs.declared.Refusal.TheVariants.{Entry, Members}
use Rattle.map_read.proofs.Entries.{judged_turn, judged_bad, judged_good, judged_sum, entries_10, entries_11, entries_0}
use Rattle.map_read.proofs.Right.{entry_is}
use Rattle.map_read.proofs.judge_entries.Goals as goal

pub returns-then-not-entry_ok : goal.returns-then-not-entry_ok
returns-then-not-entry_ok c =
    let a = c.args in
    sym
    (ap judged (entries_10 a.n a.members a.entries.now
    (judged_bad c.loop-entry.invariant c.loop-entry-test.true c.parts-q.ensures.number c.parts-q.ensures.word (sym c.entry_ok.ensures ∙ c.if-not-entry_ok.true)))
    ∙ ap Err (numbered_number Entry))

pub overflow_add-ones : goal.overflow_add-ones
unfolding room
overflow_add-ones c =
    let few : c.loop-entry.entry-index < words max_cap = omega (arith, c.requires.few, c.requires.most, c.loop-entry-test.true) in
    let word_fits : c.parts-q.result.1 < 2 ^ 64 = search rules in
    omega (arith, ones-le 64 c.parts-q.result.1 word_fits, c.loop-entry.invariant.small, few)

pub overflow_add-lo : goal.overflow_add-lo
unfolding room
overflow_add-lo c = omega (arith, (entry_is (sym c.entry_ok.ensures ∙ c.if-not-entry_ok.false)).below, c.requires.most)

pub loop-entry-preserved : goal.loop-entry-preserved
loop-entry-preserved c =
    let word_fits : c.parts-q.result.1 < 2 ^ 64 = search rules in
    judged_turn c.loop-entry.invariant c.loop-entry-test.true c.parts-q.ensures.number c.parts-q.ensures.word word_fits (sym c.entry_ok.ensures ∙ c.if-not-entry_ok.false)

pub returns-then-ones-members : goal.returns-then-ones-members
returns-then-ones-members c =
    let a = c.args in
    let h = c.loop-entry.invariant in
    sym (ap judged (entries_0 a.n a.members a.entries.now (judged_good h c.loop-entry-test.false) (sym (judged_sum h c.loop-entry-test.false) ∙ c.if-ones-members.true)))

pub returns-else-ones-members : goal.returns-else-ones-members
returns-else-ones-members c =
    let a = c.args in
    let h = c.loop-entry.invariant in
    sym
    (ap judged (entries_11 a.n a.members a.entries.now (judged_good h c.loop-entry-test.false) (λ e. c.if-ones-members.false (judged_sum h c.loop-entry-test.false ∙ e)))
    ∙ ap Err (numbered_number Members))
