-- `get_from_layer` meets its contract: past the test the slice is a store.
use Rattle.std.proofs.Common.{ap, ◌∙◌, arith, List, ℕ, slice_index}
use Rattle.store.proofs.Ends.{some_store}
use Rattle.set_layers.proofs.Answers.{word_2, word_4, word_is, word-top}
use Rattle.set_layers.proofs.get_from_layer.Goals as goal

pub returns-in_err-n : goal.returns-in_err-n
returns-in_err-n c = word_2 c.args.store.now c.args.layer c.args.idx c.capacity.ensures c.in_err-n.was c.from_residual.ensures.1

pub returns-then-layer-top : goal.returns-then-layer-top
returns-then-layer-top c = word_4 (some_store c.args.store.now c.capacity.ensures c.in_ok-n.was) c.args.layer c.args.idx (omega arith)

pub returns-then-layer-top-2 : goal.returns-then-layer-top-2
returns-then-layer-top-2 c =
    word-top (some_store c.args.store.now c.capacity.ensures c.in_ok-n.was) c.args.layer c.args.idx _ (c.if-layer-top-2.true ∙ c.top-top.ensures) c.top_word.ensures

pub part-requires : goal.part-requires
part-requires c = (some_store c.args.store.now c.capacity.ensures c.in_ok-n.was, omega arith)

pub returns : goal.returns
returns c =
    word_is (some_store c.args.store.now c.capacity.ensures c.in_ok-n.was) c.args.layer c.args.idx _ (omega arith)
    (c.get.ensures ∙ ap (λ (l : List ℕ). slice_index l c.args.idx) c.part.ensures.words)
