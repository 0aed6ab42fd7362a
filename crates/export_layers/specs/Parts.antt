-- Where a layer stands, as a C caller gets it. Document 01: "The layers 0, 1 and 2 are each handed back, to be read, as the caller's own
-- part of the store, no copy; an empty part stands for refusal 2".
use Rattle.std.specs.Prelude.{cond, List, ℕ, take, drop}
use Rattle.store.specs.Layout.{layer_len, layer_start, cap, is_store}
use Rattle.export_answer.specs.declared.Part.{Part}

unfoldable pub part_of : List ℕ → ℕ → Part
part_of s k =
    cond (is_store s)
    (record { start = layer_start (cap s) k; length = layer_len (cap s) k })
    (record { start = 0; length = 0 })

-- the words that a part names
abbrev pub part_words : List ℕ → Part → List ℕ
part_words s p = take p.length (drop p.start s)
