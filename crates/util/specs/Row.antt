-- Where an id's bit stands, by the shift. Document 01: "Id i is bit i mod 64 of layer-0 word i/64; bit (i/64) mod 64 of layer-1 word
-- i/4,096; ..": with the shift 6 k of layer k it is bit `row_of i (6 k)` of word `offset_of i (6 (k + 1))`.
use Rattle.std.specs.Prelude.{ℕ, ◌/◌, ◌%◌, ◌^◌}
use Rattle.util.specs.declared.Parents.{Parents}

abbrev pub offset_of : ℕ → ℕ → ℕ
offset_of i shift = i / 2 ^ shift

abbrev pub row_of : ℕ → ℕ → ℕ
row_of i shift = i / 2 ^ shift % 64

abbrev pub mask_of : ℕ → ℕ → ℕ
mask_of i shift = 2 ^ row_of i shift

abbrev pub offsets_of : ℕ → Parents
offsets_of i = record { layer0 = offset_of i 6; layer1 = offset_of i 12; layer2 = offset_of i 18 }
