-- `put` meets its contract.
use Rattle.std.proofs.Common.{◌+◌, List, ℕ, length, refl, ap, ap₂, ◌∙◌, arith}
use Rattle.std.proofs.Math.Seq.{sets, length-sets}
use Rattle.map_format.proofs.Numbers.{bytes_4, bytes_8}
use Rattle.map_write.proofs.Entries.{entered_zero, entered_one, room-one}
use Rattle.map_write.proofs.Draft.put.Goals as goal

pub put_bytes-requires : goal.put_bytes-requires
put_bytes-requires c = omega (arith, room-one c.requires c.if-x-ne0.true, ap length c.to_le_bytes.ensures)

pub put_bytes-requires-then-x-ne0 : goal.put_bytes-requires-then-x-ne0
put_bytes-requires-then-x-ne0 c =
    let d = c.args.self.now in
    omega (
      arith,
      room-one c.requires c.if-x-ne0.true,
      ap length c.put_bytes.ensures,
      length-sets d.buf.now d.at c.to_le_bytes.result,
      ap length c.to_le_bytes-then-x-ne0.ensures,
    )

pub returns-then-x-ne0 : goal.returns-then-x-ne0
returns-then-x-ne0 c =
    let a = c.args in
    entered_one c.if-x-ne0.true (omega (arith, c.ranges.x))
    (c.put_bytes-then-x-ne0.ensures
    ∙ ap₂ (λ (b l : List ℕ). sets b (a.self.now.at + 4) l) (c.put_bytes.ensures ∙ ap (sets a.self.now.buf.now a.self.now.at) (c.to_le_bytes.ensures ∙ bytes_4 a.q))
    (c.to_le_bytes-then-x-ne0.ensures ∙ bytes_8 a.x))
    refl

pub returns-else-x-ne0 : goal.returns-else-x-ne0
returns-else-x-ne0 c = entered_zero c.if-x-ne0.false
