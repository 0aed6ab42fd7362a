-- `put_head` meets its contract.
use Rattle.std.proofs.Common.{List, ℕ, ◌-◌, ◌/◌, ap, ap₂, ◌∙◌}
use Rattle.std.proofs.Math.Seq.{sets}
use Rattle.map_format.proofs.Numbers.{bytes_4}
use Rattle.map_write.proofs.Bytes.{head_sets}
use Rattle.map_write.proofs.Draft.put_head.Goals as goal

pub returns-clause-bytes : goal.returns-clause-bytes
returns-clause-bytes c =
    let a = c.args in
    let d = a.self.now in
    let over : ℕ → List ℕ → List ℕ → List ℕ = λ o b l. sets b o l in
    c.put_bytes-4.ensures
    ∙ ap₂ (over 12) (c.put_bytes-3.ensures
    ∙ ap₂ (over 8) (c.put_bytes-2.ensures
    ∙ ap₂ (over 4) (c.put_bytes.ensures ∙ ap (over 0 d.buf.now) (c.to_le_bytes.ensures ∙ bytes_4 a.n)) (c.to_le_bytes-2.ensures ∙ bytes_4 d.members))
    (c.to_le_bytes-3.ensures ∙ bytes_4 ((d.at - 16) / 12)))
    (c.to_le_bytes-4.ensures ∙ bytes_4 16)
    ∙ head_sets d.buf.now a.n d.members ((d.at - 16) / 12)
