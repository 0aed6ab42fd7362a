-- `put_bytes` meets its contract.
use Rattle.std.proofs.Common.{◌+◌, ◌-◌, length, ap, ◌∙◌}
use borrow.Rule.Slice.PartMut.{put_mid}
use Rattle.map_write.proofs.Bytes.{put_mid-sets}
use Rattle.map_write.proofs.put_bytes.Goals as goal

pub returns : goal.returns
returns c =
    let a = c.args in
    ap (put_mid a.o (a.o + length a.bytes.now - a.o) a.buf.now) c.copy_from_slice.ensures.after ∙ put_mid-sets a.buf.now a.o a.bytes.now c.requires
