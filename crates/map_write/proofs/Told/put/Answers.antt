-- `put` meets its contract.
use Rattle.std.proofs.Common.{◌≡◌, ◌∙◌, arith, rules}
use Rattle.std.proofs.Math.Seq.{sets}
use Rattle.map_write.specs.Map.{map_of}
use Rattle.map_write.specs.Steps.{words_of}
use Rattle.map_write.proofs.Entries.{split_is, fours_room, rest_room, last_room, head_room, map_done}
use Rattle.map_write.proofs.Told.put.Goals as goal

pub put_fours-requires : goal.put_fours-requires
put_fours-requires c = let e = c.as_chunks.ensures in fours_room (split_is c.requires.some (omega arith) e.front e.front_len e.back) c.requires

pub put_all-requires : goal.put_all-requires
put_all-requires c =
    let e = c.as_chunks.ensures in
    rest_room (split_is c.requires.some (omega arith) e.front e.front_len e.back) c.requires c.put_fours.ensures

pub put-requires : goal.put-requires
put-requires c =
    let e = c.as_chunks.ensures in
    last_room (split_is c.requires.some (omega arith) e.front e.front_len e.back) c.requires c.put_fours.ensures c.put_all.ensures

pub put_head-requires : goal.put_head-requires
put_head-requires c =
    let e = c.as_chunks.ensures in
    head_room (split_is c.requires.some (omega arith) e.front e.front_len e.back) c.requires c.put_fours.ensures c.put_all.ensures c.put.ensures

pub returns-clause-length : goal.returns-clause-length
returns-clause-length c =
    let e = c.as_chunks.ensures in
    c.put_head.ensures.at ∙ (map_done (split_is c.requires.some (omega arith) e.front e.front_len e.back) c.requires c.put_fours.ensures c.put_all.ensures c.put.ensures c.put_head.ensures.bytes).0

pub returns-clause-bytes : goal.returns-clause-bytes
returns-clause-bytes c =
    let e = c.as_chunks.ensures in
    let m : c.put_head.new.self.buf.now ≡ sets c.args.buf.now 0 (map_of c.args.self.now.n (words_of c.args.self.now)) = (map_done (split_is c.requires.some (omega arith) e.front e.front_len e.back) c.requires c.put_fours.ensures c.put_all.ensures c.put.ensures c.put_head.ensures.bytes).1 in
    search (rules, m)
