use Rattle.std.proofs.Common.{◌≡◌, ◌+◌, length, get_or, ap, ◌∙◌, arith}
use Rattle.std.proofs.lemmas.List.{length-set, get_or-set_other, get_or-set_same}
use Rattle.image_settle.proofs.Rooms.{short_room, long_room}
use Rattle.image_settle.proofs.room.put_chunk.Goals as goal

pub returns-then-room-le-LONGEST_SHORT-clause-room : goal.returns-then-room-le-LONGEST_SHORT-clause-room
returns-then-room-le-LONGEST_SHORT-clause-room c =
    let old = c.args.region.now in
    let w = c.free_header.result.0 in
    let is : get_or c.put.new.self c.args.at 0 ≡ w = ap (λ ws. get_or ws c.args.at 0) c.put.ensures ∙ get_or-set_same old c.args.at w 0 (omega arith) in
    short_room c.put.new.self c.args.at c.args.room w c.requires.room c.if-room-le-LONGEST_SHORT.true is c.free_header.ensures.fields (record { low = c.free_header.ensures.low; high = c.free_header.ensures.high })

pub returns-else-room-le-LONGEST_SHORT-clause-room : goal.returns-else-room-le-LONGEST_SHORT-clause-room
returns-else-room-le-LONGEST_SHORT-clause-room c =
    let old = c.args.region.now in
    let at = c.args.at in
    let mid = c.put-else-room-le-LONGEST_SHORT.new.self in
    let new = c.put-else-room-le-LONGEST_SHORT-2.new.self in
    let v = c.overflow_word.result in
    let w = c.free_header-else-room-le-LONGEST_SHORT.result.0 in
    let long : length mid ≡ length old = ap length c.put-else-room-le-LONGEST_SHORT.ensures ∙ length-set old at v in
    let first : get_or new at 0 ≡ v =
    ap (λ ws. get_or ws at 0) c.put-else-room-le-LONGEST_SHORT-2.ensures ∙ get_or-set_other mid (at + 1) at w 0 (λ e. omega (arith, e))
    ∙ ap (λ ws. get_or ws at 0) c.put-else-room-le-LONGEST_SHORT.ensures ∙ get_or-set_same old at v 0 (omega arith) in
    let next : get_or new (at + 1) 0 ≡ w = ap (λ ws. get_or ws (at + 1) 0) c.put-else-room-le-LONGEST_SHORT-2.ensures ∙ get_or-set_same mid (at + 1) w 0 (omega arith) in
    long_room new at c.args.room v w (omega arith) first next c.overflow_word.ensures.count c.overflow_word.ensures.slots c.free_header-else-room-le-LONGEST_SHORT.ensures.fields
    (record { low = c.free_header-else-room-le-LONGEST_SHORT.ensures.low; high = c.free_header-else-room-le-LONGEST_SHORT.ensures.high })
