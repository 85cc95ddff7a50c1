use Rattle.spur_heap.specs.Parts.{view_of}
use Rattle.spur_heap.proofs.Cleared.{eden_stands, past_stands, all_cleared}
use Rattle.spur_heap.proofs.clearing.clear_rows.Goals as goal

pub clear_row-requires-2-clause-row : goal.clear_row-requires-2-clause-row
clear_row-requires-2-clause-row c =
    let v = view_of c.args.parts.now in
    (eden_stands v.words v.limits v.spaces c.requires.sound.spaces c.requires.sound.rows c.clear_row.new.region c.clear_row.ensures).1

pub clear_row-requires-3-clause-row : goal.clear_row-requires-3-clause-row
clear_row-requires-3-clause-row c =
    let v = view_of c.args.parts.now in
    (past_stands v.words v.limits v.spaces c.requires.sound.spaces c.requires.sound.rows c.clear_row.new.region c.clear_row.ensures c.clear_row-2.new.region c.clear_row-2.ensures).1

pub returns-clause-unmarks : goal.returns-clause-unmarks
returns-clause-unmarks c =
    let v = view_of c.args.parts.now in
    all_cleared v.words v.limits v.spaces c.requires.sound.spaces c.requires.sound.rows c.clear_row.new.region c.clear_row.ensures c.clear_row-2.new.region c.clear_row-2.ensures c.clear_row-3.new.region c.clear_row-3.ensures
