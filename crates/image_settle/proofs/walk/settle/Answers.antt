use Rattle.image_settle.proofs.Final.{mid_row, mid_others, settled, settled_row, settled_chunks, settled_clear}
use Rattle.image_settle.proofs.walk.settle.Goals as goal

pub turn_found-requires-clause-cut : goal.turn_found-requires-clause-cut
turn_found-requires-clause-cut c = mid_row c.args.image.now c.args.words.now c.requires c.settle_chunks.new.words c.in-Ok.ensures.same_len c.in-Ok.ensures.cleared

pub returns-clause-settled : goal.returns-clause-settled
returns-clause-settled c =
    settled c.args.image.now c.args.words.now c.requires c.settle_chunks.new.words c.in-Ok.ensures.same_len c.in-Ok.ensures.cleared
    c.turn_found.new.words c.turn_found.ensures.same_len c.turn_found.ensures.turned

pub returns-clause-cut : goal.returns-clause-cut
returns-clause-cut c =
    settled_row c.args.image.now c.args.words.now c.requires c.settle_chunks.new.words c.in-Ok.ensures.same_len c.in-Ok.ensures.cleared
    c.turn_found.new.words c.turn_found.ensures.same_len c.turn_found.ensures.turned

pub returns-clause-chunks : goal.returns-clause-chunks
returns-clause-chunks c =
    settled_chunks c.args.image.now c.args.words.now c.requires c.settle_chunks.new.words c.in-Ok.ensures.same_len c.in-Ok.ensures.cleared
    c.turn_found.new.words c.turn_found.ensures.same_len c.turn_found.ensures.turned

pub returns-clause-clear : goal.returns-clause-clear
returns-clause-clear c =
    settled_clear c.args.image.now c.args.words.now c.requires c.settle_chunks.new.words c.in-Ok.ensures.same_len c.in-Ok.ensures.cleared
    c.turn_found.new.words c.turn_found.ensures.same_len c.turn_found.ensures.turned

pub turn_found-requires-clause-found : goal.turn_found-requires-clause-found
turn_found-requires-clause-found c off =
    mid_others c.args.image.now c.args.words.now c.requires c.settle_chunks.new.words c.in-Ok.ensures.same_len c.in-Ok.ensures.cleared (c.in-Ok.ensures.found off)
