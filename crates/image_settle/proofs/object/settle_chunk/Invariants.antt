use Rattle.image_settle.proofs.object.settle_chunk.Given as goal

abbrev pub ghost-settle_body : goal.ghost-settle_body
ghost-settle_body g a = g.h
