use Rattle.image_settle.proofs.object.settle_any.Given as goal

abbrev pub ghost-settle_roots : goal.ghost-settle_roots
ghost-settle_roots g a = g.h

abbrev pub ghost-settle_slots : goal.ghost-settle_slots
ghost-settle_slots g a = g.h
