use Rattle.image_settle.proofs.object.settle_object.Given as goal

abbrev pub ghost-settle_values : goal.ghost-settle_values
ghost-settle_values g a = g.h
