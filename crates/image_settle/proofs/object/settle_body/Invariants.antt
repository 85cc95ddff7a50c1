use Rattle.image_settle.proofs.object.settle_body.Given as goal

abbrev pub ghost-settle_object : goal.ghost-settle_object
ghost-settle_object g a = g.h

abbrev pub ghost-settle_any : goal.ghost-settle_any
ghost-settle_any g a = g.h
