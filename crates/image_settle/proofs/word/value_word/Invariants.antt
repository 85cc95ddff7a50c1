use Rattle.image_settle.proofs.word.value_word.Given as goal

abbrev pub ghost-ordinary_start : goal.ghost-ordinary_start
ghost-ordinary_start g a = g.h
