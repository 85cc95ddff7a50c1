use Rattle.image_settle.proofs.word.settled_word.Given as goal

abbrev pub ghost-value_word : goal.ghost-value_word
ghost-value_word g a = g.h
