use Rattle.spur_graph.specs.FileStores.{file_store}
use Rattle.image_load.proofs.objects.settle_objects.Given as goal

abbrev pub ghost-settled_word : goal.ghost-settled_word
ghost-settled_word a = file_store a.image.now.map.now a.words.now
