use Rattle.spur_graph.specs.FileStores.{file_store}
use Rattle.image_settle.proofs.walk.settle.Given as goal

abbrev pub ghost-settle_chunks : goal.ghost-settle_chunks
ghost-settle_chunks a = file_store a.image.now.map.now a.words.now
