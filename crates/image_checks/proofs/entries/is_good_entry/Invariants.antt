use Rattle.spur_graph.specs.FileStores.{file_store}
use Rattle.image_checks.proofs.entries.is_good_entry.Given as goal

abbrev pub ghost-ordinary_start : goal.ghost-ordinary_start
ghost-ordinary_start a = file_store a.image.now.map.now a.words.now
