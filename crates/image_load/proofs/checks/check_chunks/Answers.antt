use Rattle.spur_graph.specs.FileStores.{file_store}
use Rattle.image_load.proofs.Telling.{told_object, told_root}
use Rattle.image_load.proofs.checks.check_chunks.Goals as goal

pub returns-in-Err-clause-told : goal.returns-in-Err-clause-told
returns-in-Err-clause-told c =
    told_object c.args.map.now c.args.words.now (file_store c.args.map.now c.args.words.now) c.in-Err.at c.offset.result c.offset.ensures c.in-Err.ensures.least

pub returns-in-Err-first_bad_root-clause-told : goal.returns-in-Err-first_bad_root-clause-told
returns-in-Err-first_bad_root-clause-told c =
    told_root c.args.map.now c.args.words.now (file_store c.args.map.now c.args.words.now) c.in-Err-first_bad_root.at c.offset-in-Err-first_bad_root.result c.offset-in-Err-first_bad_root.ensures
    c.in-Ok.ensures.least c.in-Err-first_bad_root.ensures.least

pub returns-in-Ok-first_bad_root-clause-chunks : goal.returns-in-Ok-first_bad_root-clause-chunks
returns-in-Ok-first_bad_root-clause-chunks c = record {
  cut = c.in-Ok.ensures.cut;
  read = c.in-Ok.ensures.read;
  objects = c.in-Ok.ensures.least;
  roots = c.in-Ok-first_bad_root.ensures.least;
  first = record { roots = c.in-Ok-first_bad_root.ensures.five c.args.map.now; are = c.in-Ok-first_bad_root.ensures.starts c.args.map.now };
}
