use Rattle.std.proofs.Common.{◌∙◌}
use Rattle.spur_graph.specs.FileStores.{file_store}
use Rattle.image_checks.proofs.AtStarts.{led_good}
use Rattle.image_checks.proofs.references.is_good_reference.Goals as goal

pub returns : goal.returns
returns c = c.is_some.ensures ∙ led_good (file_store c.args.image.now.map.now c.args.words.now) c.args.word c.ordinary_start.result c.ordinary_start.ensures.value
