use Rattle.std.proofs.Common.{None}
use Rattle.image_checks.proofs.ClassEntries.{good_entry}
use Rattle.image_checks.proofs.entries.is_good_entry.Goals as goal

pub returns-in-None : goal.returns-in-None
returns-in-None c = good_entry c.requires.paged.cut c.args.index c.args.word None c.requires.paged.five c.in-None.ensures.value
