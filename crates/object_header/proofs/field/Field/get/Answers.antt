use Rattle.object_header.proofs.Fields.{shr-mask}
use Rattle.object_header.proofs.field.Field.get.Goals as goal

pub returns-clause-value : goal.returns-clause-value
returns-clause-value g c = shr-mask c.args.word g.row.LO g.row.LEN c.requires.short
