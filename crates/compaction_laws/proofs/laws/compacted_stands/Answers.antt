use Rattle.compaction_laws.proofs.Wholes.{compacted_stands}
use Rattle.compaction_laws.proofs.laws.compacted_stands.Goals as goal

pub returns : goal.returns
returns c = compacted_stands
