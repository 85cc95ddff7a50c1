use Rattle.compaction_laws.proofs.Wholes.{compacted_is_whole}
use Rattle.compaction_laws.proofs.laws.compacted_is_whole.Goals as goal

pub returns : goal.returns
returns c = compacted_is_whole
