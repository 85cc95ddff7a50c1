use Rattle.compaction_laws.proofs.Swept.{compacted_is_swept}
use Rattle.compaction_laws.proofs.laws.compacted_is_swept.Goals as goal

pub returns : goal.returns
returns c = compacted_is_swept
