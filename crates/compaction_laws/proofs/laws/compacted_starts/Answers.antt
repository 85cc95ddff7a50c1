use Rattle.compaction_laws.proofs.Wholes.{compacted_starts}
use Rattle.compaction_laws.proofs.laws.compacted_starts.Goals as goal

pub returns : goal.returns
returns c = compacted_starts
