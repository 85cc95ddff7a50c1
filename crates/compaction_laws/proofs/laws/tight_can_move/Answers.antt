use Rattle.compaction_laws.proofs.Ready.{tight_can_move}
use Rattle.compaction_laws.proofs.laws.tight_can_move.Goals as goal

pub returns : goal.returns
returns c = tight_can_move
