use Rattle.std.proofs.Common.{◌-◌, length}
use Rattle.object_header.specs.Chunks.{chunks}
use Rattle.image_settle.specs.Settles.{IsTurned}
use Rattle.image_settle.proofs.Walking.{Walking}
use Rattle.image_settle.proofs.walk.turn_forwarders.Given as goal

abbrev pub invariant-chunks : goal.invariant-chunks
invariant-chunks l = Walking (λ c j w. IsTurned l.map l.fn.words c j w) l.fn.words l.words (chunks l.fn.words) l.at

abbrev pub decreases-chunks : goal.decreases-chunks
decreases-chunks l = length l.words - l.at
