use Rattle.scavenge_laws.proofs.Tests.{stuck_fire}
use Rattle.scavenge_laws.proofs.laws.stuck_fire.Goals as goal

pub returns : goal.returns
returns c = stuck_fire
