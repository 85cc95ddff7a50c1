use Rattle.scavenge_laws.proofs.Tests.{live_stand_outside}
use Rattle.scavenge_laws.proofs.laws.live_stand_outside.Goals as goal

pub returns : goal.returns
returns c = live_stand_outside
