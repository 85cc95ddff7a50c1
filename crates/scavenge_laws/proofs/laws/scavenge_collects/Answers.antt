use Rattle.scavenge_laws.proofs.Tests.{scavenge_collects}
use Rattle.scavenge_laws.proofs.laws.scavenge_collects.Goals as goal

pub returns : goal.returns
returns c = scavenge_collects
