use Rattle.scavenge_laws.proofs.Tests.{scavenge_begins}
use Rattle.scavenge_laws.proofs.laws.scavenge_begins.Goals as goal

pub returns : goal.returns
returns c = scavenge_begins
