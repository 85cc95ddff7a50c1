use Rattle.scavenge_laws.proofs.Tests.{end_begins}
use Rattle.scavenge_laws.proofs.laws.end_begins.Goals as goal

pub returns : goal.returns
returns c = end_begins
