use Rattle.scavenge_laws.proofs.Tests.{noted_are_all}
use Rattle.scavenge_laws.proofs.laws.noted_are_all.Goals as goal

pub returns : goal.returns
returns c = noted_are_all
