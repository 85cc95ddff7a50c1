use Rattle.scavenge_laws.proofs.Tests.{round_is_made}
use Rattle.scavenge_laws.proofs.laws.round_is_made.Goals as goal

pub returns : goal.returns
returns c = round_is_made
