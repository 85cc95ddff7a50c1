use Rattle.heap_laws.proofs.Settled.{settled_is_sound}
use Rattle.heap_laws.proofs.laws.settled_is_sound.Goals as goal

pub returns : goal.returns
returns c = settled_is_sound
