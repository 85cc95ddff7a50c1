use Rattle.heap_segments.proofs.Rising.{is_one_to_one}
use Rattle.heap_segments.proofs.laws.is_one_to_one.Goals as goal

pub returns : goal.returns
returns c = is_one_to_one
