use Rattle.heap_laws.proofs.Swaps.{copied_is_swapped}
use Rattle.heap_laws.proofs.laws.copied_is_swapped.Goals as goal

pub returns : goal.returns
returns c = copied_is_swapped
