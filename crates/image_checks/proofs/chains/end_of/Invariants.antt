use Rattle.std.proofs.Common.{◌≡◌, ◌+◌, ◌<◌, length, true}
use Rattle.spur_graph.specs.FileStores.{file_store}
use Rattle.image_checks.proofs.Shortened.{moved_in}
use Rattle.image_checks.proofs.Resolving.{IsLeft}
use Rattle.image_checks.proofs.chains.end_of.Given as goal

abbrev pub invariant-steps : goal.invariant-steps
invariant-steps l = record {
  inside : l.at + 1 < length l.words;
  moved : moved_in (file_store l.map l.words) l.at ≡ true;
  left : IsLeft l.map l.words l._step l.at l.fn.s;
}
