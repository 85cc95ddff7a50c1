use Rattle.std.proofs.Common.{◌≡◌, ◌+◌, ◌<◌, length, true}
use Rattle.spur_graph.specs.Cells.{Moved, final}
use Rattle.spur_graph.specs.FileStores.{file_store}
use Rattle.image_checks.specs.Chains.{AreShortened}
use Rattle.image_checks.proofs.Shortened.{moved_in}
use Rattle.image_checks.proofs.chains.shorten.Given as goal

abbrev pub invariant-steps : goal.invariant-steps
invariant-steps l = record {
  inside : l.at + 1 < length l.words;
  moved : moved_in (file_store l.map l.words) l.at ≡ true;
  short : AreShortened l.map l.fn.words l.words;
  leads : final (file_store l.map l.fn.words) l.at ≡ final (file_store l.map l.fn.words) l.fn.s;
  begun : l._step ≡ 0 → l.at ≡ l.fn.s;
  done : 0 < l._step → (file_store l.map l.words).cell l.fn.s ≡ Moved (final (file_store l.map l.fn.words) l.fn.s);
}
