use Rattle.std.proofs.Common.{◌<◌, ◌-◌, ℕ, length}
use Rattle.spur_graph.specs.FileStores.{file_store}
use Rattle.image_checks.specs.Chains.{AreKnown, AreShortened}
use Rattle.image_checks.proofs.Resolving.{IsDone}
use Rattle.image_checks.proofs.chains.resolve_forwarders.Given as goal

abbrev pub invariant-starts : goal.invariant-starts
invariant-starts l = record {
  known : AreKnown l.map l.words l.starts;
  short : AreShortened l.map l.fn.words l.words;
  done : (t : ℕ) → t < l.at → IsDone (file_store l.map l.fn.words) (file_store l.map l.words) t;
}

abbrev pub decreases-starts : goal.decreases-starts
decreases-starts l = length l.fn.words - l.at
