use Rattle.std.proofs.Common.{◌<◌, ◌*◌, ℕ}
use Rattle.spur_graph.specs.Ordinary.{page_entries}
use Rattle.image_checks.specs.Checks.{IsBadIndex}
use Rattle.spur_graph.specs.FileStores.{file_store}
use Rattle.image_checks.proofs.entries.first_bad_entry.Given as goal

abbrev pub invariant-places : goal.invariant-places
invariant-places l = (n : ℕ) → n < l.place * page_entries → IsBadIndex (file_store l.image.map.now l.words) n → ⊥
