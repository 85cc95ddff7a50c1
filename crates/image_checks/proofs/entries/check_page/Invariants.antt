use Rattle.std.proofs.Common.{◌<◌, ◌≤◌, ◌+◌, ◌*◌, ℕ}
use Rattle.spur_graph.specs.Ordinary.{page_entries}
use Rattle.image_checks.specs.Checks.{IsBadIndex}
use Rattle.spur_graph.specs.FileStores.{file_store}
use Rattle.image_checks.proofs.entries.check_page.Given as goal

abbrev pub invariant-entries : goal.invariant-entries
invariant-entries l = (n : ℕ) → l.place * page_entries ≤ n → n < l.place * page_entries + l.entry → IsBadIndex (file_store l.image.map.now l.words) n → ⊥
