use Rattle.std.proofs.Common.{◌≡◌, ◌<◌, ◌≤◌, ℕ, length, get_or}
use Rattle.object_header.specs.Chunks.{chunks}
use Rattle.spur_graph.specs.Places.{place, IsBadRoot}
use Rattle.heap_cells.specs.Rows.{starts_of}
use Rattle.image_checks.proofs.Placed.{GoodRoot}
use Rattle.image_checks.proofs.roots.first_bad_root.Given as goal

abbrev pub invariant-roots : goal.invariant-roots
invariant-roots l = record {
  order : l.at ≤ length l.words;
  here : place l.words 0 (length l.words) l.k ≡ l.at;
  none : (n : ℕ) (b : IsBadRoot l.words 0 (length l.words) n) → l.k ≤ b.k;
  good : (j : ℕ) → j < l.k → GoodRoot l.words j;
  count : length l.starts ≡ 5;
  starts : (j : ℕ) → j < l.k → get_or l.starts j 0 ≡ get_or (starts_of (chunks l.words)) j 0;
}
