-- What resolved forwarders leave as it was.
use Rattle.std.proofs.Common.{◌≡◌, ℕ, ◌-◌, List, length, sym, ap, ◌∙◌, arith}
use Rattle.heap_walk.specs.declared.starts.StartMap.{StartMap}
use Rattle.heap_walk.specs.Starts.{has_start, covered}
use Rattle.spur_graph.specs.Segments.{Segment, word_in}
use Rattle.spur_graph.specs.Cells.{cell_in, is_start}
use Rattle.object_header.specs.Chunks.{chunks_from, chunks, row, starts_in}
use Rattle.heap_cells.proofs.Starts.{start-of-row}
use Rattle.image_checks.specs.Checks.{IsCut, HasStarts, IsResolved, IsLost}
use Rattle.spur_graph.specs.FileStores.{file_store}
use Rattle.image_checks.proofs.Resolved.{keeps-five}
use Rattle.image_words.specs.declared.image.Roots.{Roots}
use Rattle.image_laws.proofs.Resolved.{resolved_is_same}
use Rattle.image_laws.proofs.Rows.{none_is_lost}
use Rattle.image_load.specs.Passes.{AreGoodChunks, AreForwarded}

-- the map of a row of chunks has the starts of the words' store
pub starts_marked : (segs : List Segment) (words : List ℕ) (map : StartMap) → ((s : ℕ) → has_start map s ≡ starts_in words (row words 0 (length words)) s) → HasStarts (file_store segs words) (has_start map)
unfolding chunks
starts_marked segs words map marked s =
    let all : length words - 0 ≡ length words = omega arith in
    marked s ∙ start-of-row (word_in segs 0) words (row words 0 (length words)) s ∙ ap (λ n. is_start (cell_in (word_in segs 0) words (chunks_from n words 0 (length words)) s)) all

pub forwarded : (segs : List Segment) (old new : List ℕ) (roots : Roots) (starts : StartMap) → AreGoodChunks segs old roots → IsResolved (file_store segs old) (file_store segs new)
    → ((n : ℕ) → IsLost (file_store segs old) n → ⊥) → IsCut segs new → HasStarts (file_store segs new) (has_start starts) → covered starts ≡ length new → chunks new ≡ chunks old → length new ≡ length old
    → AreForwarded segs old new roots starts
forwarded segs old new roots starts good resolved lost cut marked covers row long =
    let before = file_store segs old in
    let now = file_store segs new in
    let same = resolved_is_same before now resolved (none_is_lost before lost) in
    record {
      resolved = resolved;
      lost = lost;
      checked = record { cut = cut; covers = covers; starts = marked; resolved = same.direct };
      first = record {
        roots = keeps-five before now resolved good.first.roots;
        are = record {
          nil = good.first.are.nil ∙ sym (same.cells.firsts 0);
          false_object = good.first.are.false_object ∙ sym (same.cells.firsts 1);
          true_object = good.first.are.true_object ∙ sym (same.cells.firsts 2);
          free_lists = good.first.are.free_lists ∙ sym (same.cells.firsts 3);
          hidden_roots = good.first.are.hidden_roots ∙ sym (same.cells.firsts 4);
        };
      };
      row = row;
      long = long;
    }
