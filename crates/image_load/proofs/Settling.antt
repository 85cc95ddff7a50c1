-- The words that have passed all tests are ready to be settled, and what they are then.
use Rattle.std.proofs.Common.{◌≡◌, ℕ, ◌≤◌, ◌^◌, List, length, slice_index, arith, ◌∙◌}
use Rattle.std.specs.List.{All}
use Rattle.object_header.specs.Chunks.{Chunk, Cuts, chunks}
use Rattle.spur_graph.specs.Heaps.{row_store, IsClear}
use Rattle.heap_segments.specs.Rising.{IsRising}
use Rattle.heap_cells.specs.Settled.{IsNamed, IsSettled, settled_word}
use Rattle.image_checks.specs.Checks.{AreOf}
use Rattle.spur_graph.specs.FileStores.{file_store}
use Rattle.image_words.specs.declared.image.ImageWords.{ImageWords}
use Rattle.image_checks.proofs.AtStarts.{checked_leads, checked_image}
use Rattle.image_settle.specs.Settles.{IsReady, Follows}
use Rattle.image_settle.proofs.Ready.{ready_follows}
use Rattle.image_laws.proofs.Rows.{none_is_loadable}
use Rattle.image_laws.proofs.Named.{file_is_named}
use Rattle.image_load.specs.declared.checks.Found.{Found}
use Rattle.image_load.specs.Passes.{HasValues, HavePassed}
use Rattle.image_load.specs.Images.{AreSettled}

-- what was found of an image
abbrev pub found_in : ImageWords → Found
found_in image = record { starts = image.starts.now; ordinary = image.ordinary.now; roots = image.roots }

module _ (image : ImageWords) (old mid : List ℕ) (p : HavePassed image.map.now old mid (found_in image)) (rising : IsRising 0 image.map.now) (all : AreOf image.map.now old) (small : length old ≤ 2 ^ 27) where
  named : IsNamed (file_store image.map.now mid)
  named = file_is_named image.map.now mid rising (p.forwarded.long ∙ all) p.forwarded.checked.cut.cut

  pub ready : IsReady image mid
  ready = record {
    cut = p.forwarded.checked.cut.cut;
    formed = p.forwarded.checked.cut.formed;
    nil = p.forwarded.first.roots.objects 0 (omega arith);
    named = named;
    maps = checked_image image p.forwarded.checked p.classes.covers p.classes.are p.forwarded.first.are;
    leads = checked_leads p.forwarded.checked;
    small = omega (arith, p.forwarded.long, small);
  }

  pub follows : Follows (file_store image.map.now mid) image
  follows = ready_follows image mid ready

  pub settled : (special : ℕ) → HasValues image.map.now mid special → (new : List ℕ) (word : ℕ) → word ≡ settled_word (file_store image.map.now mid) special → length new ≡ length mid → IsSettled (file_store image.map.now mid) (row_store new)
      → Cuts new 0 (length new) (chunks new) → chunks new ≡ chunks mid → All (λ (c : Chunk). IsClear (slice_index new c.start)) (chunks new) → AreSettled image.map.now old new special word
  settled special values new word is long k cut row clear = record {
    mid = mid;
    rising = rising;
    cut = p.chunks_are.cut.cut;
    lost = p.forwarded.lost;
    resolved = p.forwarded.resolved;
    loadable = (none_is_loadable (file_store image.map.now old) (file_store image.map.now mid) p.forwarded.resolved p.chunks_are.cut.formed p.chunks_are.first.roots p.forwarded.lost
        p.classes.places p.classes.indices values.pointers).1;
    alone = record { named = named; resolved = p.forwarded.checked.resolved; settled = k; cut = cut; clear = clear };
    special_there = values.special_there;
    special_word = is;
    row = row ∙ p.forwarded.row;
    long = long ∙ p.forwarded.long;
  }
