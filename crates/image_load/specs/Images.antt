-- An image as it was read, and its objects once they are settled.
use Rattle.std.specs.Prelude.{ℕ, ◌≡◌, ◌≢◌, ◌+◌, ◌*◌, ◌<◌, ◌≤◌, List, length, take, true, false}
use Rattle.heap_walk.specs.Starts.{has_start, covered}
use Rattle.spur_graph.specs.ImageFile.{header_bytes, special_word, last_hash}
use Rattle.spur_graph.specs.Segments.{Segment, segments, all_words, total_words}
use Rattle.object_header.specs.Chunks.{Cuts, chunks}
use Rattle.spur_graph.specs.Ordinary.{is_good_reference}
use Rattle.spur_graph.specs.ImageCauses.{most_words}
use Rattle.spur_graph.specs.Heaps.{IsCarried}
use Rattle.heap_segments.specs.Rising.{IsRising}
use Rattle.heap_cells.specs.Settled.{IsLoadable, settled_word}
use Rattle.image_checks.specs.Checks.{IsResolved, IsLost}
use Rattle.spur_graph.specs.FileStores.{file_store}
use Rattle.image_settle.specs.Rooms.{IsAlone}
use Rattle.image_file.specs.Passed.{Passes}
use Rattle.image_file.specs.Whole.{last_row}
use Rattle.spur_heap.specs.Tables.{HasEmptyTables, IsUnbound}
use Rattle.image_load.specs.declared.image.Image.{Image}

-- what was read is of these bytes, to which no cause before those of objects applies
pub record IsImageOf (bytes : List ℕ) (image : Image) : Type 0 where
  pub special_is : image.header.special ≡ special_word bytes
  pub hash_is : image.header.last_hash ≡ last_hash bytes
  pub carried_is : image.header.carried ≡ take header_bytes bytes
  pub map_is : image.map ≡ segments bytes
  pub words_are : take (total_words image.map) image.bare.region ≡ all_words bytes
  pub passes : Passes bytes image.bare.limits last_row

-- places of which a heap can be made, with the words of the segments at their front and the room behind them
pub record IsSoundImage (image : Image) : Type 0 where
  pub carried : IsCarried image.header.carried
  pub some : 0 < length image.map
  pub room : image.bare.limits.room ≢ 1
  pub old : total_words image.map + image.bare.limits.room ≡ image.bare.old_end
  pub long : image.bare.old_end + image.bare.limits.eden + 2 * image.bare.limits.survivor ≡ length image.bare.region
  pub few : length image.bare.region ≤ most_words
  pub covers : covered image.bare.starts ≡ length image.bare.region
  pub unmarked : (s : ℕ) → has_start image.bare.starts s ≡ false
  pub unbound : IsUnbound image.bare
  pub tables : HasEmptyTables image.bare

-- the words of an image's objects are settled, and the special objects reference is this word of the heap; `mid` are the words with their
-- forwarders resolved
pub record AreSettled (segs : List Segment) (old new : List ℕ) (special word : ℕ) : Type 0 where
  pub mid : List ℕ
  pub rising : IsRising 0 segs
  pub cut : Cuts old 0 (length old) (chunks old)
  pub lost : (n : ℕ) → IsLost (file_store segs old) n → ⊥
  pub resolved : IsResolved (file_store segs old) (file_store segs mid)
  pub loadable : IsLoadable (file_store segs mid)
  pub alone : IsAlone (file_store segs mid) new
  pub special_there : is_good_reference (file_store segs mid) special ≡ true
  pub special_word : word ≡ settled_word (file_store segs mid) special
  pub row : chunks new ≡ chunks old
  pub long : length new ≡ length old
