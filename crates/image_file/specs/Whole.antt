-- What is read of the front of a file.
use Rattle.std.specs.Prelude.{◌≡◌, ◌≤◌, ◌<◌, ℕ, ◌+◌, ◌/◌, List, length}
use Rattle.spur_graph.specs.declared.limits.Limits.{Limits}
use Rattle.spur_graph.specs.ImageFile.{header_bytes, heap_bytes}
use Rattle.spur_graph.specs.ImageCauses.{most_words}
use Rattle.spur_graph.specs.Segments.{segments, total_words}
use Rattle.heap_segments.specs.Rising.{end_place}
use Rattle.image_header.specs.Headers.{IsHeaderOf}
use Rattle.image_file.specs.Passed.{Passes, needed_words}
use Rattle.image_file.specs.Errors.{IsSoundHeader}
use Rattle.image_file.specs.declared.front.Front.{Front}

-- the number of the last row of causes that the front tells of, that of bad segments
abbrev pub last_row : ℕ
last_row = 7

-- the front of these bytes, which no cause up to that row applies to
pub record IsFrontOf (bytes : List ℕ) (limits : Limits) (f : Front) : Type 0 where
  pub header_is : IsHeaderOf bytes f.header
  pub map_is : f.map ≡ segments bytes
  pub held : header_bytes + heap_bytes bytes ≤ length bytes
  pub ends : end_place header_bytes f.map ≡ header_bytes + heap_bytes bytes
  pub passes : Passes bytes limits last_row

-- a front of which the header, the size and the map are such as a heap can have
pub record IsSoundFront (limits : Limits) (f : Front) : Type 0 where
  pub header : IsSoundHeader f.header
  pub fits : needed_words f.header limits ≤ most_words
  pub some : 0 < length f.map
  pub words : total_words f.map ≤ f.header.heap_bytes / 8
