-- The chain of segments, as far as it has been followed.
use Rattle.std.specs.Prelude.{◌≡◌, ◌≤◌, ℕ, ◌+◌, ◌-◌, ◌*◌, ◌%◌, List, ◌++◌, length, true, false}
use Rattle.spur_graph.specs.ImageFile.{header_bytes}
use Rattle.spur_graph.specs.ImageCauses.{Comes, IsBadLink, IsLeast, is_bad_segment, behind}
use Rattle.spur_graph.specs.Segments.{Segment, segment, segments, chain, most_segments, total_words}
use Rattle.heap_segments.specs.Rising.{end_address, end_place}
use Rattle.image_file.specs.declared.chain.Link.{Link}
use Rattle.image_file.specs.declared.error.LoadError.{LoadError}
use Rattle.image_file.specs.declared.error.LoadError.TheVariants as errors

abbrev pub segment_of : Link → Segment
segment_of l = record { at = l.place; size = l.size; address = l.address }

-- the segment can be tried behind these, in a heap that ends at this place of the file
pub record IsReady (end : ℕ) (map : List Segment) (l : Link) : Type 0 where
  pub aligned : l.address % 8 ≡ 0
  pub above : end_address 0 map ≤ l.address
  pub place : end_place header_bytes map ≡ l.place
  pub within : l.place ≤ end
  pub words : header_bytes + 8 * total_words map ≤ l.place

-- the chain of these bytes begins with the segments of the map, and comes to this one
pub record Leads (bytes : List ℕ) (map : List Segment) (l : Link) : Type 0 where
  pub comes : Comes bytes (length map)
  pub next : segment bytes (length map) ≡ segment_of l
  pub chain_is : segments bytes ≡ map ++ chain bytes (length map) (most_segments - length map)

-- segment `i` of the bytes can't stand, or bytes of the heap are left behind it
abbrev pub IsBadAt : List ℕ → ℕ → Type 0
IsBadAt bytes i = Comes bytes i × IsBadLink bytes i

-- the map has the whole chain, and the bytes of the heap end with it
pub record IsChain (bytes : List ℕ) (map : List Segment) : Type 0 where
  pub all : map ≡ segments bytes
  pub good : (i : ℕ) → IsBadAt bytes i → ⊥

-- bytes of the heap are left behind segment `i`
pub record EndsEarly (bytes : List ℕ) (i n : ℕ) : Type 0 where
  pub least : IsLeast (IsBadAt bytes) i
  pub stands : is_bad_segment bytes i ≡ false
  pub left : n ≡ behind bytes i

-- the segment can't stand
pub record CannotStand (bytes : List ℕ) (i : ℕ) : Type 0 where
  pub least : IsLeast (IsBadAt bytes) i
  pub bad : is_bad_segment bytes i ≡ true

-- what an error tells of the chain
abbrev pub IsLinkError : List ℕ → LoadError → Type 0
IsLinkError bytes (errors.Segment i) = CannotStand bytes i
IsLinkError bytes (errors.End n) = (i : ℕ) × EndsEarly bytes i n
IsLinkError bytes errors.ReadFault = Unit {0}
IsLinkError bytes errors.Memory = Unit {0}
IsLinkError bytes other = ⊥
