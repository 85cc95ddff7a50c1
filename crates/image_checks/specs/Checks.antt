-- What the words of an image's heap are tested for, and what the tests leave.
use Rattle.std.specs.Prelude.{ℕ, ◌≡◌, ◌+◌, ◌<◌, ◌≤◌, List, length, take, Bool, true, if◌then◌else◌}
use Rattle.spur_graph.specs.Segments.{Segment, total_words}
use Rattle.object_header.specs.Chunks.{Cuts, chunks}
use Rattle.spur_graph.specs.Cells.{Moved, Store, first, final, is_start, is_there, is_moved, is_formed}
use Rattle.spur_graph.specs.Ordinary.{body_at, roots_slots, page_places, is_ordinary, is_bad_forwarder, is_bad_page, is_bad_entry}
use Rattle.spur_graph.specs.Places.{IsBadObject}
use Rattle.spur_graph.specs.FileStores.{file_store}

-- the words are those of the segments' objects
abbrev pub AreOf : List Segment → List ℕ → Type 0
AreOf segs words = length words ≡ total_words segs

-- a chunk is refused in its segment
abbrev pub IsBadIn : List Segment → List ℕ → ℕ → Type 0
IsBadIn segs words n = (i : ℕ) × (i < length segs) × IsBadObject words (total_words (take i segs)) (total_words (take (i + 1) segs)) n

-- the words are cut into chunks without a rest, and each object is formed
pub record IsCut (segs : List Segment) (words : List ℕ) : Type 0 where
  pub cut : Cuts words 0 (length words) (chunks words)
  pub formed : (s : ℕ) → is_there ((file_store segs words).cell s) ≡ true → is_formed (body_at (file_store segs words) s) ≡ true

-- the first five chunks are objects, the fourth no method, the fifth an array of 4,104 slots
pub record HasFive (h : Store) : Type 0 where
  pub five : 5 ≤ length h.starts
  pub objects : (k : ℕ) → k < 5 → is_there (h.cell (first h k)) ≡ true
  pub lists : (body_at h (first h 3)).format < 24
  pub roots : ((body_at h (first h 4)).format ≡ 2) × (length (body_at h (first h 4)).words ≡ roots_slots)

-- the map has the starts of objects and forwarders
abbrev pub HasStarts : Store → (ℕ → Bool) → Type 0
HasStarts h has = (s : ℕ) → has s ≡ is_start (h.cell s)

-- the map has the starts of the ordinary objects
abbrev pub HasOrdinary : Store → (ℕ → Bool) → Type 0
HasOrdinary h has = (s : ℕ) → has s ≡ is_ordinary h s

-- each forwarder names the object to which it leads, and nothing else has changed
pub record IsResolved (old new : Store) : Type 0 where
  pub names : new.names ≡ old.names
  pub starts : new.starts ≡ old.starts
  pub to : new.to ≡ old.to
  pub cells : (s : ℕ) → new.cell s ≡ (if is_moved (old.cell s) then Moved (final old s) else old.cell s)

-- the first slot of a forwarder whose chain does not end in an object
abbrev pub IsLost : Store → ℕ → Type 0
IsLost h n = (s : ℕ) × (n ≡ s + 1) × (is_bad_forwarder h s ≡ true)

-- a place of a page that names neither nil nor a page
abbrev pub IsBadPlace : Store → ℕ → Type 0
IsBadPlace h i = (i < page_places) × (is_bad_page h i ≡ true)

-- an index whose entry is neither nil nor an entered class
abbrev pub IsBadIndex : Store → ℕ → Type 0
IsBadIndex h i = is_bad_entry h i ≡ true
