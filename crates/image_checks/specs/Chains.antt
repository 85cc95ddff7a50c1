-- Chains of forwarders while they are resolved.
use Rattle.std.specs.Prelude.{ℕ, ◌≡◌, ◌+◌, ◌⊎◌, List, length, slice_index, true, false}
use Rattle.spur_graph.specs.Segments.{Segment}
use Rattle.object_header.specs.Chunks.{chunks}
use Rattle.spur_graph.specs.Cells.{Moved, Store, final, is_moved, is_there}
use Rattle.heap_walk.specs.Starts.{has_start, covered}
use Rattle.heap_walk.specs.declared.starts.StartMap.{StartMap}
use Rattle.image_checks.specs.Checks.{AreOf, IsCut, HasFive, HasStarts, IsResolved}
use Rattle.spur_graph.specs.FileStores.{file_store}

-- the words are those of the segments' objects, cut into chunks, and the map has their starts
pub record AreKnown (segs : List Segment) (words : List ℕ) (starts : StartMap) : Type 0 where
  pub cut : IsCut segs words
  pub all : AreOf segs words
  pub marked : HasStarts (file_store segs words) (has_start starts)
  pub covers : covered starts ≡ length words

-- the chain from a start ends in an object
abbrev pub Ends : Store → ℕ → Type 0
Ends h s = is_there (h.cell (final h s)) ≡ true

-- the forwarder at `s`, whose chain ends in an object, names this object
pub record IsShort (old new : Store) (s : ℕ) : Type 0 where
  pub moved : is_moved (old.cell s) ≡ true
  pub ends : Ends old s
  pub is : new.cell s ≡ Moved (final old s)

-- some forwarders name the objects to which they lead, and nothing else has changed
pub record Shortens (old new : Store) : Type 0 where
  pub names : new.names ≡ old.names
  pub starts : new.starts ≡ old.starts
  pub to : new.to ≡ old.to
  pub cells : (s : ℕ) → (new.cell s ≡ old.cell s) ⊎ IsShort old new s

-- no word has changed but words behind the headers of forwarders
abbrev pub ChangesForwarders : Store → List ℕ → List ℕ → Type 0
ChangesForwarders h old new = (j : ℕ) → ((s : ℕ) → j ≡ s + 1 → is_moved (h.cell s) ≡ false) → slice_index new j ≡ slice_index old j

-- the words with some forwarders resolved
pub record AreShortened (segs : List Segment) (old new : List ℕ) : Type 0 where
  pub long : length new ≡ length old
  pub cut : IsCut segs new
  pub store : Shortens (file_store segs old) (file_store segs new)
  pub words : ChangesForwarders (file_store segs old) old new
  pub row : chunks new ≡ chunks old

-- where forwarders are resolved, the first five chunks are as they were
abbrev pub KeepsFive : Type 0
KeepsFive = (old new : Store) → IsResolved old new → HasFive old → HasFive new
