-- What the passes over an image's words leave, and what their errors tell.
use Rattle.std.specs.Prelude.{ℕ, ◌≡◌, List, length, true}
use Rattle.heap_walk.specs.declared.starts.StartMap.{StartMap}
use Rattle.heap_walk.specs.Starts.{has_start, covered}
use Rattle.heap_cells.specs.Rows.{AllRead}
use Rattle.spur_graph.specs.declared.limits.Limits.{Limits}
use Rattle.spur_graph.specs.ImageFile.{special_word}
use Rattle.spur_graph.specs.Segments.{Segment, segments, all_words}
use Rattle.object_header.specs.Chunks.{chunks}
use Rattle.spur_graph.specs.Cells.{Store}
use Rattle.spur_graph.specs.Ordinary.{is_good_reference}
use Rattle.spur_graph.specs.Places.{IsBadRoot}
use Rattle.spur_graph.specs.ImageCauses.{Row, BadObject, BadSlot}
use Rattle.image_checks.specs.Checks.{IsBadIn, IsCut, IsResolved, IsLost, IsBadPlace, IsBadIndex, HasOrdinary}
use Rattle.image_words.specs.declared.image.Roots.{Roots}
use Rattle.image_words.specs.References.{IsBadPointer}
use Rattle.spur_graph.specs.FileStores.{file_store}
use Rattle.image_checks.specs.Checked.{IsChecked, AreFirst}
use Rattle.image_laws.specs.Causes.{AreCauses, NoneBefore}
use Rattle.image_file.specs.declared.error.LoadError.{LoadError}
use Rattle.image_file.specs.declared.error.LoadError.TheVariants as errors
use Rattle.image_load.specs.declared.checks.Found.{Found}
use Rattle.image_file.specs.Errors.{IsCauseOf}

-- ---- errors

-- the passes over these bytes have come to a row: no earlier one has a bad key, and from here on keys are looked up in these words and this store
pub record Reaches (bytes : List ℕ) (limits : Limits) (segs : List Segment) (words : List ℕ) (h : Store) (row : Row) : Type 0 where
  pub causes : AreCauses bytes limits segs words h
  pub before : NoneBefore bytes limits row

-- the error is the first cause of whatever bytes have come to a row
abbrev pub TellsFrom : List Segment → List ℕ → Store → Row → LoadError → Type 0
TellsFrom segs words h row e = (bytes : List ℕ) (limits : Limits) → Reaches bytes limits segs words h row → IsCauseOf bytes limits e

-- the same, where the special objects reference is this word
abbrev pub TellsOf : List Segment → List ℕ → Store → ℕ → LoadError → Type 0
TellsOf segs words h special e = (bytes : List ℕ) (limits : Limits) → special ≡ special_word bytes → Reaches bytes limits segs words h BadSlot → IsCauseOf bytes limits e

-- no read has failed
abbrev pub IsNoFault : LoadError → Type 0
IsNoFault errors.ReadFault = ⊥
IsNoFault other = Unit {0}

-- ---- what the passes leave

-- the chunks are read, and the first five can be those of a heap
pub record AreGoodChunks (segs : List Segment) (words : List ℕ) (starts : Roots) : Type 0 where
  pub cut : IsCut segs words
  pub read : AllRead words 0 (length words)
  pub objects : (n : ℕ) → IsBadIn segs words n → ⊥
  pub roots : (n : ℕ) → IsBadRoot words 0 (length words) n → ⊥
  pub first : AreFirst (file_store segs words) starts

-- no forwarder is lost, and each names the object to which it leads
pub record AreForwarded (segs : List Segment) (old new : List ℕ) (five : Roots) (starts : StartMap) : Type 0 where
  pub resolved : IsResolved (file_store segs old) (file_store segs new)
  pub lost : (n : ℕ) → IsLost (file_store segs old) n → ⊥
  pub checked : IsChecked segs new starts
  pub first : AreFirst (file_store segs new) five
  pub row : chunks new ≡ chunks old
  pub long : length new ≡ length old

-- the class table is good, and the map has the ordinary objects
pub record HasClasses (segs : List Segment) (words : List ℕ) (ordinary : StartMap) : Type 0 where
  pub covers : covered ordinary ≡ length words
  pub are : HasOrdinary (file_store segs words) (has_start ordinary)
  pub places : (n : ℕ) → IsBadPlace (file_store segs words) n → ⊥
  pub indices : (n : ℕ) → IsBadIndex (file_store segs words) n → ⊥

-- pointers have values, and the special objects reference names an ordinary object
pub record HasValues (segs : List Segment) (words : List ℕ) (special : ℕ) : Type 0 where
  pub pointers : (n : ℕ) → IsBadPointer (file_store segs words) n → ⊥
  pub special_there : is_good_reference (file_store segs words) special ≡ true

-- ---- all passes

-- these are the segments, the words and the special objects reference of bytes for which no row before that of bad objects has a bad key
pub record AreTried (bytes : List ℕ) (limits : Limits) (segs : List Segment) (words : List ℕ) (special : ℕ) : Type 0 where
  pub segments_are : segs ≡ segments bytes
  pub words_are : words ≡ all_words bytes
  pub special_is : special ≡ special_word bytes
  pub before : NoneBefore bytes limits BadObject

-- the words have passed all but the test of values, and these maps and starts are what was found in them
pub record HavePassed (segs : List Segment) (old new : List ℕ) (f : Found) : Type 0 where
  pub chunks_are : AreGoodChunks segs old f.roots
  pub forwarded : AreForwarded segs old new f.roots f.starts
  pub classes : HasClasses segs new f.ordinary
