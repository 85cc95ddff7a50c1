-- What earlier passes over an image's words leave to later ones.
use Rattle.std.specs.Prelude.{ℕ, ◌≡◌, ◌<◌, ◌≤◌, List, length, slice_index, Bool, true, false, not, ◌&&◌, ◌||◌, nat_eq, nat_lt, Option, Some, None, Result, Ok, Err}
use Rattle.object_header.specs.Chunks.{StandsAt, slots_at, slots_from}
use Rattle.object_header.specs.Fields.{fields_of}
use Rattle.object_header.specs.Head.{format_of}
use Rattle.heap_walk.specs.declared.starts.StartMap.{StartMap}
use Rattle.heap_walk.specs.Starts.{has_start, covered}
use Rattle.spur_graph.specs.Segments.{Segment}
use Rattle.spur_graph.specs.Cells.{Body, Moved, Store, first, lead, is_there, any_below, body_from}
use Rattle.spur_graph.specs.Ordinary.{page_entries, page_places, passes, root_slot, tells, is_nil_slot, is_entered, is_bad_page}
use Rattle.image_words.specs.declared.image.Roots.{Roots}
use Rattle.image_words.specs.declared.image.ImageWords.{ImageWords}
use Rattle.image_words.specs.Roots.{has_root, AreRoots}
use Rattle.image_words.specs.References.{IsImage, Leads}
use Rattle.image_checks.specs.Checks.{IsCut, HasFive, HasStarts}
use Rattle.spur_graph.specs.FileStores.{file_store}

-- the words are cut into formed chunks, whose starts the map has, and each forwarder names an object
pub record IsChecked (segs : List Segment) (words : List ℕ) (map : StartMap) : Type 0 where
  pub cut : IsCut segs words
  pub covers : covered map ≡ length words
  pub starts : HasStarts (file_store segs words) (has_start map)
  pub resolved : (s t : ℕ) → (file_store segs words).cell s ≡ Moved t → is_there ((file_store segs words).cell t) ≡ true

-- the first five chunks can be those of a heap, and these are their starts
pub record AreFirst (h : Store) (starts : Roots) : Type 0 where
  pub roots : HasFive h
  pub are : AreRoots h starts

-- one of the first `n` slots of the hidden roots names this start, which is not that of nil
abbrev pub is_taken : Store → ℕ → ℕ → Bool
is_taken h n s = not (nat_eq s (first h 0)) && any_below (λ i. tells h i s) n

-- the map has the starts of the objects that are not taken
abbrev pub AreLeft : Store → ℕ → (ℕ → Bool) → Type 0
AreLeft h n has = (s : ℕ) → has s ≡ (is_there (h.cell s) && not (is_taken h n s))

-- no place of the hidden roots is bad
abbrev pub HasPages : Store → Type 0
HasPages h = (i : ℕ) → i < page_places → is_bad_page h i ≡ false

-- the words are cut into formed chunks, the maps and the roots are theirs, the first five can be those of a heap, and no place of the hidden roots is bad
pub record IsPaged (image : ImageWords) (words : List ℕ) : Type 0 where
  pub cut : IsCut image.map.now words
  pub maps : IsImage (file_store image.map.now words) image
  pub leads : Leads (file_store image.map.now words) words
  pub five : HasFive (file_store image.map.now words)
  pub pages : HasPages (file_store image.map.now words)

-- no number of the range is in the set, or this is the least one that is
abbrev pub FindsWithin : (ℕ → Type 0) → ℕ → ℕ → Result (Unit {0}) ℕ → Type 0
FindsWithin P from end (Ok a) = (n : ℕ) → from ≤ n → n < end → P n → ⊥
FindsWithin P from end (Err n) = (from ≤ n) × (n < end) × P n × ((m : ℕ) → from ≤ m → m < n → P m → ⊥)

-- each start of the map is that of a chunk
pub record AreWithin (words : List ℕ) (map : StartMap) : Type 0 where
  pub covers : covered map ≡ length words
  pub each : (s : ℕ) → has_start map s ≡ true → StandsAt words s

-- the object whose header stands here
abbrev pub object_at : List ℕ → ℕ → Body
object_at words s = body_from (fields_of (slice_index words s)) (slots_from words s)

-- the chunk that starts here is in the map, is none of the first five, and is an array of as many slots as a page has
abbrev pub is_free_page : List ℕ → Roots → StartMap → ℕ → Bool
is_free_page words roots map s =
    nat_lt s (covered map) && has_start map s && not (has_root roots s) && (nat_eq (format_of (slice_index words s)) 2 && nat_eq (slots_at words s) page_entries)

-- a place has no page, or this one
abbrev pub HasPage : Store → ℕ → Option ℕ → Type 0
HasPage h i None = is_nil_slot h i ≡ true
HasPage h i (Some s) = (is_nil_slot h i ≡ false) × (h.to (root_slot h i) ≡ Some s)

-- the word is good for entry `i` of the class table: it leads to nil, or to an entered class where that is not entry 0
abbrev pub is_good_entry : Store → ℕ → ℕ → Bool
is_good_entry h i word = passes (λ s. nat_eq s (first h 0) || (not (nat_eq i 0) && is_entered h s)) (lead h word)
