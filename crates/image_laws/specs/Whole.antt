-- A heap whose words are the settled ones of an accepted image stands for the graph and the room of the bytes.
use Rattle.std.specs.Prelude.{ℕ, ◌≡◌, ◌+◌, ◌*◌, ◌<◌, ◌≤◌, ◌%◌, ◌^◌, List, [], ◌++◌, length, map, slice_index, true, false, Some}
use Rattle.std.specs.List.{All, Contains}
use Rattle.std.specs.FinMap.{empty}
use Rattle.spur_graph.specs.declared.limits.Limits.{Limits}
use Rattle.spur_graph.specs.ImageFile.{special_word, last_hash}
use Rattle.spur_graph.specs.Segments.{Segment, segments, all_words, word_in}
use Rattle.object_header.specs.Chunks.{Chunk, Cuts, chunks}
use Rattle.spur_graph.specs.Cells.{Store}
use Rattle.spur_graph.specs.Ordinary.{is_good_reference, is_bad_forwarder}
use Rattle.spur_graph.specs.CellRoom.{room_sizes}
use Rattle.spur_graph.specs.ImageCauses.{most_words, image_store}
use Rattle.spur_graph.specs.Spaces.{fresh_spaces}
use Rattle.spur_graph.specs.Heaps.{View, IsClear, IsCarried, IsWhole, Stands, row_store}
use Rattle.spur_graph.specs.LoadedGraph.{loaded_graph, loaded_room}
use Rattle.heap_segments.specs.Rising.{IsRising, AreInOrder}
use Rattle.heap_cells.specs.Settled.{IsLoadable, IsNamed, IsSettled, settled_word}
use Rattle.image_checks.specs.Checks.{AreOf, IsResolved}
use Rattle.spur_graph.specs.FileStores.{file_store}

-- the words of old space are those of the store settled, nothing stands in new space, and nothing is held besides the special objects array
pub record IsLoaded (h : Store) (special : ℕ) (front : List ℕ) (v : View) : Type 0 where
  pub rest : List ℕ
  pub words_are : v.words ≡ front ++ rest
  pub spaces_are : v.spaces ≡ fresh_spaces (length front) v.limits
  pub behind : length rest ≡ v.limits.eden + 2 * v.limits.survivor
  pub none_mourn : v.mourners ≡ []
  pub named : IsNamed h
  pub loadable : IsLoadable h
  pub settled : IsSettled h (row_store front)
  pub special_there : is_good_reference h special ≡ true
  pub special_word : v.special ≡ settled_word h special
  pub none_held : v.handles ≡ empty
  pub cut : Cuts front 0 (length front) (chunks front)
  pub clear : All (λ (c : Chunk). IsClear (slice_index front c.start)) (chunks front)
  pub state_bits : v.hash < 2 ^ 32
  pub header : IsCarried v.carried
  pub few : length v.words ≤ most_words

abbrev pub LoadedIsWhole : Type 0
LoadedIsWhole = (h : Store) (special : ℕ) (front : List ℕ) (v : View) → IsLoaded h special front v → IsWhole v

-- the segments and the words are those of the bytes, and no forwarder is bad
pub record IsFile (bytes : List ℕ) (segs : List Segment) (words : List ℕ) : Type 0 where
  pub segments_are : segs ≡ segments bytes
  pub words_are : words ≡ all_words bytes
  pub rising : IsRising 0 segs
  pub of : AreOf segs words
  pub cut : Cuts words 0 (length words) (chunks words)
  pub ends : (s : ℕ) → is_bad_forwarder (file_store segs words) s ≡ false

-- the store that is settled has the forwarders resolved
pub record IsHeapOf (bytes : List ℕ) (limits : Limits) (segs : List Segment) (words : List ℕ) (mid : Store) (room : List Chunk) (front : List ℕ) (v : View) : Type 0 where
  pub resolved : IsResolved (file_store segs words) mid
  pub loaded : IsLoaded mid (special_word bytes) front v
  pub state : v.hash ≡ last_hash bytes % 2 ^ 32
  pub within : v.limits ≡ limits
  -- behind the chunks of the file the room stands as one more
  pub row : chunks front ≡ chunks words ++ room
  pub sizes : map (λ (c : Chunk). c.size) room ≡ room_sizes limits.room
  pub long : length front ≡ length words + limits.room

abbrev pub HeapStands : Type 0
HeapStands = (bytes : List ℕ) (limits : Limits) (segs : List Segment) (words : List ℕ) (mid : Store) (room : List Chunk) (front : List ℕ) (v : View) → IsFile bytes segs words → IsHeapOf bytes limits segs words mid room front v
    → Stands v (loaded_graph bytes) (loaded_room bytes limits)

-- the heap stands for the bytes with each object at the word that its address names, so that its objects have the order of the file's
pub record StandsInOrder (bytes : List ℕ) (limits : Limits) (v : View) : Type 0 where
  pub stands : Stands v (loaded_graph bytes) (loaded_room bytes limits)
  pub placed : (a s : ℕ) → word_in (segments bytes) 0 a ≡ Some s → Contains (image_store bytes).starts s → stands.place a ≡ s
  pub rising : AreInOrder (segments bytes)
