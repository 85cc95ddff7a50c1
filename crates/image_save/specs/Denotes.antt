-- What a saved file says: it is read as one segment of the heap's words, which are cut into the chunks that are saved, each object stands at its place,
-- and so it denotes the heap's graph.
use Rattle.std.specs.Prelude.{◌≡◌, ◌+◌, ◌^◌, ◌<◌, List, [], ◌∷◌, map, length, if◌then◌else◌}
use Rattle.std.specs.List.{All}
use Rattle.object_header.specs.Chunks.{Chunk, Cuts}
use Rattle.free_lists.specs.Rows.{written}
use Rattle.spur_graph.specs.ImageFile.{header_bytes, spur_format, format, header_size, heap_bytes, base, special_word, last_hash, first_segment}
use Rattle.spur_graph.specs.Segments.{Segment, segments, all_words}
use Rattle.spur_graph.specs.Cells.{Store}
use Rattle.spur_graph.specs.FileStores.{file_store}
use Rattle.spur_graph.specs.Graph.{Graph}
use Rattle.spur_graph.specs.Room.{Room}
use Rattle.spur_graph.specs.Heaps.{View, IsWhole, Stands, store_of, heap_graph}
use Rattle.spur_graph.specs.Denotes.{Denotes, bare}
use Rattle.heap_laws.specs.Placed.{CanPlace}
use Rattle.image_save.specs.Saved.{saved_text, saved_words, saved_bytes, saved_value, saved_chunks, file_place, has_object}

-- words have 64 bits
abbrev pub HasWords : View → Type 0
HasWords v = All (λ w. w < 2 ^ 64) v.words

-- ---- the file is read

-- the one segment of the file
abbrev pub saved_segment : View → Segment
saved_segment v = record { at = header_bytes; size = saved_bytes v; address = base v.carried }

-- the header, the one segment, and the words of its objects
pub record IsRead (v : View) : Type 0 where
  pub spur : format (saved_text v) ≡ spur_format
  pub size : header_size (saved_text v) ≡ header_bytes
  pub heap_is : heap_bytes (saved_text v) ≡ saved_bytes v
  pub base_is : base (saved_text v) ≡ base v.carried
  pub special_is : special_word (saved_text v) ≡ saved_value v v.special
  pub hash_is : last_hash (saved_text v) ≡ v.hash
  pub first_is : first_segment (saved_text v) ≡ saved_bytes v
  pub long : length (saved_text v) ≡ header_bytes + saved_bytes v
  pub segments_are : segments (saved_text v) ≡ saved_segment v ∷ []
  pub words_are : all_words (saved_text v) ≡ saved_words v

abbrev pub SavedIsRead : Type 0
SavedIsRead = (v : View) → IsWhole v → HasWords v → IsRead v

-- ---- its words are cut

-- a chunk that is saved, under its place: an object as it is, and else the free chunk of so many words
abbrev pub placed_chunk : View → Chunk → Chunk
placed_chunk v c = if has_object v c.start then record c { at = file_place v c.at; start = file_place v c.start } else written (file_place v c.at) c.size

-- the chunks that are saved, under their places
abbrev pub placed_chunks : View → List Chunk
placed_chunks v = map (placed_chunk v) (saved_chunks v)

abbrev pub SavedIsCut : Type 0
SavedIsCut = (v : View) → IsWhole v → Cuts (saved_words v) 0 (length (saved_words v)) (placed_chunks v)

-- ---- each object of the heap stands in the file at its place

-- the words of the file as a store
abbrev pub saved_store : View → Store
saved_store v = file_store (saved_segment v ∷ []) (saved_words v)

abbrev pub SavedIsPlaced : Type 0
SavedIsPlaced = (v : View) → IsWhole v → CanPlace (file_place v) (has_object v) (store_of v) (saved_store v)

-- ---- no cause of refusal but `large` applies to the file, and it stands for the heap's graph without handles and mourners, up to names

-- the graph without what names it from outside
abbrev pub bare_graph : View → Graph
bare_graph v = bare (heap_graph v)

abbrev pub SavedDenotes : Type 0
SavedDenotes = (v : View) → IsWhole v → HasWords v → Denotes (saved_text v) (bare_graph v)

-- so it denotes each graph that the heap stands for, without its handles and mourners
abbrev pub SavedDenotesGraph : Type 0
SavedDenotesGraph = (v : View) (g : Graph) (room : Room) → Stands v g room → HasWords v → Denotes (saved_text v) (bare g)
