-- What a heap stands for. Its words have a reference as 8 times a start, and the names of its graph are the starts themselves.
use Rattle.std.specs.Prelude.{ℕ, ◌≡◌, ◌≢◌, ◌<◌, ◌≤◌, ◌*◌, ◌/◌, ◌%◌, ◌^◌, List, [], length, slice_index, map, Bool, true, false, if◌then◌else◌, nat_eq, nat_le, nat_lt, Option, Some, None}
use Rattle.std.specs.List.{All, Contains, flat_map}
use Rattle.std.specs.FinMap.{FinMap, get, entries, from_entries, retain_keys}
use Rattle.object_header.specs.Field.{field_of}
use Rattle.object_header.specs.Fields.{fields_of}
use Rattle.spur_graph.specs.declared.answer.Value.{Value}
use Rattle.spur_graph.specs.declared.limits.Limits.{Limits}
use Rattle.spur_graph.specs.ImageFile.{header_bytes, spur_format, format, header_size, base}
use Rattle.spur_graph.specs.Graph.{Graph, Handle, handle_cmp, AreApart}
use Rattle.spur_graph.specs.Names.{Iso}
use Rattle.spur_graph.specs.Room.{Room, fresh_words, is_long}
use Rattle.spur_graph.specs.Step.{SameRoom}
use Rattle.object_header.specs.Chunks.{Chunk, chunks}
use Rattle.spur_graph.specs.Cells.{Store, Cell, Empty, Moved, There, store_in, is_start, is_there, is_formed, pointer_count, final, first, any_below}
use Rattle.spur_graph.specs.Ordinary.{passes, body_at, root_slot, page_places, roots_slots, is_internal, is_ordinary, is_good_reference, is_good_word, is_bad_forwarder, is_bad_page, is_bad_entry, is_bad_slot}
use Rattle.spur_graph.specs.CellGraph.{read, graph_of}
use Rattle.spur_graph.specs.Spaces.{Spaces, AreSpaces, AreRows, old_row, eden_row, past_row, young_row, rows}
use Rattle.spur_graph.specs.HeapRoom.{room_in}
use Rattle.spur_graph.specs.ImageCauses.{greatest_base, most_words}

-- whether all mark bits are clear, or some may be set
pub data Phase : Type 0 where
  Whole : Phase
  Marked : Phase

-- what contracts see of a heap: its words, where its spaces are, the starts of its mourners in groups, the words of handles, the special objects word,
-- the hash state, the bytes of its image's header, its limits, its phase, and the starts on the mark stack, the latest last, of which nothing is asked. The
-- start map, the free lists and the remembered table are told by the words
pub record View : Type 0 where
  pub words : List ℕ
  pub spaces : Spaces
  pub mourners : List (List ℕ)
  pub handles : FinMap handle_cmp ℕ
  pub special : ℕ
  pub hash : ℕ
  pub carried : List ℕ
  pub limits : Limits
  pub phase : Phase
  pub stack : List ℕ

-- a reference of a heap is 8 times a start
abbrev pub heap_to : ℕ → Option ℕ
heap_to word = if nat_eq (word % 8) 0 then Some (word / 8) else None

-- words with these chunks as a store
abbrev pub heap_store : List ℕ → List Chunk → Store
heap_store words cs = store_in heap_to words cs

-- words that are one row as a store
abbrev pub row_store : List ℕ → Store
row_store words = heap_store words (chunks words)

-- the chunks of a heap, in order of place, and those of its new space
abbrev pub chunks_of : View → List Chunk
chunks_of v = rows v.words v.spaces

abbrev pub store_of : View → Store
store_of v = heap_store v.words (chunks_of v)

-- the names of a heap's graph
abbrev pub own_name : ℕ → ℕ
own_name s = s

-- the values of handles, by the words that they are bound to
abbrev pub handle_values : (ℕ → Value) → FinMap handle_cmp ℕ → FinMap handle_cmp Value
handle_values value held = from_entries (map (λ e. (e.0, value e.1)) (entries held))

-- nil, false, true, the free lists object and the hidden roots are the first five chunks, and the hidden roots name the pages of the class table
pub record HasRoots (h : Store) : Type 0 where
  pub five : 5 ≤ length h.starts
  pub objects : (k : ℕ) → k < 5 → is_there (h.cell (first h k)) ≡ true
  pub outer : (k : ℕ) → k < 3 → is_internal h (first h k) ≡ false
  pub lists : (body_at h (first h 3)).format < 24
  pub roots : ((body_at h (first h 4)).format ≡ 2) × (length (body_at h (first h 4)).words ≡ roots_slots)
  pub tops : (i : ℕ) → page_places ≤ i → i < roots_slots → root_slot h i ≡ 8 * first h 0
  pub pages : (i : ℕ) → i < page_places → is_bad_page h i ≡ false
  pub entries : (i : ℕ) → is_bad_entry h i ≡ false

-- each object is formed, each forwarder leads to an object, and each slot of an ordinary object has a value
pub record IsSound (h : Store) : Type 0 where
  pub formed : (s : ℕ) → is_there (h.cell s) ≡ true → is_formed (body_at h s) ≡ true
  pub targets : (s t : ℕ) → h.cell s ≡ Moved t → is_start (h.cell t) ≡ true
  pub ends : (s : ℕ) → is_bad_forwarder h s ≡ false
  pub roots : HasRoots h
  pub slots : (s i : ℕ) → is_bad_slot h s i ≡ false

-- the two bits of a header that are in none of its fields are 0
pub record HasNoUnusedBits (word : ℕ) : Type 0 where
  pub low : field_of 22 1 word ≡ 0
  pub high : field_of 54 1 word ≡ 0

-- a header word without mark, grey and remembered bit, and without a bit of no field
pub record IsClear (word : ℕ) : Type 0 where
  pub marked : (fields_of word).marked ≡ 0
  pub grey : (fields_of word).grey ≡ 0
  pub remembered : (fields_of word).remembered ≡ 0
  pub unused : HasNoUnusedBits word

-- the bytes of a header that an image can have
pub record IsCarried (bytes : List ℕ) : Type 0 where
  pub long : length bytes ≡ header_bytes
  pub spur : format bytes ≡ spur_format
  pub size : header_size bytes ≡ header_bytes
  pub aligned : base bytes % 8 ≡ 0
  pub low : base bytes ≤ greatest_base

-- ---- the bits of a header that are no part of an object

-- the header at a start has the mark bit, the remembered bit
abbrev pub is_marked : List ℕ → ℕ → Bool
is_marked words s = nat_eq (fields_of (slice_index words s)).marked 1

abbrev pub is_remembered : List ℕ → ℕ → Bool
is_remembered words s = nat_eq (fields_of (slice_index words s)).remembered 1

-- where the heap is whole no header has a mark bit; none ever has a grey one or a bit of no field
pub record HasBits (phase : Phase) (word : ℕ) : Type 0 where
  pub marked : phase ≡ Whole → (fields_of word).marked ≡ 0
  pub grey : (fields_of word).grey ≡ 0
  pub unused : HasNoUnusedBits word

-- ---- references from old space to new space

-- the word names a place behind old space
abbrev pub is_over : ℕ → ℕ → Bool
is_over end word = passes (λ t. nat_le end t) (heap_to word)

-- what stands there names a place behind old space, in a pointer slot or as the target of a forwarder
unfoldable pub names_over : ℕ → Cell → Bool
names_over end Empty = false
names_over end (Moved t) = nat_le end t
names_over end (There b) = any_below (λ i. is_over end (slice_index b.words i)) (pointer_count b)

-- whatever stands in old space and names new space has the remembered bit, but for the free lists object, whose words are no values; and whatever has
-- the bit is an object or a forwarder of old space
pub record AreRemembered (words : List ℕ) (end : ℕ) (cs : List Chunk) (h : Store) : Type 0 where
  pub all : (s : ℕ) → s < end → s ≢ first h 3 → names_over end (h.cell s) ≡ true → is_remembered words s ≡ true
  pub only : (c : Chunk) → Contains cs c → is_remembered words c.start ≡ true → (c.start < end) × (is_start (h.cell c.start) ≡ true)

-- ---- mourners

-- the starts of the mourners, group after group
abbrev pub waiting_in : List (List ℕ) → List ℕ
waiting_in groups = flat_map (λ group. group) groups

-- a mourner's start leads to an ordinary object of format 1
pub record HasFired (h : Store) (s : ℕ) : Type 0 where
  pub ordinary : is_ordinary h (final h s) ≡ true
  pub format : (body_at h (final h s)).format ≡ 1

-- no group is empty, and no object mourns twice
pub record AreMourners (h : Store) (groups : List (List ℕ)) : Type 0 where
  pub some : All (λ group. group ≢ []) groups
  pub fired : All (HasFired h) (waiting_in groups)
  pub apart : AreApart (map (final h) (waiting_in groups))

-- ---- new space

-- a chunk of new space is an object or a forwarder, is not pinned, and has the words of one that was made here
pub record IsYoung (h : Store) (c : Chunk) : Type 0 where
  pub start : is_start (h.cell c.start) ≡ true
  pub mobile : (body_at h c.start).pinned ≡ 0
  pub form : (c.size ≡ fresh_words c.slots) × (nat_lt c.at c.start ≡ is_long c.slots)

-- a heap stands for a graph: each of its spaces is cut into chunks without a rest, what stands in them is sound, and whatever names an object from
-- outside is good. Internal objects and free chunks stand in old space
pub record IsWhole (v : View) : Type 0 where
  pub spaces : AreSpaces (length v.words) v.limits v.spaces
  pub rows : AreRows v.words v.spaces
  pub sound : IsSound (store_of v)
  pub inner : (s : ℕ) → is_internal (store_of v) s ≡ true → s < v.spaces.old_end
  pub young : (c : Chunk) → Contains (young_row v.words v.spaces) c → IsYoung (store_of v) c
  pub bits : (c : Chunk) → Contains (chunks_of v) c → HasBits v.phase (slice_index v.words c.start)
  pub remembered : AreRemembered v.words v.spaces.old_end (chunks_of v) (store_of v)
  pub held : (h : Handle) (word : ℕ) → get v.handles h ≡ Some word → is_good_word (store_of v) word ≡ true
  pub special_there : is_good_reference (store_of v) v.special ≡ true
  pub mourners : AreMourners (store_of v) v.mourners
  pub state_bits : v.hash < 2 ^ 32
  pub header : IsCarried v.carried
  pub few : length v.words ≤ most_words

-- ---- the graph and the room

-- the value of a word in a heap
abbrev pub heap_value : View → ℕ → Value
heap_value v word = read own_name (store_of v) word

-- the names of mourners, in their groups
abbrev pub mourners_of : Store → List (List ℕ) → List (List ℕ)
mourners_of h groups = map (map (final h)) groups

-- the graph of a store whose special objects word, handles, mourners and hash state are these
abbrev pub graph_in : Store → ℕ → FinMap handle_cmp ℕ → List (List ℕ) → ℕ → ℕ → Graph
graph_in h special held groups hash next = record (graph_of own_name h special (handle_values (read own_name h) held) hash next) { mourners = mourners_of h groups }

-- the graph whose names are the starts
abbrev pub heap_graph : View → Graph
heap_graph v = graph_in (store_of v) v.special v.handles v.mourners v.hash (length v.words)

-- the graph without the nodes that are not marked
abbrev pub marked_graph : View → Graph
marked_graph v = record (heap_graph v) { nodes = retain_keys (heap_graph v).nodes (is_marked v.words) }

-- the room of the words
abbrev pub heap_room : View → Room
heap_room v = room_in (store_of v) (old_row v.words v.spaces) (eden_row v.words v.spaces) (past_row v.words v.spaces) v.spaces.old_end v.limits v.spaces.eden_used v.spaces.past_used

-- the heap stands for this graph and this room, up to names: `place` takes them to starts
pub record Stands (v : View) (g : Graph) (room : Room) : Type 0 where
  pub whole : IsWhole v
  pub place : ℕ → ℕ
  pub back : ℕ → ℕ
  pub graph : Iso g (heap_graph v) place back
  pub figures : SameRoom room (heap_room v) place
