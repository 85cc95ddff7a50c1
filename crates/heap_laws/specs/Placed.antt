-- The same objects under moved places: what stands at `s` in one store stands at `p s` in another.
use Rattle.std.specs.Prelude.{ℕ, ◌≡◌, ◌≢◌, ◌<◌, ◌≤◌, ◌%◌, Bool, true, false, if◌then◌else◌, List, map, drop, length, slice_index, Option, Some, None}
use Rattle.std.specs.Option.{unwrap_or}
use Rattle.std.specs.List.{All, Contains, filter}
use Rattle.std.specs.Ordering.{nat_cmp}
use Rattle.std.specs.FinMap.{FinMap, get, from_entries}
use Rattle.spur_graph.specs.Value.{is_immediate_word}
use Rattle.spur_graph.specs.Node.{Node}
use Rattle.spur_graph.specs.Graph.{Graph, Handle, handle_cmp}
use Rattle.spur_graph.specs.Cells.{Moved, Store, pointer_count, first, final, lead, is_there, is_start}
use Rattle.spur_graph.specs.Ordinary.{body_at, root_slot, page_places, is_internal, is_ordinary, ordinary_starts, is_good_reference, is_bad_forwarder}
use Rattle.spur_graph.specs.CellGraph.{read, node_of, graph_of}
use Rattle.spur_graph.specs.Room.{Spot}
use Rattle.object_header.specs.Chunks.{Chunk}
use Rattle.spur_graph.specs.CellRoom.{ordinary_chunks}
use Rattle.spur_graph.specs.Heaps.{handle_values, waiting_in}
use Rattle.heap_cells.specs.Rows.{starts_of}
use Rattle.heap_cells.specs.Settled.{IsLoadable}

-- where a word that is no immediate leads: to nil, where that is no ordinary object
abbrev pub goal : Store → ℕ → ℕ
goal h word = if is_good_reference h word then unwrap_or (lead h word) (first h 0) else first h 0

-- `word'` says in `new` what `word` says in `old`: the same immediate, or it leads to the place of the object to which `word` leads, which is kept
pub record IsPlacedWord (p : ℕ → ℕ) (keep : ℕ → Bool) (old new : Store) (word word' : ℕ) : Type 0 where
  pub same : is_immediate_word word ≡ true → word' ≡ word
  pub leads : is_immediate_word word ≡ false → lead new word' ≡ Some (p (goal old word))
  pub kept : is_immediate_word word ≡ false → keep (goal old word) ≡ true

-- the object at `s` stands at `p s`, with the same fields, as many words, each pointer slot saying what it said, and the same units. Of the free lists
-- object and of the hidden roots, chunks 3 and 4, the fields and the number of words alone
pub record IsPlacedObject (p : ℕ → ℕ) (keep : ℕ → Bool) (old new : Store) (s : ℕ) : Type 0 where
  pub there : is_there (new.cell (p s)) ≡ true
  pub head : body_at new (p s) ≡ record (body_at old s) { words = (body_at new (p s)).words }
  pub long : length (body_at new (p s)).words ≡ length (body_at old s).words
  pub slots : s ≢ first old 3 → s ≢ first old 4 → (i : ℕ) → i < pointer_count (body_at old s)
      → IsPlacedWord p keep old new (slice_index (body_at old s).words i) (slice_index (body_at new (p s)).words i)
  pub units : s ≢ first old 3 → s ≢ first old 4 → drop (pointer_count (body_at old s)) (body_at new (p s)).words ≡ drop (pointer_count (body_at old s)) (body_at old s).words

-- the kept objects of `old` stand in `new` where `p` says, one to one, and no other object does; the first five chunks and the pages of the class table
-- are kept; and each forwarder of `new` names a start and leads to an object
pub record IsPlaced (p : ℕ → ℕ) (keep : ℕ → Bool) (old new : Store) : Type 0 where
  pub some : (s : ℕ) → keep s ≡ true → is_there (old.cell s) ≡ true
  pub objects : (s : ℕ) → keep s ≡ true → IsPlacedObject p keep old new s
  pub back : (t : ℕ) → is_there (new.cell t) ≡ true → (s : ℕ) × (keep s ≡ true) × (p s ≡ t)
  pub once : (s t : ℕ) → keep s ≡ true → keep t ≡ true → p s ≡ p t → s ≡ t
  pub five : 5 ≤ length new.starts
  pub firsts : (j : ℕ) → j < 5 → (keep (first old j) ≡ true) × (first new j ≡ p (first old j))
  pub pages : (i s : ℕ) → i < page_places → old.to (root_slot old i) ≡ Some s → (keep s ≡ true) × (new.to (root_slot new i) ≡ Some (p s))
  pub targets : (s t : ℕ) → new.cell s ≡ Moved t → is_start (new.cell t) ≡ true
  pub ends : (s : ℕ) → is_bad_forwarder new s ≡ false

-- references are multiples of 8, and whatever starts stands among the starts
pub record IsReading (h : Store) : Type 0 where
  pub aligned : (w s : ℕ) → h.to w ≡ Some s → w % 8 ≡ 0
  pub inside : (s : ℕ) → is_start (h.cell s) ≡ true → Contains h.starts s

-- no cause of refusal applies to the one, whose first three chunks are ordinary, and its kept objects stand in the other
pub record CanPlace (p : ℕ → ℕ) (keep : ℕ → Bool) (old new : Store) : Type 0 where
  pub reads : IsReading old
  pub loadable : IsLoadable old
  pub outer : (j : ℕ) → j < 3 → is_internal old (first old j) ≡ false
  pub reads_new : IsReading new
  pub placed : IsPlaced p keep old new

-- ---- graphs

-- the nodes of the ordinary objects that are kept
unfoldable pub kept_nodes : (ℕ → ℕ) → (ℕ → Bool) → Store → FinMap nat_cmp Node
kept_nodes name keep h = from_entries (map (λ s. (name s, node_of name h (body_at h s))) (filter keep (ordinary_starts h)))

-- the graph of a store whose names these are, with what names it from outside: in a heap, where names are starts, it is `graph_in`
abbrev pub graph_under : (ℕ → ℕ) → Store → ℕ → FinMap handle_cmp ℕ → List (List ℕ) → ℕ → ℕ → Graph
graph_under name h special held groups hash next = record (graph_of name h special (handle_values (read name h) held) hash next) { mourners = map (map (λ s. name (final h s))) groups }

-- the same graph without the nodes that are not kept
abbrev pub kept_graph : (ℕ → ℕ) → (ℕ → Bool) → Store → ℕ → FinMap handle_cmp ℕ → List (List ℕ) → ℕ → ℕ → Graph
kept_graph name keep h special held groups hash next = record (graph_under name h special held groups hash next) { nodes = kept_nodes name keep h }

-- a handle is held by both or by neither, and its words say the same
abbrev pub IsPlacedHandle : (p : ℕ → ℕ) (keep : ℕ → Bool) (old new : Store) → Option ℕ → Option ℕ → Type 0
IsPlacedHandle p keep old new None None = Unit {0}
IsPlacedHandle p keep old new None (Some w') = ⊥
IsPlacedHandle p keep old new (Some w) None = ⊥
IsPlacedHandle p keep old new (Some w) (Some w') = IsPlacedWord p keep old new w w'

-- what names objects from outside: the special objects word, the words of handles, and the starts of mourners
pub record Outside : Type 0 where
  pub special : ℕ
  pub held : FinMap handle_cmp ℕ
  pub groups : List (List ℕ)

-- it says in `new` what it says in `old`
pub record IsPlacedOutside (p : ℕ → ℕ) (keep : ℕ → Bool) (old new : Store) (o o' : Outside) : Type 0 where
  pub special : IsPlacedWord p keep old new o.special o'.special
  pub held : (h : Handle) → IsPlacedHandle p keep old new (get o.held h) (get o'.held h)
  pub groups : map (map (final new)) o'.groups ≡ map (map p) (map (map (final old)) o.groups)
  pub waiting : All (λ s. (keep (final old s) ≡ true) × (is_ordinary old (final old s) ≡ true)) (waiting_in o.groups)

-- all numbers are paired one to one, and the name of each kept object with the name of its place
pub record ArePaired (p : ℕ → ℕ) (keep : ℕ → Bool) (old : Store) (name name' place back : ℕ → ℕ) : Type 0 where
  pub left : (a : ℕ) → back (place a) ≡ a
  pub right : (a : ℕ) → place (back a) ≡ a
  pub named : (s : ℕ) → keep s ≡ true → is_ordinary old s ≡ true → place (name s) ≡ name' (p s)

-- ---- chunks

-- the chunk of each kept object goes to one with the same spot, and each object of `new` has such a one; starts rise in both
pub record ArePlacedChunks (p : ℕ → ℕ) (keep : ℕ → Bool) (new : Store) (spot spot' : Chunk → Spot) (cs cs' : List Chunk) : Type 0 where
  pub to : (c : Chunk) → Contains cs c → keep c.start ≡ true → (d : Chunk) × Contains cs' d × (d.start ≡ p c.start) × (spot' d ≡ spot c)
  pub from : (d : Chunk) → Contains cs' d → is_there (new.cell d.start) ≡ true → (c : Chunk) × Contains cs c × (keep c.start ≡ true) × (p c.start ≡ d.start)
  pub rise : (i j : ℕ) → i < j → j < length (starts_of cs) → slice_index (starts_of cs) i < slice_index (starts_of cs) j
  pub rise_new : (i j : ℕ) → i < j → j < length (starts_of cs') → slice_index (starts_of cs') i < slice_index (starts_of cs') j

-- the spots of the ordinary objects, by name; those of the kept ones
abbrev pub spots_under : (ℕ → ℕ) → (Chunk → Spot) → Store → List Chunk → FinMap nat_cmp Spot
spots_under name spot h cs = from_entries (map (λ (c : Chunk). (name c.start, spot c)) (ordinary_chunks h cs))

abbrev pub kept_spots : (ℕ → ℕ) → (ℕ → Bool) → (Chunk → Spot) → Store → List Chunk → FinMap nat_cmp Spot
kept_spots name keep spot h cs = from_entries (map (λ (c : Chunk). (name c.start, spot c)) (filter (λ (c : Chunk). keep c.start) (ordinary_chunks h cs)))
