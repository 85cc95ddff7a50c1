-- The laws of moved places.
use Rattle.std.specs.Prelude.{ℕ, ◌≡◌, ◌<◌, ◌≤◌, ◌*◌, Bool, true, List, ◌++◌, map, length, if◌then◌else◌, None}
use Rattle.std.specs.List.{All}
use Rattle.std.specs.Ordering.{nat_cmp}
use Rattle.std.specs.FinMap.{get, from_entries}
use Rattle.spur_graph.specs.declared.limits.Limits.{Limits}
use Rattle.spur_graph.specs.Graph.{Graph}
use Rattle.spur_graph.specs.Names.{Iso, swapped}
use Rattle.spur_graph.specs.Room.{Space, Spot, Old, Eden, Past}
use Rattle.spur_graph.specs.Step.{SameRoom}
use Rattle.object_header.specs.Chunks.{Chunk}
use Rattle.spur_graph.specs.Cells.{Store, first}
use Rattle.spur_graph.specs.Ordinary.{is_ordinary, root_slot, page_places, roots_slots}
use Rattle.spur_graph.specs.CellGraph.{nodes_of}
use Rattle.spur_graph.specs.CellRoom.{ordinary_chunks, spot_of, room_of}
use Rattle.spur_graph.specs.HeapRoom.{spot_in, spots_of}
use Rattle.spur_graph.specs.Heaps.{View, IsSound, IsWhole, own_name, heap_store, store_of, graph_in, heap_graph}
use Rattle.heap_cells.specs.Settled.{IsLoadable, IsNamed, IsSettled, word_of}
use Rattle.heap_laws.specs.Placed.{CanPlace, Outside, IsPlacedOutside, ArePaired, ArePlacedChunks, graph_under, kept_graph, kept_nodes, spots_under, kept_spots}
use Rattle.heap_laws.specs.Instances.{IsSoundStore, IsSwept, IsCopied, IsReaddressed, IsGoodOutside, LivesOutside, IsReaddressedOutside, live_objects, all_objects, same_place, moved_to}
use Rattle.heap_laws.specs.Compaction.{with_lists, IsCompacted}

-- no cause of refusal applies to the objects under moved places, and where the slots of the hidden roots behind the pages are nil they are sound
abbrev pub PlacedIsLoadable : Type 0
PlacedIsLoadable = (p : ℕ → ℕ) (keep : ℕ → Bool) (old new : Store) → CanPlace p keep old new → IsLoadable new

abbrev pub PlacedIsSound : Type 0
PlacedIsSound = (p : ℕ → ℕ) (keep : ℕ → Bool) (old new : Store) → CanPlace p keep old new → ((i : ℕ) → page_places ≤ i → i < roots_slots → root_slot new i ≡ 8 * first new 0) → IsSound new

-- they stand for the same graph without what is not kept, up to names
abbrev pub PlacedIsSameGraph : Type 0
PlacedIsSameGraph = (p : ℕ → ℕ) (keep : ℕ → Bool) (old new : Store) (name name' place back : ℕ → ℕ) (o o' : Outside) (hash next next' : ℕ) → CanPlace p keep old new
    → ((s t : ℕ) → keep s ≡ true → keep t ≡ true → name s ≡ name t → s ≡ t) → ArePaired p keep old name name' place back → IsPlacedOutside p keep old new o o'
    → Iso (kept_graph name keep old o.special o.held o.groups hash next) (graph_under name' new o'.special o'.held o'.groups hash next') place back

-- where all ordinary objects are kept, it is the whole graph
abbrev pub AllAreKept : Type 0
AllAreKept = (keep : ℕ → Bool) (h : Store) (name : ℕ → ℕ) → ((s : ℕ) → is_ordinary h s ≡ true → keep s ≡ true) → kept_nodes name keep h ≡ nodes_of name h

-- what is kept, by names
abbrev pub KeptByName : Type 0
KeptByName = (keep live : ℕ → Bool) (h : Store) (name : ℕ → ℕ) (a : ℕ) → ((s t : ℕ) → is_ordinary h s ≡ true → is_ordinary h t ≡ true → name s ≡ name t → s ≡ t)
    → ((s : ℕ) → is_ordinary h s ≡ true → keep s ≡ live (name s)) → get (kept_nodes name keep h) a ≡ (if live a then get (nodes_of name h) a else None)

-- names that are apart are paired with those of their places
pub record Paired (p : ℕ → ℕ) (keep : ℕ → Bool) (old : Store) (name name' : ℕ → ℕ) : Type 0 where
  pub place : ℕ → ℕ
  pub back : ℕ → ℕ
  pub are : ArePaired p keep old name name' place back

abbrev pub PlacesPair : Type 0
PlacesPair = (p : ℕ → ℕ) (keep : ℕ → Bool) (old new : Store) (name name' : ℕ → ℕ) → CanPlace p keep old new → ((i j : ℕ) → i < j → j < length old.starts → first old i < first old j)
    → ((s t : ℕ) → keep s ≡ true → keep t ≡ true → name s ≡ name t → s ≡ t) → ((s t : ℕ) → keep s ≡ true → keep t ≡ true → name' (p s) ≡ name' (p t) → s ≡ t) → Paired p keep old name name'

-- ---- heaps, whose names are starts

-- the store is sound, and its graph is that of what is kept: each kept object has the name of its place
pub record MovesHeap (p : ℕ → ℕ) (keep : ℕ → Bool) (old new : Store) (o o' : Outside) : Type 0 where
  pub sound : IsSound new
  pub good : IsGoodOutside old o → IsGoodOutside new o'
  pub place : ℕ → ℕ
  pub back : ℕ → ℕ
  pub graph : (hash next next' : ℕ) → Iso (kept_graph own_name keep old o.special o.held o.groups hash next) (graph_in new o'.special o'.held o'.groups hash next') place back
  pub named : (s : ℕ) → keep s ≡ true → is_ordinary old s ≡ true → place s ≡ p s

-- starts rise
abbrev pub Rise : Store → Type 0
Rise h = (i j : ℕ) → i < j → j < length h.starts → first h i < first h j

abbrev pub PlacedMovesHeap : Type 0
PlacedMovesHeap = (p : ℕ → ℕ) (keep : ℕ → Bool) (old new : Store) (o o' : Outside) → CanPlace p keep old new → ((i : ℕ) → page_places ≤ i → i < roots_slots → root_slot new i ≡ 8 * first new 0)
    → Rise old → IsPlacedOutside p keep old new o o' → MovesHeap p keep old new o o'

-- where all ordinary objects are kept, the graph is the whole one
abbrev pub AllMovesHeap : Type 0
AllMovesHeap = (p : ℕ → ℕ) (keep : ℕ → Bool) (old new : Store) (o o' : Outside) (hash next next' : ℕ) → ((s : ℕ) → is_ordinary old s ≡ true → keep s ≡ true) → (m : MovesHeap p keep old new o o')
    → Iso (graph_in old o.special o.held o.groups hash next) (graph_in new o'.special o'.held o'.groups hash next') m.place m.back

-- loading, where nothing moves
abbrev pub LoadedIsPlaced : Type 0
LoadedIsPlaced = (old new : Store) → IsNamed old → IsLoadable old → IsSettled old new → CanPlace same_place (all_objects old) old new

-- compaction, in cells and in words: a reference is 8 times a start before and after
abbrev pub ReaddressedMovesHeap : Type 0
ReaddressedMovesHeap = (p : ℕ → ℕ) (live : ℕ → Bool) (old new : Store) (o o' : Outside) → IsReaddressed p word_of live old new → Rise old → IsGoodOutside old o → LivesOutside live old o → IsReaddressedOutside p word_of o o'
    → MovesHeap p (live_objects live old) old new o o'

abbrev pub CompactedMovesHeap : Type 0
CompactedMovesHeap = (p : ℕ → ℕ) (has has' : ℕ → Bool) (words words' : List ℕ) (cs cs' : List Chunk) (o o' : Outside) → IsCompacted p has has' words words' cs cs' → IsGoodOutside (heap_store words cs) o
    → LivesOutside (with_lists has (heap_store words cs)) (heap_store words cs) o → IsReaddressedOutside p word_of o o'
    → MovesHeap p (live_objects (with_lists has (heap_store words cs)) (heap_store words cs)) (heap_store words cs) (heap_store words' cs') o o'

-- saving: a reference of the file is an address, the file can be loaded, and its graph is that of what is saved. A forwarder that is named is written as one
pub record IsSaved (keep : ℕ → Bool) (name' : ℕ → ℕ) (old new : Store) (o o' : Outside) : Type 0 where
  pub loadable : IsLoadable new
  pub place : ℕ → ℕ
  pub back : ℕ → ℕ
  pub graph : (hash next next' : ℕ) → Iso (kept_graph own_name keep old o.special o.held o.groups hash next) (graph_under name' new o'.special o'.held o'.groups hash next') place back

abbrev pub ReaddressedIsSameGraph : Type 0
ReaddressedIsSameGraph = (p address : ℕ → ℕ) (live : ℕ → Bool) (old new : Store) (name' : ℕ → ℕ) (o o' : Outside) → IsReaddressed p address live old new → Rise old
    → ((s t : ℕ) → live s ≡ true → live t ≡ true → name' (p s) ≡ name' (p t) → s ≡ t) → IsGoodOutside old o → LivesOutside live old o → IsReaddressedOutside p address o o'
    → IsSaved (live_objects live old) name' old new o o'

-- a copy with its forwarder: no word changes, and all is kept
abbrev pub CopiedMovesHeap : Type 0
CopiedMovesHeap = (from to : ℕ) (old new : Store) (o : Outside) → IsCopied from to old new → Rise old → IsGoodOutside old o → MovesHeap (moved_to from to) (all_objects old) old new o o

-- sweeping: what does not live goes, and nothing moves
abbrev pub SweptMovesHeap : Type 0
SweptMovesHeap = (live : ℕ → Bool) (old new : Store) (o : Outside) → IsSwept live old new → Rise old → IsGoodOutside old o → LivesOutside live old o → MovesHeap same_place (live_objects live old) old new o o

-- ---- the room

-- the spots of ordinary objects, by name
abbrev pub PlacedHasSpots : Type 0
PlacedHasSpots = (p : ℕ → ℕ) (keep : ℕ → Bool) (old new : Store) (name name' place back : ℕ → ℕ) (spot spot' : Chunk → Spot) (cs cs' : List Chunk) (a : ℕ) → CanPlace p keep old new
    → ((s t : ℕ) → keep s ≡ true → keep t ≡ true → name s ≡ name t → s ≡ t) → ArePaired p keep old name name' place back → ArePlacedChunks p keep new spot spot' cs cs'
    → get (spots_under name' spot' new cs') (place a) ≡ get (kept_spots name keep spot old cs) a

-- the room of a store that has one space, where all ordinary objects are kept: given the sizes of free chunks, which a move may change
abbrev pub PlacedIsSameRoom : Type 0
PlacedIsSameRoom = (p : ℕ → ℕ) (keep : ℕ → Bool) (old new : Store) (name name' place back : ℕ → ℕ) (cs cs' : List Chunk) (words : ℕ) (limits : Limits) (free : List ℕ) → CanPlace p keep old new
    → ((s t : ℕ) → keep s ≡ true → keep t ≡ true → name s ≡ name t → s ≡ t) → ((s : ℕ) → is_ordinary old s ≡ true → keep s ≡ true) → ArePaired p keep old name name' place back
    → ArePlacedChunks p keep new spot_of spot_of cs cs' → SameRoom (room_of name old cs words limits free) (room_of name' new cs' words limits free) place

-- a start tells the space of its chunk
pub record AreZones (zone : ℕ → Space) (os es ps : List Chunk) : Type 0 where
  pub old : All (λ (c : Chunk). zone c.start ≡ Old) os
  pub eden : All (λ (c : Chunk). zone c.start ≡ Eden) es
  pub past : All (λ (c : Chunk). zone c.start ≡ Past) ps

-- a heap of three spaces: objects stay in their space, which is told by the place
abbrev pub HeapHasSpots : Type 0
HeapHasSpots = (p : ℕ → ℕ) (keep : ℕ → Bool) (old new : Store) (place back : ℕ → ℕ) (zone zone' : ℕ → Space) (os es ps os' es' ps' : List Chunk) (a : ℕ) → CanPlace p keep old new → ArePaired p keep old own_name own_name place back
    → ArePlacedChunks p keep new (λ (c : Chunk). spot_in (zone c.start) c) (λ (c : Chunk). spot_in (zone' c.start) c) (os ++ (es ++ ps)) (os' ++ (es' ++ ps')) → AreZones zone os es ps → AreZones zone' os' es' ps'
    → get (from_entries {R = nat_cmp} (spots_of Old new os' ++ (spots_of Eden new es' ++ spots_of Past new ps'))) (place a)
    ≡ get (kept_spots own_name keep (λ (c : Chunk). spot_in (zone c.start) c) old (os ++ (es ++ ps))) a

-- with `keep` everything, these are the spots of the heap
abbrev pub ZonedSpots : Type 0
ZonedSpots = (h : Store) (zone : ℕ → Space) (os es ps : List Chunk) → AreZones zone os es ps
    → map (λ (c : Chunk). (c.start, spot_in (zone c.start) c)) (ordinary_chunks h (os ++ (es ++ ps))) ≡ spots_of Old h os ++ (spots_of Eden h es ++ spots_of Past h ps)

-- ---- graphs of which a store stands for one

-- the graph without the nodes of some names: nothing else differs
pub record IsWithout (live : ℕ → Bool) (g without : Graph) : Type 0 where
  pub nodes : (a : ℕ) → get without.nodes a ≡ (if live a then get g.nodes a else None)
  pub rest : without ≡ record g { nodes = without.nodes }

-- a graph that a heap stands for, without the names that are not kept, is the graph of what is kept
abbrev pub KeptUnderIso : Type 0
KeptUnderIso = (live keep : ℕ → Bool) (g without : Graph) (old : Store) (o : Outside) (hash next : ℕ) (place back : ℕ → ℕ) → Iso g (graph_in old o.special o.held o.groups hash next) place back → IsWithout live g without
    → ((s : ℕ) → is_ordinary old s ≡ true → keep s ≡ live (back s)) → Iso without (kept_graph own_name keep old o.special o.held o.groups hash next) place back

-- ---- whole heaps

abbrev pub outside_of : View → Outside
outside_of v = record { special = v.special; held = v.handles; groups = v.mourners }

-- what the laws ask of a heap is a part of its invariant
abbrev pub WholeIsReady : Type 0
WholeIsReady = (v : View) → IsWhole v → IsSoundStore (store_of v) × Rise (store_of v) × IsGoodOutside (store_of v) (outside_of v)

-- a heap stood for a graph: under moved places it stands for the graph without the names that are not kept
pub record IsLeft (g : Graph) (v' : View) : Type 0 where
  pub place : ℕ → ℕ
  pub back : ℕ → ℕ
  pub graph : Iso g (heap_graph v') place back

abbrev pub HeapIsLeft : Type 0
HeapIsLeft = (p : ℕ → ℕ) (keep live : ℕ → Bool) (v v' : View) (g without : Graph) (place back : ℕ → ℕ) → Iso g (heap_graph v) place back → IsWithout live g without
    → ((s : ℕ) → is_ordinary (store_of v) s ≡ true → keep s ≡ live (back s)) → v'.hash ≡ v.hash → MovesHeap p keep (store_of v) (store_of v') (outside_of v) (outside_of v') → IsLeft without v'

-- after a copy the graph is the same with two names exchanged, one of which had no node
abbrev pub CopiedIsSwapped : Type 0
CopiedIsSwapped = (from to : ℕ) (old new : Store) (o : Outside) (hash next next' : ℕ) → IsCopied from to old new → IsGoodOutside old o
    → Iso (graph_in old o.special o.held o.groups hash next) (graph_in new o.special o.held o.groups hash next') (swapped from to) (swapped from to)
