-- What holds of the parts of a heap, and how a heap is read.
use Rattle.std.specs.Prelude.{ℕ, ◌≡◌, ◌<◌, ◌≤◌, ◌+◌, ◌⊎◌, List, [], length, slice_index, true, if◌then◌else◌}
use Rattle.std.specs.List.{Contains}
use Rattle.std.specs.FinMap.{empty}
use Rattle.spur_graph.specs.Node.{Node}
use Rattle.spur_graph.specs.Cells.{Store, first}
use Rattle.spur_graph.specs.Ordinary.{body_at, is_ordinary, is_good_word, has_page, entry}
use Rattle.heap_cells.specs.Settled.{settled_word, word_of}
use Rattle.spur_graph.specs.CellGraph.{node_of}
use Rattle.object_header.specs.Chunks.{Chunk}
use Rattle.spur_graph.specs.CellRoom.{is_free}
use Rattle.spur_graph.specs.Spaces.{fresh_spaces, old_row}
use Rattle.spur_graph.specs.Heaps.{View, Whole, IsClear, store_of, chunks_of, own_name, heap_graph, heap_room}
use Rattle.spur_heap.specs.declared.bare.Bare.{Bare}
use Rattle.spur_heap.specs.Remembering.{after}

-- the store of a heap's words
abbrev pub store : View → Store
store v = store_of v

-- an ordinary object starts there
abbrev pub IsOrdinary : View → ℕ → Type 0
IsOrdinary v s = is_ordinary (store v) s ≡ true

-- a word that a slot or a handle may have
abbrev pub IsGood : View → ℕ → Type 0
IsGood v word = is_good_word (store v) word ≡ true

-- the node of the object that starts there
abbrev pub node_in : View → ℕ → Node
node_in v s = node_of own_name (store v) (body_at (store v) s)

-- one word is written, and nothing else changes
abbrev pub WritesWord : View → View → ℕ → ℕ → Type 0
WritesWord old new at word = new ≡ after old at word

-- the word followed: an immediate is itself, and a reference is 8 times the start to which it leads
abbrev pub follows : View → ℕ → ℕ → Type 0
follows v word result = result ≡ settled_word (store v) word

-- the word of the entry of a class index, followed, and nil's where there is none, as from 2^22 on
abbrev pub class_word : View → ℕ → ℕ → Type 0
class_word v index result = result ≡ (if has_page (store v) index then settled_word (store v) (entry (store v) index) else word_of (first (store v) 0))

-- what contracts see of places that become a heap with this special objects word, this hash state and these bytes of a header
abbrev pub adopted : Bare → ℕ → ℕ → List ℕ → View
adopted b special hash carried = record {
  words = b.region;
  spaces = fresh_spaces b.old_end b.limits;
  mourners = [];
  handles = empty;
  special = special;
  hash = hash;
  carried = carried;
  limits = b.limits;
  phase = Whole;
  stack = [];
}

-- the headers of places that stand for a heap have nothing that a collection leaves, so that nothing is remembered
abbrev pub AreClear : View → Type 0
AreClear v = (c : Chunk) → Contains (chunks_of v) c → IsClear (slice_index v.words c.start)

-- the word is in no free chunk of old space
abbrev pub IsOutsideFree : View → ℕ → Type 0
IsOutsideFree v j = (c : Chunk) → Contains (old_row v.words v.spaces) c → is_free (store_of v) c ≡ true → (j < c.at) ⊎ (c.at + c.size ≤ j)

-- a heap is made of places that stand for one: its words differ from theirs in free chunks alone, the same stands at each start, and graph and room are
-- theirs
pub record Adopts (v new : View) : Type 0 where
  pub rest : new ≡ record v { words = new.words }
  pub long : length new.words ≡ length v.words
  pub others : (j : ℕ) → IsOutsideFree v j → slice_index new.words j ≡ slice_index v.words j
  pub cells : (s : ℕ) → (store_of new).cell s ≡ (store_of v).cell s
  pub graph : heap_graph new ≡ heap_graph v
  pub room : heap_room new ≡ heap_room v
