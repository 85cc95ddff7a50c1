-- A heap whose words are followed: which words name no forwarder, and what a step that follows some of them keeps.
use Rattle.std.specs.Prelude.{ℕ, ◌≡◌, ◌<◌, ◌≤◌, slice_index, List, length, map, Bool, true, false, IfSome}
use Rattle.std.specs.FinMap.{get}
use Rattle.spur_graph.specs.Graph.{Handle}
use Rattle.spur_graph.specs.Cells.{is_moved, is_there, final}
use Rattle.spur_graph.specs.Ordinary.{passes, is_ordinary, ordinary_starts, is_good_word, entry}
use Rattle.spur_graph.specs.Heaps.{View, heap_graph, heap_room, heap_value, heap_to, is_marked, waiting_in}
use Rattle.handle_table.specs.Handles.{Bindings}
use Rattle.heap_cells.specs.Settled.{settled_word}
use Rattle.spur_heap.specs.declared.heap.HeapParts.{HeapParts}
use Rattle.spur_heap.specs.Words.{body_in, starts_at}
use Rattle.spur_heap.specs.Tables.{begins, start_in}
use Rattle.spur_heap.specs.Mourning.{ChangesTable}
use Rattle.spur_heap.specs.Parts.{view_of}
use Rattle.spur_heap.specs.Views.{store, node_in}

-- ---- words that name no forwarder

-- a forwarder starts there
abbrev pub is_forwarder : View → ℕ → Bool
is_forwarder v s = is_moved ((store v).cell s)

-- the word is an immediate, or names an object
abbrev pub IsFollowed : View → ℕ → Type 0
IsFollowed v word = passes (is_forwarder v) (heap_to word) ≡ false

-- slot `i` of the object that starts there
abbrev pub IsFollowedSlot : View → ℕ → ℕ → Type 0
IsFollowedSlot v s i = IsFollowed v (slice_index (body_in v s).words i)

-- the entry of a class index
abbrev pub IsFollowedEntry : View → ℕ → Type 0
IsFollowedEntry v index = IsFollowed v (entry (store v) index)

-- the word of a handle, if it is held
abbrev pub IsFollowedHandle : View → Handle → Type 0
IsFollowedHandle v handle = IfSome (get v.handles handle) (IsFollowed v)

-- the start of the mourner of this number, if there is one
abbrev pub IsFollowedMourner : View → ℕ → Type 0
IsFollowedMourner v k = k < length (waiting_in v.mourners) → is_forwarder v (slice_index (waiting_in v.mourners) k) ≡ false

-- ---- what is kept

-- words were followed: the heap stands for the same graph and room, name by name, with the same marks, and what named no forwarder names none
pub record Follows (old new : View) : Type 0 where
  pub graph : heap_graph new ≡ heap_graph old
  pub room : heap_room new ≡ heap_room old
  pub values : (w : ℕ) → heap_value new w ≡ heap_value old w
  pub goods : (w : ℕ) → is_good_word (store new) w ≡ is_good_word (store old) w
  pub ordinary : (s : ℕ) → is_ordinary (store new) s ≡ is_ordinary (store old) s
  pub objects : (s : ℕ) → is_there ((store new).cell s) ≡ is_there ((store old).cell s)
  pub forwarders : (s : ℕ) → is_forwarder new s ≡ is_forwarder old s
  pub nodes : (s : ℕ) → node_in new s ≡ node_in old s
  pub starts : ordinary_starts (store new) ≡ ordinary_starts (store old)
  pub marks : (s : ℕ) → starts_at old s ≡ true → is_marked new.words s ≡ is_marked old.words s
  pub long : length new.words ≡ length old.words
  pub rest : new ≡ record old { words = new.words; special = new.special; handles = new.handles; mourners = new.mourners }
  pub slots : (s i : ℕ) → IsFollowedSlot old s i → IsFollowedSlot new s i
  pub entries : (index : ℕ) → IsFollowedEntry old index → IsFollowedEntry new index
  pub held : (handle : Handle) → IsFollowedHandle old handle → IsFollowedHandle new handle
  pub special : IsFollowed old old.special → IsFollowed new new.special
  pub mourners : (k : ℕ) → IsFollowedMourner old k → IsFollowedMourner new k

-- ---- handles

-- each of some words is good
abbrev pub HasGoodWords : View → List ℕ → Type 0
HasGoodWords v words = (i : ℕ) → i < length words → is_good_word (store v) (slice_index words i) ≡ true

-- the handles of a table, each word followed
abbrev pub followed_held : View → Bindings → Bindings
followed_held v b = record b { words = map (settled_word (store v)) b.words }

-- ---- mourners

-- an entry of the table of mourners whose start is followed
pub record FollowsEntry (v : View) (old new : ℕ) : Type 0 where
  pub starts : start_in new ≡ final (store v) (start_in old)
  pub group : begins new ≡ begins old

-- the entries below `end` that were not taken away are followed, and no other is written
pub record FollowsEntries (end : ℕ) (old new : HeapParts) : Type 0 where
  pub changes : ChangesTable old new
  pub mourned : new.mourned ≡ old.mourned
  pub long : length new.mourners.items ≡ length old.mourners.items
  pub entries : (i : ℕ) → old.mourned ≤ i → i < end → FollowsEntry (view_of old) (slice_index old.mourners.items i) (slice_index new.mourners.items i)
  pub others : (i : ℕ) → end ≤ i → slice_index new.mourners.items i ≡ slice_index old.mourners.items i
