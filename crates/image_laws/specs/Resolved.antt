-- A store whose forwarders name the objects to which they lead answers each test as the store before it did.
use Rattle.std.specs.Prelude.{ℕ, ◌≡◌, List, true, false}
use Rattle.std.specs.FinMap.{FinMap}
use Rattle.spur_graph.specs.declared.answer.Value.{Value}
use Rattle.spur_graph.specs.declared.limits.Limits.{Limits}
use Rattle.spur_graph.specs.Graph.{handle_cmp}
use Rattle.object_header.specs.Chunks.{Chunk}
use Rattle.spur_graph.specs.Cells.{Moved, Store, is_start, is_moved, is_there, first, final, lead}
use Rattle.spur_graph.specs.Ordinary.{body_at, is_nil_slot, is_page, is_internal, is_ordinary, is_good_reference, is_good_word, is_bad_forwarder, is_bad_page, is_bad_entry, is_bad_slot, has_page, page_of, entry, is_entered}
use Rattle.spur_graph.specs.CellGraph.{read, graph_of}
use Rattle.spur_graph.specs.CellRoom.{room_of, free_sizes}
use Rattle.heap_cells.specs.Settled.{IsLoadable, IsNamed, settled_word}
use Rattle.image_checks.specs.Checks.{IsResolved}

-- what is there, and where it leads, is the same
pub record HasSameCells (old new : Store) : Type 0 where
  pub names : new.names ≡ old.names
  pub starts : new.starts ≡ old.starts
  pub to : (w : ℕ) → new.to w ≡ old.to w
  pub firsts : (k : ℕ) → first new k ≡ first old k
  pub starting : (s : ℕ) → is_start (new.cell s) ≡ is_start (old.cell s)
  pub moved : (s : ℕ) → is_moved (new.cell s) ≡ is_moved (old.cell s)
  pub there : (s : ℕ) → is_there (new.cell s) ≡ is_there (old.cell s)
  pub bodies : (s : ℕ) → body_at new s ≡ body_at old s
  pub finals : (s : ℕ) → final new s ≡ final old s
  pub leading : (w : ℕ) → lead new w ≡ lead old w

-- each test answers the same
pub record HasSameTests (old new : Store) : Type 0 where
  pub nil_slots : (i : ℕ) → is_nil_slot new i ≡ is_nil_slot old i
  pub page : (i : ℕ) → is_page new i ≡ is_page old i
  pub internal : (s : ℕ) → is_internal new s ≡ is_internal old s
  pub ordinary : (s : ℕ) → is_ordinary new s ≡ is_ordinary old s
  pub good_references : (w : ℕ) → is_good_reference new w ≡ is_good_reference old w
  pub good_words : (w : ℕ) → is_good_word new w ≡ is_good_word old w
  pub paged : (i : ℕ) → has_page new i ≡ has_page old i
  pub pages_at : (i : ℕ) → page_of new i ≡ page_of old i
  pub entries : (i : ℕ) → entry new i ≡ entry old i
  pub entered : (s : ℕ) → is_entered new s ≡ is_entered old s
  pub bad_forwarders : (s : ℕ) → is_bad_forwarder new s ≡ is_bad_forwarder old s
  pub bad_pages : (i : ℕ) → is_bad_page new i ≡ is_bad_page old i
  pub bad_entries : (i : ℕ) → is_bad_entry new i ≡ is_bad_entry old i
  pub bad_slots : (s i : ℕ) → is_bad_slot new s i ≡ is_bad_slot old s i

-- the values, the graph and the room are the same under the same names
pub record HasSameGraph (old new : Store) : Type 0 where
  pub reads : (name : ℕ → ℕ) (w : ℕ) → read name new w ≡ read name old w
  pub graph : (name : ℕ → ℕ) (special : ℕ) (handles : FinMap handle_cmp Value) (hash next : ℕ) → graph_of name new special handles hash next ≡ graph_of name old special handles hash next
  pub settled : (w : ℕ) → settled_word new w ≡ settled_word old w
  pub free : (cs : List Chunk) → free_sizes new cs ≡ free_sizes old cs
  pub room : (name : ℕ → ℕ) (cs : List Chunk) (words : ℕ) (limits : Limits) (free : List ℕ) → room_of name new cs words limits free ≡ room_of name old cs words limits free

-- what holds of the one holds of the other
pub record IsAsGood (old new : Store) : Type 0 where
  pub named : IsNamed old → IsNamed new
  pub loadable : IsLoadable old → IsLoadable new
  pub was_loadable : IsLoadable new → IsLoadable old

pub record IsSame (old new : Store) : Type 0 where
  pub cells : HasSameCells old new
  pub tests : HasSameTests old new
  pub graphs : HasSameGraph old new
  pub good : IsAsGood old new
  -- what a forwarder names now is an object
  pub direct : (s t : ℕ) → new.cell s ≡ Moved t → is_there (new.cell t) ≡ true

-- where each forwarder leads to an object
abbrev pub ResolvedIsSame : Type 0
ResolvedIsSame = (old new : Store) → IsResolved old new → ((s : ℕ) → is_bad_forwarder old s ≡ false) → IsSame old new
