-- Another object stands in the place of an ordinary one, in the same chunk: what the heap stands for then.
use Rattle.std.proofs.Common.{◌≡◌, ℕ, Bool, true, ◌||◌, List, length, refl, sym, ap, ◌∙◌}
use Rattle.spur_graph.specs.Graph.{with_node}
use Rattle.spur_graph.specs.Cells.{Body, There, Store, is_there}
use Rattle.spur_graph.specs.Spaces.{old_row, eden_row, past_row}
use Rattle.spur_graph.specs.Ordinary.{is_ordinary, is_good_word}
use Rattle.spur_graph.specs.CellGraph.{read, node_of}
use Rattle.spur_graph.specs.Heaps.{View, IsWhole, store_of, chunks_of, heap_value, heap_graph, heap_room, own_name, is_remembered}
use Rattle.heap_cells.specs.Rows.{starts_of}
use Rattle.heap_cells.proofs.CellKinds.{there_starts}
use Rattle.heap_cells.proofs.Members.{in_list}
use Rattle.heap_cells.proofs.References.{ordinary_there}
use Rattle.spur_heap.specs.Words.{body_in, is_good}
use Rattle.spur_heap.proofs.Hops.{start_at}
use Rattle.spur_heap.proofs.OneCell.{with_cell}
use Rattle.spur_heap.proofs.Touched.{Touch, Holds, Fits, touched_store, held_whole, touched_graph, touched_room}
use Rattle.spur_heap.proofs.Tables.{SameTables, NotesToo, SameNoted, touched_tables, touched_noted, touched_same}
use Rattle.spur_heap.proofs.InPlace.{changed}
use Rattle.spur_heap.proofs.Swap.{Swap, Fires, internal-same, ordinary-same, reference-same, good-same, mourners_kept}
use Rattle.spur_heap.proofs.Changing.{Change, swap_of, sound_changed}
use Rattle.spur_heap.proofs.Graphs.{read-same, graph-changed, room-same}

module _ (v : View) (s : ℕ) (new : List ℕ) (b : Body) (touch : Touch v new s (There b)) (change : Change (store_of v) s (body_in v s) b) where
  abbrev then : View
  then = record v { words = new }

  object : is_there ((store_of v).cell s) ≡ true
  object = ordinary_there (store_of v) s change.ordinary

  pub swap : Swap (store_of v) s (body_in v s) b
  swap = swap_of change

  holds : Fires swap v.mourners → IsWhole v → Holds v (with_cell (store_of v) s (There b))
  holds fires whole = record {
    sound = sound_changed change;
    inner = λ t e. whole.inner t (sym (internal-same swap t) ∙ e);
    held = λ h w e. good-same swap w ∙ whole.held h w e;
    special = reference-same swap v.special ∙ whole.special_there;
    mourners = mourners_kept swap v.mourners fires whole.mourners;
  }

  -- what is to stand where a mourner leads has fired
  abbrev pub HasFiredThen : Type 0
  HasFiredThen = Fires swap v.mourners

  pub replaced_whole : Fits v new s (There b) → HasFiredThen → IsWhole v → IsWhole then
  replaced_whole fits fires whole = held_whole v new s (There b) touch fits (holds fires whole) whole

  pub replaced_store : store_of then ≡ changed (store_of v) s b
  replaced_store = touched_store v new s (There b) touch

  pub replaced_tables : SameTables v then
  replaced_tables = touched_tables v new s (There b) touch (there_starts ((store_of v).cell s) object) refl (ordinary-same swap)

  pub replaced_same : is_remembered new s ≡ is_remembered v.words s → SameNoted v then
  replaced_same bit = touched_same v new s (There b) touch (there_starts ((store_of v).cell s) object) refl bit

  pub replaced_noted : (on : Bool) → is_remembered new s ≡ (is_remembered v.words s || on) → NotesToo v then on s
  replaced_noted on bit = touched_noted v new s (There b) touch (there_starts ((store_of v).cell s) object) refl on bit

  pub replaced_ordinary : (t : ℕ) → is_ordinary (store_of then) t ≡ is_ordinary (store_of v) t
  replaced_ordinary t = ap (λ (h : Store). is_ordinary h t) replaced_store ∙ ordinary-same swap t

  pub replaced_good : (u : ℕ) → is_good then u ≡ is_good v u
  replaced_good u = ap (λ (h : Store). is_good_word h u) replaced_store ∙ good-same swap u

  pub replaced_value : (u : ℕ) → heap_value then u ≡ heap_value v u
  replaced_value u = ap (λ (h : Store). read own_name h u) replaced_store ∙ read-same swap u

  pub replaced_graph : heap_graph then ≡ with_node (heap_graph v) s (node_of own_name (store_of v) b)
  replaced_graph =
      touched_graph v new s (There b) touch
      ∙ graph-changed change (in_list (starts_of (chunks_of v)) s (start_at v touch.sound s (there_starts ((store_of v).cell s) object)).stands) v.special v.handles v.mourners v.hash (length v.words)

  pub replaced_room : heap_room then ≡ heap_room v
  replaced_room =
      touched_room v new s (There b) touch
      ∙ room-same swap (old_row v.words v.spaces) (eden_row v.words v.spaces) (past_row v.words v.spaces) v.spaces.old_end v.limits v.spaces.eden_used v.spaces.past_used
