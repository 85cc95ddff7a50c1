-- A heap whose nodes change, while its names and its marks stay.
use Rattle.std.specs.Prelude.{ℕ, ◌≡◌, Bool, true, ◌&&◌, length}
use Rattle.spur_graph.specs.Cells.{is_moved, is_there}
use Rattle.spur_graph.specs.Ordinary.{is_ordinary, is_good_word, ordinary_starts}
use Rattle.spur_graph.specs.Heaps.{View, heap_graph, heap_room, heap_value, is_marked}
use Rattle.spur_heap.specs.Views.{store}
use Rattle.spur_heap.specs.Words.{starts_at}

-- nothing of the graph is another but its nodes and mourners, and no mark is
pub record Stays (old new : View) : Type 0 where
  pub graph : heap_graph new ≡ record (heap_graph old) { nodes = (heap_graph new).nodes; mourners = (heap_graph new).mourners }
  pub room : heap_room new ≡ heap_room old
  pub values : (w : ℕ) → heap_value new w ≡ heap_value old w
  pub goods : (w : ℕ) → is_good_word (store new) w ≡ is_good_word (store old) w
  pub ordinary : (s : ℕ) → is_ordinary (store new) s ≡ is_ordinary (store old) s
  pub objects : (s : ℕ) → is_there ((store new).cell s) ≡ is_there ((store old).cell s)
  pub forwarders : (s : ℕ) → is_moved ((store new).cell s) ≡ is_moved ((store old).cell s)
  pub starts : ordinary_starts (store new) ≡ ordinary_starts (store old)
  pub marks : (s : ℕ) → starts_at old s ≡ true → is_marked new.words s ≡ is_marked old.words s
  pub rest : new ≡ record old { words = new.words; mourners = new.mourners }
