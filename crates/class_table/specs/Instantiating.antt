-- What becomes of a heap that makes an instance of a class.
use Rattle.std.specs.Prelude.{ℕ, ◌≡◌, ◌*◌, Some, None}
use Rattle.std.specs.FinMap.{get}
use Rattle.spur_graph.specs.declared.answer.Value.{Value}
use Rattle.spur_graph.specs.declared.answer.Value.TheVariants.{Ref}
use Rattle.spur_graph.specs.Graph.{with_node, node_at}
use Rattle.spur_graph.specs.Room.{placed, fresh_spot, fresh_words}
use Rattle.spur_graph.specs.Serve.{Source, Served, serve}
use Rattle.spur_graph.specs.Instances.{instance}
use Rattle.spur_graph.specs.Heaps.{View, heap_graph, heap_room, heap_value}
use Rattle.spur_heap.specs.Views.{IsGood}
use Rattle.class_table.specs.Rows.{instance_slots}

-- handles, mourners, the special objects, the bytes of the image's header, the limits and the phase are as before
abbrev pub KeepsTables : View → View → Type 0
KeepsTables old new = new ≡ record old { words = new.words; spaces = new.spaces; hash = new.hash }

-- an instance of the class that the value names was made, of this size; `word` refers to it
pub record Instantiates (old new : View) (source : Source) (class : Value) (n word : ℕ) : Type 0 where
  pub served : Served
  pub serves : serve source (heap_room old) (fresh_words (instance_slots (heap_graph old) class n)) ≡ Some served
  pub start : ℕ
  pub refers : word ≡ 8 * start
  pub fresh : get (heap_graph old).nodes start ≡ None
  pub graph : heap_graph new ≡ with_node (heap_graph old) start (instance (heap_graph old) (node_at (heap_graph old) class) n)
  pub room : heap_room new ≡ placed served.room start (fresh_spot served.space (instance_slots (heap_graph old) class n))
  pub good : IsGood new word
  pub value : heap_value new word ≡ Ref start
  pub values : (w : ℕ) → IsGood old w → heap_value new w ≡ heap_value old w
  pub goods : (w : ℕ) → IsGood old w → IsGood new w
