-- What pinning an object refuses, and what becomes of the heap.
use Rattle.std.specs.Prelude.{ℕ, ◌≡◌, ◌<◌, [], ◌∷◌, Some, None}
use Rattle.std.specs.FinMap.{get}
use Rattle.spur_graph.specs.declared.answer.Value.{Value}
use Rattle.spur_graph.specs.declared.answer.Refusal.TheVariants as r
use Rattle.spur_graph.specs.Value.{is_immediate, name_of}
use Rattle.spur_graph.specs.Graph.{with_node}
use Rattle.spur_graph.specs.Room.{Room, Old, placed, spot_at}
use Rattle.spur_graph.specs.Serve.{Served, OldAlone, serve}
use Rattle.spur_graph.specs.Become.{pinned, room_pinned}
use Rattle.spur_graph.specs.Refusals.{Row, test, no_old_words}
use Rattle.spur_graph.specs.Heaps.{View, Stands, heap_graph, heap_room}
use Rattle.spur_heap.specs.Views.{IsOrdinary, node_in}

-- the refusals of pinning the object of a value, in their order
abbrev pub pin_row : Room → Value → Row
pin_row room v = test (is_immediate v) r.Immediate ∷ no_old_words room (name_of v) ∷ []

-- the heap stands for the graph in which the name is pinned, and for its room, up to names
abbrev pub Pins : View → View → ℕ → Type 0
Pins old new a = (room : Room) × (room_pinned (heap_room old) a ≡ Some room) × Stands new (pinned (heap_graph old) a) room

-- a copy of an object stands in old space, as one node more that nothing names, in as many words
pub record CopiesToOld (old new : View) (start copy : ℕ) : Type 0 where
  pub served : Served
  pub serves : serve OldAlone (heap_room old) (spot_at (heap_room old) start).words ≡ Some served
  pub fresh : get (heap_graph old).nodes copy ≡ None
  pub graph : heap_graph new ≡ with_node (heap_graph old) copy (node_in old start)
  pub room : heap_room new ≡ placed served.room copy (record (spot_at (heap_room old) start) { space = Old })
  pub there : IsOrdinary new copy
  pub low : copy < new.spaces.old_end
  pub ordinary : (t : ℕ) → IsOrdinary old t → IsOrdinary new t
  pub rest : new ≡ record old { words = new.words }
