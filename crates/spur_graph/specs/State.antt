-- The state of the machine, and how handles are read in it.
use Rattle.std.specs.Prelude.{ℕ, ◌+◌, List}
use Rattle.std.specs.Option.{unwrap_or}
use Rattle.spur_graph.specs.declared.answer.Value.{Value}
use Rattle.spur_graph.specs.declared.answer.Value.TheVariants.{Ref}
use Rattle.spur_graph.specs.Value.{named_by}
use Rattle.spur_graph.specs.Node.{Node}
use Rattle.spur_graph.specs.Graph.{Graph, node, with_node, held, bind, unbind}
use Rattle.spur_graph.specs.Bytes.{Text}
use Rattle.spur_graph.specs.Room.{Room, placed, fresh_spot, fresh_words}
use Rattle.spur_graph.specs.Serve.{Served}
use Rattle.spur_graph.specs.Instances.{layout_in, slots_for}

-- the bytes of each file, none where there is no such file
abbrev pub Files : Type 0
Files = Text → List ℕ

-- a graph, its room, the files, and the name of the script that is run
pub record State : Type 0 where
  pub graph : Graph
  pub room : Room
  pub files : Files
  pub script : Text

-- the value of a handle; a command whose handle is not held is refused before it asks
abbrev pub value_at : Graph → ℕ → Text → Value
value_at g k h = unwrap_or (held g k h) (Ref g.nil)

-- the name that a handle's value names; an immediate is refused before this is asked
abbrev pub name_at : Graph → ℕ → Text → ℕ
name_at g k h = unwrap_or (named_by (value_at g k h)) 0

-- the node that a handle's value names
abbrev pub node_of_handle : Graph → ℕ → Text → Node
node_of_handle g k h = node g (name_at g k h)

-- the state with another graph
abbrev pub with_graph : State → Graph → State
with_graph s g = record s { graph = g }

-- the state with a handle bound
abbrev pub bound : State → ℕ → Text → Value → State
bound s k h v = with_graph s (bind s.graph k h v)

-- the state with a handle held no longer
abbrev pub dropped : State → ℕ → Text → State
dropped s k h = with_graph s (unbind s.graph k h)

-- the state with the node of a name changed
abbrev pub with_changed : State → ℕ → (Node → Node) → State
with_changed s a f = with_graph s (with_node s.graph a (f (node s.graph a)))

-- the slots of an instance of a handle's class that has this size, and its words
abbrev pub slots_asked : Graph → ℕ → Text → ℕ → ℕ
slots_asked g k c n = slots_for (layout_in (node_of_handle g k c)) n

abbrev pub words_asked : Graph → ℕ → Text → ℕ → ℕ
words_asked g k c n = fresh_words (slots_asked g k c n)

-- the next name, which is fresh, has this node
abbrev pub with_fresh : Graph → Node → Graph
with_fresh g n = record (with_node g g.next n) { next = g.next + 1 }

-- a handle is bound to a fresh object with this node and so many slots, which stands where its words were served
abbrev pub made : State → ℕ → Text → Node → ℕ → Served → State
made s k h n slots served =
    bound (record s { graph = with_fresh s.graph n; room = placed served.room s.graph.next (fresh_spot served.space slots) }) k h (Ref s.graph.next)
