-- Which words of a heap the lines `become` and `forward` write.
use Rattle.std.specs.Prelude.{ℕ, List}
use Rattle.spur_graph.specs.Form.{Form, Become, Forward}
use Rattle.spur_graph.specs.State.{name_at}
use Rattle.spur_graph.specs.Step.{Reads}
use Rattle.spur_graph.specs.Heaps.{View}
use Rattle.lazy_become.specs.Writes.{ExchangeWrites, ForwardWrites}
use Rattle.replay.specs.Sessions.{graph_of}

-- of an exchange and of a forwarding it is told which words stay, by the names that its handles have
abbrev pub Writes : View → View → ℕ → Form → Type 0
Writes old new k (Become a b) = ExchangeWrites old new (name_at (graph_of old) k a) (name_at (graph_of old) k b)
Writes old new k (Forward a b hash) = ForwardWrites old new (name_at (graph_of old) k a) (name_at (graph_of old) k b) hash
Writes old new k form = Unit {0}

-- the same of the command that a line is
abbrev pub LineWrites : View → List ℕ → View → Type 0
LineWrites old bytes new = (k : ℕ) (form : Form) → Reads bytes k form → Writes old new k form
