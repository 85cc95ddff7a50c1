-- What `kind` shows.
use Rattle.std.specs.Prelude.{ℕ, length, if◌then◌else◌, ◌==◌}
use Rattle.std.specs.List.{sum}
use Rattle.std.specs.FinMap.{len}
use Rattle.spur_graph.specs.declared.answer.Value.{Value}
use Rattle.spur_graph.specs.declared.answer.Value.TheVariants.{Int, Char, Float, Ref}
use Rattle.spur_graph.specs.declared.answer.Shown.{Shown}
use Rattle.spur_graph.specs.declared.answer.Shown.TheVariants as shows
use Rattle.spur_graph.specs.declared.answer.Stat.{Stat}
use Rattle.spur_graph.specs.Graph.{Graph, node, waiting}
use Rattle.spur_graph.specs.Room.{Room}
use Rattle.spur_graph.specs.FreeSizes.{largest}

-- nil, false and true have a word of their own, every other object its class index and format
abbrev pub shown_name : Graph → ℕ → Shown
shown_name g a =
    if a == g.nil then shows.Nil
    else if a == g.no then shows.No
    else if a == g.yes then shows.Yes
    else shows.Object (node g a).class (node g a).format

-- an immediate shows its number, code or word
abbrev pub shown : Graph → Value → Shown
shown g (Int n) = shows.Int n
shown g (Char n) = shows.Char n
shown g (Float w) = shows.Float w
shown g (Ref a) = shown_name g a

-- what is counted of a graph and its room
abbrev pub stat_of : Graph → Room → Stat
stat_of g room = record {
  nodes = len g.nodes;
  handles = len g.handles;
  mourners = length (waiting g);
  free = sum room.free;
  largest = largest room.free;
  eden = room.eden_left;
  past = room.past_used;
}
