-- The class of a value.
use Rattle.std.specs.Prelude.{ℕ}
use Rattle.std.specs.Option.{unwrap_or}
use Rattle.std.specs.FinMap.{get}
use Rattle.spur_graph.specs.declared.answer.Value.{Value}
use Rattle.spur_graph.specs.declared.answer.Value.TheVariants.{Int, Char, Float, Ref}
use Rattle.spur_graph.specs.Graph.{Graph, node}

-- the class index of a value: an immediate's is its tag
abbrev pub class_index : Graph → Value → ℕ
class_index g (Int n) = 1
class_index g (Char c) = 2
class_index g (Float w) = 4
class_index g (Ref a) = (node g a).class

-- the class table's entry at the index of a value, nil where there is none
abbrev pub class_value : Graph → Value → Value
class_value g v = unwrap_or (get g.classes (class_index g v)) (Ref g.nil)
