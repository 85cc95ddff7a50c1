-- The refusals of making an instance of a class and of entering one, by the values that the calls work on.
use Rattle.std.specs.Prelude.{ℕ, [], ◌∷◌}
use Rattle.spur_graph.specs.declared.answer.Value.{Value}
use Rattle.spur_graph.specs.declared.answer.Refusal.TheVariants as r
use Rattle.spur_graph.specs.Value.{is_immediate, name_of}
use Rattle.spur_graph.specs.Graph.{Graph, node_at}
use Rattle.spur_graph.specs.Room.{Room, fresh_words}
use Rattle.spur_graph.specs.Serve.{Source}
use Rattle.spur_graph.specs.Instances.{layout_in, slots_for}
use Rattle.spur_graph.specs.Hashes.{free_index}
use Rattle.spur_graph.specs.Refusals.{Row, test, is_special, no_class, no_size, unserved, has_hash, no_index, no_page}

-- the slots of an instance of the class, of this size
abbrev pub instance_slots : Graph → Value → ℕ → ℕ
instance_slots g v n = slots_for (layout_in (node_at g v)) n

-- the refusals of making an instance of this size, in their order
abbrev pub instance_row : Graph → Room → Value → ℕ → Source → Row
instance_row g room v n source =
    test (is_immediate v) r.Immediate ∷ no_class g (name_of v) ∷ no_size (node_at g v) n ∷ unserved source room (fresh_words (instance_slots g v n)) ∷ []

-- the refusals of entering a class, in their order
abbrev pub enter_row : Graph → Room → Value → Row
enter_row g room v =
    test (is_immediate v) r.Immediate ∷ test (is_special g (name_of v)) r.Special ∷ has_hash (node_at g v) ∷ no_index g ∷ no_page room (free_index g) ∷ []
