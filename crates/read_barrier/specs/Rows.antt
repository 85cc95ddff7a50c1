-- The refusals of reading and writing the slots and the units of an object, by the value that names it.
use Rattle.std.specs.Prelude.{ℕ, [], ◌∷◌}
use Rattle.spur_graph.specs.declared.answer.Value.{Value}
use Rattle.spur_graph.specs.declared.answer.Refusal.TheVariants as r
use Rattle.spur_graph.specs.Value.{is_immediate}
use Rattle.spur_graph.specs.Graph.{Graph, node_at}
use Rattle.spur_graph.specs.Refusals.{Row, test, raw_read, raw_write, raw_unit, index_in, unit_range}

-- the refusals of fetching a pointer slot, in their order
abbrev pub fetch_row : Graph → Value → ℕ → Row
fetch_row g v i = test (is_immediate v) r.Immediate ∷ raw_read (node_at g v) ∷ index_in (node_at g v).pointers i ∷ []

-- the refusals of storing into a pointer slot, in their order
abbrev pub store_row : Graph → Value → ℕ → Row
store_row g v i = test (is_immediate v) r.Immediate ∷ raw_write (node_at g v) i ∷ index_in (node_at g v).pointers i ∷ test (node_at g v).readonly r.ReadOnly ∷ []

-- the refusals of fetching a unit, in their order
abbrev pub unit_row : Graph → Value → ℕ → Row
unit_row g v i = test (is_immediate v) r.Immediate ∷ raw_unit (node_at g v) ∷ index_in (node_at g v).units i ∷ []

-- the refusals of storing a number into a unit, in their order
abbrev pub store_unit_row : Graph → Value → ℕ → ℕ → Row
store_unit_row g v i n =
    test (is_immediate v) r.Immediate ∷ raw_unit (node_at g v) ∷ index_in (node_at g v).units i ∷ unit_range (node_at g v) n
    ∷ test (node_at g v).readonly r.ReadOnly ∷ []
