-- The words that are followed.
use Rattle.std.specs.Prelude.{ℕ, ◌≡◌, ◌/◌, ◌%◌, true}
use Rattle.spur_graph.specs.Heaps.{View}
use Rattle.spur_heap.specs.Words.{starts_at}

-- an immediate, or 8 times the start of an object or a forwarder
abbrev pub IsValue : View → ℕ → Type 0
IsValue v word = word % 8 ≡ 0 → starts_at v (word / 8) ≡ true
