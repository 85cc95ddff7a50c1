-- The graph of an image that is accepted.
use Rattle.std.specs.Prelude.{ℕ, ◌<◌, ◌^◌, List}
use Rattle.std.specs.List.{All}
use Rattle.spur_graph.specs.declared.limits.Limits.{Limits}
use Rattle.spur_graph.specs.Graph.{IsClosed}
use Rattle.spur_graph.specs.ImageCauses.{IsAccepted}
use Rattle.spur_graph.specs.LoadedGraph.{loaded_graph}

-- it is closed
abbrev pub AcceptedIsClosed : Type 0
AcceptedIsClosed = (bytes : List ℕ) (limits : Limits) → All (λ b. b < 2 ^ 8) bytes → IsAccepted bytes limits → IsClosed (loaded_graph bytes)
