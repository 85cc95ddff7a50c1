-- Texts that denote graphs: what a save leaves in a file, and what whoever loads that file gets.
use Rattle.std.specs.Prelude.{ℕ, ◌≢◌, []}
use Rattle.std.specs.FinMap.{empty}
use Rattle.spur_graph.specs.declared.limits.Limits.{Limits}
use Rattle.spur_graph.specs.Bytes.{Text}
use Rattle.spur_graph.specs.Graph.{Graph}
use Rattle.spur_graph.specs.Names.{Iso}
use Rattle.spur_graph.specs.LoadedGraph.{loaded_graph}
use Rattle.spur_graph.specs.ImageCauses.{Row, TooLarge, Bad}

-- the graph without handles and mourners, of which a file has none
abbrev pub bare : Graph → Graph
bare g = record g { handles = empty; mourners = [] }

-- no cause but `large`, which depends on the limits, applies to the bytes, and they stand for the graph, up to names
pub record Denotes (bytes : Text) (g : Graph) : Type 0 where
  pub accepted : (limits : Limits) (row : Row) (n : ℕ) → row ≢ TooLarge → Bad bytes limits row n → ⊥
  pub place : ℕ → ℕ
  pub back : ℕ → ℕ
  pub graph : Iso g (loaded_graph bytes) place back
