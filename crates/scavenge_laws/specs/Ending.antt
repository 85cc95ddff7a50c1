-- The end of a scavenge: weak slots that name dead objects become nil, and the space that is being left goes.
use Rattle.std.specs.Prelude.{ℕ, ◌≡◌, ◌≢◌, ◌⊎◌, ◌+◌, ◌*◌, ◌/◌, ◌%◌, ◌&&◌, Bool, false, not, List, ◌++◌, map, take, drop, if◌then◌else◌, nat_eq}
use Rattle.std.specs.Option.{option_map}
use Rattle.std.specs.List.{All}
use Rattle.std.specs.FinMap.{get}
use Rattle.spur_graph.specs.Graph.{Graph}
use Rattle.spur_graph.specs.Rounds.{without_dead, nils, Collect}
use Rattle.spur_graph.specs.Names.{Iso}
use Rattle.spur_graph.specs.Cells.{Body, Store, Empty, Moved, There, first, final, pointers}
use Rattle.spur_graph.specs.Ordinary.{is_ordinary}
use Rattle.spur_graph.specs.CellGraph.{nodes_of}
use Rattle.spur_graph.specs.Heaps.{graph_in}
use Rattle.heap_laws.specs.Placed.{Outside, graph_under}
use Rattle.heap_laws.specs.Instances.{IsSoundStore, IsGoodOutside}
use Rattle.scavenge_laws.specs.Copying.{IsClear, IsHeapStore, StandOutside, ArePlaces, AreClear, strong_slots}
use Rattle.scavenge_laws.specs.Writing.{KeepsFirsts}

-- the name stands outside the space that is being left
abbrev pub stands_outside : (ℕ → Bool) → Store → (ℕ → ℕ) → ℕ → Bool
stands_outside young h p a = is_ordinary h (p a) && not (young (p a))

-- a word of a weak slot: nil where it leads into the space that is being left, and else followed
abbrev pub cleared_word : (ℕ → Bool) → Store → ℕ → ℕ
cleared_word young h w = if nat_eq (w % 8) 0 then (if young (final h (w / 8)) then 8 * first h 0 else 8 * final h (w / 8)) else w

-- the words of a weak object once those behind the strong ones are so
abbrev pub cleared_words : (ℕ → Bool) → Graph → Store → Body → List ℕ
cleared_words young g h b = take (strong_slots g b) b.words ++ map (cleared_word young h) (drop (strong_slots g b) b.words)

-- how many words become nil
abbrev pub is_dead_word : (ℕ → Bool) → Store → ℕ → Bool
is_dead_word young h w = nat_eq (w % 8) 0 && young (final h (w / 8))

-- The live names stand outside the space that is being left. Each weak object is as it was or without the words that named dead ones, and those that
-- still name the space that is being left are `left`. So many words became nil
pub record Ending (young : ℕ → Bool) (g : Graph) (live : ℕ → Bool) (h : Store) (o : Outside) (left : ℕ → Type 0) (count : ℕ) (p q : ℕ → ℕ) : Type 0 where
  pub heap : IsHeapStore h
  pub outer : StandOutside young h
  pub good : IsGoodOutside h o
  pub places : ArePlaces p q
  pub standing : (a : ℕ) → live a ≡ stands_outside young h p a
  pub rest : graph_under q h o.special o.held o.groups g.hash_state g.next ≡ record g { nodes = nodes_of q h }
  pub nodes : (a : ℕ) → (get (nodes_of q h) a ≡ get g.nodes a) ⊎ (get (nodes_of q h) a ≡ option_map (without_dead g live) (get g.nodes a))
  pub nilled : count + nils live (record g { nodes = nodes_of q h }) ≡ nils live g
  pub moved : (s t : ℕ) → young s ≡ false → h.cell s ≡ Moved t → young t ≡ false
  pub clear : (s : ℕ) (b : Body) → young s ≡ false → s ≢ first h 3 → h.cell s ≡ There b → left s ⊎ All (IsClear young) (pointers b)
  pub roots : AreClear young o

-- what stands in the space that is being left is gone
pub record Drops (young : ℕ → Bool) (old new : Store) : Type 0 where
  pub keeps : KeepsFirsts old new
  pub cells : (t : ℕ) → new.cell t ≡ (if young t then Empty else old.cell t)

-- rounds and a sweep have led from a graph to one that the heap stands for, name by name: `place` says where each name stands
pub record Collected (old : Graph) (further : ℕ → Bool) (nilled fired : ℕ) (h : Store) (o : Outside) (place back : ℕ → ℕ) : Type 0 where
  pub end : Graph
  pub collect : Collect old further nilled fired end
  pub store : IsSoundStore h
  pub good : IsGoodOutside h o
  pub graph : (next : ℕ) → Iso end (graph_in h o.special o.held o.groups old.hash_state next) place back
