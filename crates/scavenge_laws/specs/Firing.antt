-- Ephemerons fire one after another, as a group.
use Rattle.std.specs.Prelude.{ℕ, ◌≡◌, Bool, List, [], ◌∷◌, ◌++◌, map}
use Rattle.spur_graph.specs.Graph.{Graph}
use Rattle.spur_graph.specs.Rounds.{fire}
use Rattle.spur_graph.specs.Cells.{Body, Store, final}
use Rattle.heap_laws.specs.Placed.{Outside}
use Rattle.scavenge_laws.specs.Copying.{Copying}

-- the graph once some of a group have fired
abbrev pub fire_some : Graph → List ℕ → Graph
fire_some g [] = g
fire_some g (a ∷ group) = fire g (a ∷ group)

-- the mourners once some of a group wait behind the others
abbrev pub behind : List (List ℕ) → List ℕ → List (List ℕ)
behind groups [] = groups
behind groups (a ∷ group) = groups ++ (a ∷ group) ∷ []

-- the roots, where some of a group wait behind the other mourners
abbrev pub with_group : Outside → List ℕ → Outside
with_group o places = record o { groups = behind o.groups places }

-- an ephemeron that has fired
abbrev pub fired_body : Body → Body
fired_body b = record b { format = 1 }

-- the objects at these places have fired, and wait behind the mourners of before
pub record Firing (young : ℕ → Bool) (g : Graph) (further : ℕ → Bool) (h : Store) (o : Outside) (places : List ℕ) (todo held : ℕ → Type 0) (p q : ℕ → ℕ) : Type 0 where
  pub copying : Copying young (fire_some g (map q places)) further h (with_group o places) todo held p q
  pub groups : map (map (λ s. q (final h s))) o.groups ≡ g.mourners
  pub ends : map (final h) places ≡ places
