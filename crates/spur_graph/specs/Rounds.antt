-- Rounds of ephemerons whose keys died, and a collection.
use Rattle.std.specs.Prelude.{◌≡◌, ◌≢◌, ℕ, ◌+◌, List, [], ◌∷◌, ◌++◌, length, map, take, drop, slice_get, Bool, true, false, not, ◌==◌, if◌then◌else◌, Some}
use Rattle.std.specs.List.{Contains, list_any, sum_by, count_by}
use Rattle.std.specs.Ordering.{nat_cmp}
use Rattle.std.specs.FinMap.{FinMap, get, entries, from_entries, retain_keys}
use Rattle.spur_graph.specs.declared.answer.Value.{Value}
use Rattle.spur_graph.specs.declared.answer.Value.TheVariants.{Int, Char, Float, Ref}
use Rattle.spur_graph.specs.Node.{Node}
use Rattle.spur_graph.specs.Graph.{Graph, AreApart}
use Rattle.spur_graph.specs.Live.{Live, is_keyed, strong_count, weak_values}

-- the list has each name of a set once
pub record IsListOf (P : ℕ → Type 0) (names : List ℕ) : Type 0 where
  pub apart : AreApart names
  pub all : (a : ℕ) → P a → Contains names a
  pub only : (a : ℕ) → Contains names a → P a

-- the test tells exactly the names of a set
pub record Decides (test : ℕ → Bool) (P : ℕ → Type 0) : Type 0 where
  pub sound : (a : ℕ) → test a ≡ true → P a
  pub whole : (a : ℕ) → P a → test a ≡ true

-- each node is changed, by its name and itself
abbrev pub map_nodes : (ℕ → Node → Node) → FinMap nat_cmp Node → FinMap nat_cmp Node
map_nodes f m = from_entries (map (λ e. (e.0, f e.0 e.1)) (entries m))

-- ---- rounds

-- a live ephemeron whose key is not live
pub record Fires (g : Graph) (further : ℕ → Bool) (a : ℕ) : Type 0 where
  pub node : Node
  pub there : get g.nodes a ≡ Some node
  pub live : Live g further a
  pub ephemeron : is_keyed node ≡ true
  pub key : ℕ
  pub named : slice_get node.pointers 0 ≡ Some (Ref key)
  pub dead : Live g further key → ⊥

-- a node of the group gets format 1
abbrev pub mourning : List ℕ → ℕ → Node → Node
mourning group a n = if list_any (λ b. b == a) group then record n { format = 1 } else n

-- the graph when a group has fired
abbrev pub fire : Graph → List ℕ → Graph
fire g group = record g { nodes = map_nodes (mourning group) g.nodes; mourners = g.mourners ++ group ∷ [] }

-- the group has each name that fires once, in any order, and is not empty
pub record IsGroup (g : Graph) (further : ℕ → Bool) (group : List ℕ) : Type 0 where
  pub some : group ≢ []
  pub names : IsListOf (Fires g further) group

-- rounds until one finds none, and how many names fired
pub data Rounds (further : ℕ → Bool) : Graph → ℕ → Graph → Type 0 where
  Ended : (g : Graph) → ((a : ℕ) → Fires g further a → ⊥) → Rounds further g 0 g
  Again : (g last : Graph) (count : ℕ) (group : List ℕ) → IsGroup g further group → Rounds further (fire g group) count last → Rounds further g (length group + count) last

-- ---- a collection

-- the value names a dead name
abbrev pub names_dead : (ℕ → Bool) → Value → Bool
names_dead live (Int n) = false
names_dead live (Char c) = false
names_dead live (Float w) = false
names_dead live (Ref a) = not (live a)

-- a node whose weak values of dead names became nil
abbrev pub without_dead : Graph → (ℕ → Bool) → Node → Node
without_dead g live n =
    if n.format == 4
    then record n { pointers = take (strong_count g n) n.pointers ++ map (λ v. if names_dead live v then Ref g.nil else v) (weak_values g n) }
    else n

-- without the dead names, and the weak values that named them
abbrev pub swept : (ℕ → Bool) → Graph → Graph
swept live g = record g { nodes = map_nodes (λ a n. without_dead g live n) (retain_keys g.nodes live) }

-- how many weak values become nil
abbrev pub nils : (ℕ → Bool) → Graph → ℕ
nils live g = sum_by (λ e. count_by (names_dead live) (weak_values g e.1)) (entries (retain_keys g.nodes live))

-- a collection with further roots leads from a graph to another
pub record Collect (old : Graph) (further : ℕ → Bool) (nilled fired : ℕ) (new : Graph) : Type 0 where
  pub mid : Graph
  pub rounds : Rounds further old fired mid
  pub live : ℕ → Bool
  pub exact : Decides live (Live mid further)
  pub graph : new ≡ swept live mid
  pub count : nilled ≡ nils live mid
