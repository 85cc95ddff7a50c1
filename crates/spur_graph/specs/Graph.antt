-- The graph of objects: nodes by name, and what the roots name.
use Rattle.std.specs.Prelude.{◌≡◌, ◌≢◌, ◌≤◌, ◌<◌, ℕ, ◌^◌, List, [], ◌∷◌, Option, Some, None, false}
use Rattle.std.specs.Option.{unwrap_or}
use Rattle.std.specs.List.{All, AllPairs, flat_map}
use Rattle.std.specs.declared.cmp.Ordering.{Ordering}
use Rattle.std.specs.Ordering.{nat_cmp, ordering_then}
use Rattle.std.specs.Cmp.Lexicographic.{slice_cmp}
use Rattle.std.specs.FinMap.{FinMap, get, insert, remove}
use Rattle.spur_graph.specs.declared.answer.Value.{Value}
use Rattle.spur_graph.specs.declared.answer.Value.TheVariants.{Ref}
use Rattle.spur_graph.specs.Value.{IsValue, name_of}
use Rattle.spur_graph.specs.Bytes.{Text}
use Rattle.spur_graph.specs.Node.{Node, IsNode}

-- a handle is known by its mutator and its name
abbrev pub Handle : Type 0
Handle = ℕ × Text

-- handles go by mutator, then by name
abbrev pub handle_cmp : Handle → Handle → Ordering
handle_cmp a b = ordering_then (nat_cmp a.0 b.0) (slice_cmp nat_cmp a.1 b.1)

-- nodes by name, the names of nil, false and true, the special objects, the class table by index, the values of handles,
-- the mourners in groups, the state from which hashes are drawn, and the next fresh name
pub record Graph : Type 0 where
  pub nodes : FinMap nat_cmp Node
  pub nil : ℕ
  pub no : ℕ
  pub yes : ℕ
  pub special : Value
  pub classes : FinMap nat_cmp Value
  pub handles : FinMap handle_cmp Value
  pub mourners : List (List ℕ)
  pub hash_state : ℕ
  pub next : ℕ

-- a node of nothing
abbrev pub blank : Node
blank = record { class = 0; hash = 0; format = 0; pointers = []; units = []; pinned = false; readonly = false }

-- the node of a name; in a closed graph each name that is spoken of has one
abbrev pub node : Graph → ℕ → Node
node g a = unwrap_or (get g.nodes a) blank

-- the node of the name that a value names; an immediate is refused before this is asked
abbrev pub node_at : Graph → Value → Node
node_at g v = node g (name_of v)

-- the value that a handle of a mutator has, if it is held
abbrev pub held : Graph → ℕ → Text → Option Value
held g k h = get g.handles (k, h)

-- a handle is bound, anew or again
abbrev pub bind : Graph → ℕ → Text → Value → Graph
bind g k h v = record g { handles = insert g.handles (k, h) v }

-- a handle is held no longer
abbrev pub unbind : Graph → ℕ → Text → Graph
unbind g k h = record g { handles = remove g.handles (k, h) }

-- a name has this node, anew or again
abbrev pub with_node : Graph → ℕ → Node → Graph
with_node g a n = record g { nodes = insert g.nodes a n }

-- the names that wait among the mourners
abbrev pub waiting : Graph → List ℕ
waiting g = flat_map (λ group. group) g.mourners

-- a reference names a node
abbrev pub HasNode : Graph → Value → Type 0
HasNode g v = (a : ℕ) → v ≡ Ref a → (n : Node) × (get g.nodes a ≡ Some n)

-- an entered class: the table has it at its hash, which is not 0
pub record IsEntered (g : Graph) (a : ℕ) : Type 0 where
  pub class : Node
  pub there : get g.nodes a ≡ Some class
  pub hashed : class.hash ≢ 0
  pub entry : get g.classes class.hash ≡ Some (Ref a)

-- no name stands twice
abbrev pub AreApart : List ℕ → Type 0
AreApart names = AllPairs (λ a b. a ≢ b) names

-- whatever is named has a node, mourners are distinct and have fired, and each class stands at its hash
pub record IsClosed (g : Graph) : Type 0 where
  pub all_nodes : (a : ℕ) (n : Node) → get g.nodes a ≡ Some n → IsNode n × All (HasNode g) n.pointers
  pub names : All (λ a. HasNode g (Ref a)) (g.nil ∷ g.no ∷ g.yes ∷ [])
  pub special_there : ((a : ℕ) × (g.special ≡ Ref a)) × HasNode g g.special
  pub entered : (i : ℕ) (v : Value) → get g.classes i ≡ Some v → (a : ℕ) × (v ≡ Ref a) × IsEntered g a
  pub held_values : (h : Handle) (v : Value) → get g.handles h ≡ Some v → IsValue v × HasNode g v
  pub groups : All (λ group. group ≢ []) g.mourners
  pub fired : All (λ a. (n : Node) × (get g.nodes a ≡ Some n) × (n.format ≡ 1)) (waiting g)
  pub apart : AreApart (waiting g)
  pub state_bits : g.hash_state < 2 ^ 32
  pub fresh : (a : ℕ) → g.next ≤ a → get g.nodes a ≡ None
