-- The names of a heap in the middle of a scavenge, and where they stand.
use Rattle.std.proofs.Common.{◌≡◌, ℕ, Bool, true, false, sym, ap, ◌∙◌, Some}
use Rattle.std.specs.FinMap.{get}
use Rattle.spur_graph.specs.Node.{Node}
use Rattle.spur_graph.specs.Graph.{Graph}
use Rattle.spur_graph.specs.Cells.{There, Store}
use Rattle.spur_graph.specs.Ordinary.{body_at, is_ordinary}
use Rattle.spur_graph.specs.CellGraph.{node_of, nodes_of}
use Rattle.heap_cells.proofs.CellKinds.{there_is}
use Rattle.heap_cells.proofs.References.{ordinary_there}
use Rattle.heap_laws.specs.Placed.{Outside}
use Rattle.scavenge_laws.specs.Copying.{IsHeapStore, ArePlaces, Copying}
use Rattle.scavenge_laws.proofs.Naming.{node-here, node-comes}
use Rattle.scavenge_laws.proofs.Keeping.{once}

-- the name stands outside the space that is being left
pub record Stands (young : ℕ → Bool) (h : Store) (p : ℕ → ℕ) (a : ℕ) : Type 0 where
  pub ordinary : is_ordinary h (p a) ≡ true
  pub outside : young (p a) ≡ false

-- what an ordinary object has in its cell
pub ordinary-body : (h : Store) (s : ℕ) → is_ordinary h s ≡ true → h.cell s ≡ There (body_at h s)
ordinary-body h s on = there_is (h.cell s) (ordinary_there h s on)

module _ {h : Store} {p q : ℕ → ℕ} (heap : IsHeapStore h) (places : ArePlaces p q) where
  pub place-here : (s : ℕ) → is_ordinary h s ≡ true → get (nodes_of q h) (q s) ≡ Some (node_of q h (body_at h s))
  place-here s on = node-here q h heap.store.reads.inside (once places) s on

  -- a name with a node is that of the object at its place
  pub place-comes : (a : ℕ) (n : Node) → get (nodes_of q h) a ≡ Some n → (is_ordinary h (p a) ≡ true) × (n ≡ node_of q h (body_at h (p a)))
  place-comes a n e =
      let m = node-comes q h heap.store.reads.inside (once places) a n e in
      let at : m.place ≡ p a = sym (places.left m.place) ∙ ap p m.name in
      (ap (is_ordinary h) (sym at) ∙ m.ordinary, sym (m.node) ∙ ap (λ s. node_of q h (body_at h s)) at)

module _ {young : ℕ → Bool} {g : Graph} {further : ℕ → Bool} {h : Store} {o : Outside} {todo held : ℕ → Type 0} {p q : ℕ → ℕ} (c : Copying young g further h o todo held p q) where
  pub nodes-are : nodes_of q h ≡ g.nodes
  nodes-are = ap (λ (x : Graph). x.nodes) c.same

  pub here : (s : ℕ) → is_ordinary h s ≡ true → get g.nodes (q s) ≡ Some (node_of q h (body_at h s))
  here s on = ap (λ m. get m (q s)) (sym nodes-are) ∙ place-here c.heap c.places s on

  pub comes : (a : ℕ) (n : Node) → get g.nodes a ≡ Some n → (is_ordinary h (p a) ≡ true) × (n ≡ node_of q h (body_at h (p a)))
  comes a n e = place-comes c.heap c.places a n (ap (λ m. get m a) nodes-are ∙ e)

  -- the place of a name to which a start leads
  pub place-of : (t a : ℕ) → q t ≡ a → p a ≡ t
  place-of t a e = ap p (sym e) ∙ c.places.left t
