-- The graph in which an object has the identity hash of another.
use Rattle.std.proofs.Common.{◌≡◌, ◌≢◌, ℕ, cond, sym, ap, ◌∙◌}
use Rattle.std.proofs.lemmas.Bool.{eq-eqb, ne_eqb}
use Rattle.spur_graph.specs.Node.{Node}
use Rattle.spur_graph.specs.Graph.{Graph, node, with_node}
use Rattle.spur_graph.specs.Become.{hand_hash}
use Rattle.spur_graph.specs.Heaps.{View, heap_graph}
use Rattle.spur_heap.specs.Views.{IsOrdinary, node_in}
use Rattle.spur_heap.proofs.NodesAt.{node_there}

module _ (v : View) (a b hash : ℕ) (there_a : IsOrdinary v a) (there_b : IsOrdinary v b) (is : hash ≡ (node_in v a).hash) where
  abbrev g : Graph
  g = heap_graph v

  -- the graph that has it
  abbrev with_it : Graph
  with_it = with_node g b (record (node g b) { hash = (node g a).hash })

  hash_is : (node g a).hash ≡ hash
  hash_is = ap (λ (n : Node). n.hash) (node_there v a there_a) ∙ sym is

  pub some_handed : (u : View) → hash ≢ 0 → heap_graph u ≡ with_node g b (record (node_in v b) { hash = hash }) → heap_graph u ≡ hand_hash g a b
  some_handed u some graph =
      graph
      ∙ sym (λ i. with_node g b (record (node_there v b there_b i) { hash = hash_is i }))
      ∙ sym (ap (λ t. cond t g with_it) (ne_eqb (node g a).hash 0 (λ none. some (sym hash_is ∙ none))))

  pub none_handed : hash ≡ 0 → g ≡ hand_hash g a b
  none_handed none = sym (ap (λ t. cond t g with_it) (eq-eqb (node g a).hash 0 (hash_is ∙ none)))
