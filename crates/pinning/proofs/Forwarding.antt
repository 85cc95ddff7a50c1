-- An object of new space can become a forwarder to its copy, once the copy is pinned.
use Rattle.std.proofs.Common.{◌≡◌, ◌≢◌, ℕ, true, false, refl, sym, ap, ◌∙◌, arith, eqb, Some}
use Rattle.std.proofs.lemmas.Bool.{eqb-true}
use Rattle.std.proofs.lemmas.List.Folds.{Any-from_list_any}
use Rattle.std.proofs.lemmas.Option.{none-some, same_Some}
use Rattle.std.specs.FinMap.{get}
use Rattle.spur_graph.specs.Node.{Node}
use Rattle.spur_graph.specs.Graph.{Graph, IsClosed, waiting, with_node}
use Rattle.spur_graph.specs.Refusals.{is_special, waits}
use Rattle.spur_graph.specs.Heaps.{View, heap_graph}
use Rattle.spur_heap.specs.Forwarders.{KeepsClass, KeepsMourner}
use Rattle.spur_heap.specs.Views.{IsOrdinary, node_in}
use Rattle.spur_heap.proofs.NodesAt.{get_there}
use Rattle.pinning.specs.Pins.{CopiesToOld}
use Rattle.pinning.proofs.Copying.{awake}
use Rattle.pinning.proofs.Naming.{apart_from, node_kept, node_written, written_twice}

-- a name that waits has a node of format 1
fired : (g : Graph) → IsClosed g → (a : ℕ) → waits g a ≡ true → (n : Node) × (get g.nodes a ≡ Some n) × (n.format ≡ 1)
fired g closed a on =
    let k = Any-from_list_any (eqb a) (waiting g) on in
    let f = closed.fired k.0 k.1 k.2 in
    (f.0, ap (get g.nodes) (eqb-true a k.1 k.4 ∙ sym k.3) ∙ f.1, f.2)

module _ (old copied flagged : View) (start copy : ℕ) (there : IsOrdinary old start) (c : CopiesToOld old copied start copy)
    (graph : heap_graph flagged ≡ with_node (heap_graph copied) copy (record (node_in copied copy) { pinned = true })) (ordinary : (s : ℕ) → IsOrdinary copied s → IsOrdinary flagged s) where
  abbrev pub pinned_copy : Node
  pinned_copy = record (node_in old start) { pinned = true }

  pub other : start ≢ copy
  other = apart_from old start copy there c.fresh

  copied_node : node_in copied copy ≡ node_in old start
  copied_node = node_written copied (heap_graph old) copy (node_in old start) c.graph c.there

  pub graph_is : heap_graph flagged ≡ with_node (heap_graph old) copy pinned_copy
  graph_is =
      graph ∙ (λ i. with_node (c.graph i) copy (record (copied_node i) { pinned = true }))
      ∙ written_twice (heap_graph old) copy (node_in old start) pinned_copy

  source_node : node_in flagged start ≡ node_in old start
  source_node = node_kept old flagged copy start pinned_copy graph_is other there (ordinary start (c.ordinary start there))

  copy_node : node_in flagged copy ≡ pinned_copy
  copy_node = node_written flagged (heap_graph old) copy pinned_copy graph_is (ordinary copy c.there)

  pub plain : is_special (heap_graph old) start ≡ false → is_special (heap_graph flagged) start ≡ false
  plain is = ap (λ (g : Graph). is_special g start) graph_is ∙ is

  module _ (closed : IsClosed (heap_graph old)) where
    no_nil : copy ≢ (heap_graph flagged).nil
    no_nil e =
        let n = closed.names 0 0 (omega arith) (heap_graph old).nil refl in
        none-some n.0 (sym c.fresh ∙ ap (get (heap_graph old).nodes) (e ∙ ap (λ (g : Graph). g.nil) graph_is) ∙ n.1)

    pub keeps_class : KeepsClass flagged start copy
    keeps_class entered = (ap (λ (n : Node). n.hash) copy_node ∙ sym (ap (λ (n : Node). n.hash) source_node), no_nil)

    pub keeps_mourner : KeepsMourner flagged start copy
    keeps_mourner on =
        let n = fired (heap_graph old) closed start (sym (ap (λ (g : Graph). waits g start) graph_is) ∙ on) in
        let same : n.0 ≡ node_in old start = same_Some n.0 (node_in old start) (sym n.1 ∙ get_there old start there) in
        (ap (λ (m : Node). m.format) copy_node ∙ sym (ap (λ (m : Node). m.format) same) ∙ n.2, ap (λ (g : Graph). waits g copy) graph_is ∙ awake (heap_graph old) closed copy c.fresh)
