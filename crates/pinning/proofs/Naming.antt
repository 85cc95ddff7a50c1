-- The node of the object that a value names, and of an object once a node was written.
use Rattle.std.proofs.Common.{◌≡◌, ◌≢◌, ℕ, Bool, true, false, cond, refl, sym, ap, ◌∙◌, Option, Some, None}
use Rattle.std.proofs.lemmas.Option.{none-some, same_Some}
use Rattle.std.specs.Ordering.{nat_cmp, eq_by_cmp}
use Rattle.std.specs.Cmp.{nat_cmp_total}
use Rattle.std.specs.FinMap.{FinMap, get, insert, same_map, get-insert, nat_cmp-IsAntisymmetric}
use Rattle.spur_graph.specs.declared.answer.Value.{Value}
use Rattle.spur_graph.specs.declared.answer.Value.TheVariants.{Ref}
use Rattle.spur_graph.specs.Value.{name_of}
use Rattle.spur_graph.specs.Node.{Node}
use Rattle.spur_graph.specs.Graph.{Graph, node, with_node}
use Rattle.spur_graph.specs.Heaps.{View, heap_graph}
use Rattle.graph_laws.proofs.CopyingOut.{tied, untied}
use Rattle.spur_heap.specs.Views.{IsOrdinary, node_in}
use Rattle.spur_heap.proofs.NodesAt.{get_there, node_there}

-- ---- the object that a value names

module _ (v u : View) (s : ℕ) (x : Value) (on : Bool) (there : IsOrdinary v s) (named : x ≡ Ref s) where
  name : name_of x ≡ s
  name = ap name_of named

  at : node (heap_graph v) (name_of x) ≡ node_in v s
  at = ap (node (heap_graph v)) name ∙ node_there v s there

  -- its pinned flag is written, its readonly flag is
  pub pinned_named : heap_graph u ≡ with_node (heap_graph v) s (record (node_in v s) { pinned = on })
      → heap_graph u ≡ with_node (heap_graph v) (name_of x) (record (node (heap_graph v) (name_of x)) { pinned = on })
  pinned_named graph = graph ∙ (λ i. with_node (heap_graph v) (sym name i) (record (sym at i) { pinned = on }))

  pub readonly_named : heap_graph u ≡ with_node (heap_graph v) s (record (node_in v s) { readonly = on })
      → heap_graph u ≡ with_node (heap_graph v) (name_of x) (record (node (heap_graph v) (name_of x)) { readonly = on })
  readonly_named graph = graph ∙ (λ i. with_node (heap_graph v) (sym name i) (record (sym at i) { readonly = on }))

-- ---- nodes that are written

-- a node that is written twice is written once
pub written_twice : (g : Graph) (s : ℕ) (n m : Node) → with_node (with_node g s n) s m ≡ with_node g s m
written_twice g s n m = ap (λ (nodes : FinMap nat_cmp Node). let h : Graph = record g { nodes = nodes } in h) (same_map nat_cmp_total nat_cmp-IsAntisymmetric (insert (insert g.nodes s n) s m) (insert g.nodes s m) (λ q.
    get-insert nat_cmp_total (insert g.nodes s n) s m q
    ∙ ap (cond (eq_by_cmp nat_cmp q s) (Some m)) (get-insert nat_cmp_total g.nodes s n q)
    ∙ chosen (eq_by_cmp nat_cmp q s) (get g.nodes q)
    ∙ sym (get-insert nat_cmp_total g.nodes s m q)))
  where
    chosen : (b : Bool) (o : Option Node) → cond b (Some m) (cond b (Some n) o) ≡ cond b (Some m) o
    chosen true o = refl
    chosen false o = refl

-- the node that was written, and another, of ordinary objects
pub node_written : (v : View) (g : Graph) (s : ℕ) (n : Node) → heap_graph v ≡ with_node g s n → IsOrdinary v s → node_in v s ≡ n
node_written v g s n graph there = same_Some (node_in v s) n (sym (get_there v s there)
    ∙ ap (λ (h : Graph). get h.nodes s) graph
    ∙ get-insert nat_cmp_total g.nodes s n s
    ∙ ap (λ b. cond b (Some n) (get g.nodes s)) (tied s s refl))

pub node_kept : (v u : View) (s t : ℕ) (n : Node) → heap_graph u ≡ with_node (heap_graph v) s n → t ≢ s → IsOrdinary v t → IsOrdinary u t → node_in u t ≡ node_in v t
node_kept v u s t n graph other before after = same_Some (node_in u t) (node_in v t) (sym (get_there u t after)
    ∙ ap (λ (h : Graph). get h.nodes t) graph
    ∙ get-insert nat_cmp_total (heap_graph v).nodes s n t
    ∙ ap (λ b. cond b (Some n) (get (heap_graph v).nodes t)) (untied t s other)
    ∙ get_there v t before)

-- an object has a node, so that its name is none that has none
pub apart_from : (v : View) (s t : ℕ) → IsOrdinary v s → get (heap_graph v).nodes t ≡ None → s ≢ t
apart_from v s t there none same = none-some (node_in v s) (sym none ∙ ap (get (heap_graph v).nodes) (sym same) ∙ get_there v s there)
