-- The nodes of a heap's graph, where each object has another node.
use Rattle.std.proofs.Common.{◌≡◌, ℕ, Bool, true, false, cond, map, refl, sym, ap, ◌∙◌, Some, None}
use Rattle.std.proofs.lemmas.Bool.{false≢true}
use Rattle.std.specs.Cmp.{nat_cmp_total}
use Rattle.std.specs.Option.{option_map}
use Rattle.std.specs.FinMap.{get, get-from_entries, retain_keys, same_map, nat_cmp-IsAntisymmetric}
use Rattle.spur_graph.specs.Node.{Node}
use Rattle.spur_graph.specs.Cells.{Store}
use Rattle.spur_graph.specs.Ordinary.{body_at, is_ordinary, ordinary_starts}
use Rattle.spur_graph.specs.CellGraph.{node_of, nodes_of}
use Rattle.spur_graph.specs.Rounds.{map_nodes}
use Rattle.spur_graph.specs.Heaps.{View, heap_graph, own_name}
use Rattle.spur_graph.proofs.MappedValues.{get-map_nodes}
use Rattle.heap_cells.proofs.Members.{filter_in}
use Rattle.graph_laws.proofs.Sweeping.{get-live}
use Rattle.spur_heap.specs.Views.{IsOrdinary, node_in, store}
use Rattle.spur_heap.proofs.Keys.{find-absent}
use Rattle.spur_heap.proofs.NodesAt.{get_there}

-- what is no ordinary object is no name
pub get_absent : (v : View) (s : ℕ) → is_ordinary (store v) s ≡ false → get (heap_graph v).nodes s ≡ None
unfolding nodes_of ordinary_starts
get_absent v s off =
    let h : Store = store v in
    get-from_entries nat_cmp_total (map (λ t. (t, node_of own_name h (body_at h t))) (ordinary_starts h)) s
    ∙ find-absent (λ t. node_of own_name h (body_at h t)) (ordinary_starts h) s (λ m. false≢true (sym off ∙ (filter_in (is_ordinary h) h.starts s m).1))

module _ (a b : View) (same : (t : ℕ) → is_ordinary (store b) t ≡ is_ordinary (store a) t) (f : ℕ → Node → Node) where
  pub nodes_mapped : ((t : ℕ) → IsOrdinary a t → node_in b t ≡ f t (node_in a t)) → (heap_graph b).nodes ≡ map_nodes f (heap_graph a).nodes
  nodes_mapped is = same_map nat_cmp_total nat_cmp-IsAntisymmetric (heap_graph b).nodes (map_nodes f (heap_graph a).nodes) (λ t. by t (is_ordinary (store a) t) refl)
    where
      by : (t : ℕ) (o : Bool) → is_ordinary (store a) t ≡ o → get (heap_graph b).nodes t ≡ get (map_nodes f (heap_graph a).nodes) t
      by t true on = get_there b t (same t ∙ on) ∙ ap Some (is t on) ∙ sym (get-map_nodes f (heap_graph a).nodes t ∙ ap (option_map (f t)) (get_there a t on))
      by t false off = get_absent b t (same t ∙ off) ∙ sym (get-map_nodes f (heap_graph a).nodes t ∙ ap (option_map (f t)) (get_absent a t off))

  -- where only some are kept
  module _ (m m' : ℕ → Bool) (marks : (t : ℕ) → IsOrdinary a t → m' t ≡ m t) (is : (t : ℕ) → IsOrdinary a t → m t ≡ true → node_in b t ≡ f t (node_in a t)) where
    kept : (t : ℕ) → IsOrdinary a t → (x : Bool) → m t ≡ x → cond x (Some (node_in b t)) None ≡ option_map (f t) (cond x (Some (node_in a t)) None)
    kept t on true marked = ap Some (is t on marked)
    kept t on false marked = refl

    none_kept : (t : ℕ) (x y : Bool) → cond x None None ≡ option_map (f t) (cond y None None)
    none_kept t true true = refl
    none_kept t true false = refl
    none_kept t false true = refl
    none_kept t false false = refl

    pub nodes_kept : retain_keys (heap_graph b).nodes m' ≡ map_nodes f (retain_keys (heap_graph a).nodes m)
    nodes_kept = same_map nat_cmp_total nat_cmp-IsAntisymmetric (retain_keys (heap_graph b).nodes m') (map_nodes f (retain_keys (heap_graph a).nodes m)) (λ t.
        get-live (heap_graph b) m' t ∙ by t (is_ordinary (store a) t) refl ∙ sym (get-map_nodes f (retain_keys (heap_graph a).nodes m) t ∙ ap (option_map (f t)) (get-live (heap_graph a) m t)))
      where
        by : (t : ℕ) (o : Bool) → is_ordinary (store a) t ≡ o → cond (m' t) (get (heap_graph b).nodes t) None ≡ option_map (f t) (cond (m t) (get (heap_graph a).nodes t) None)
        by t true on = (λ i. cond (marks t on i) (get_there b t (same t ∙ on) i) None) ∙ kept t on (m t) refl ∙ ap (λ o. option_map (f t) (cond (m t) o None)) (sym (get_there a t on))
        by t false off = ap (λ o. cond (m' t) o None) (get_absent b t (same t ∙ off)) ∙ none_kept t (m' t) (m t) ∙ ap (λ o. option_map (f t) (cond (m t) o None)) (sym (get_absent a t off))
