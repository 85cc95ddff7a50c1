-- What has fired is a group of the heap's graph, and the heap stands for the graph in which it has fired.
use Rattle.std.proofs.Common.{◌≡◌, ◌≢◌, ℕ, Bool, true, false, not, ◌&&◌, List, [], length, refl, sym, ap, ◌∙◌, subst, inl, inr, Some}
use Rattle.std.proofs.lemmas.Bool.{true≢false, and_parts, false_from_ne_true}
use Rattle.std.proofs.lemmas.List.{get_or_default}
use Rattle.std.proofs.lemmas.Option.{same_Some}
use Rattle.std.specs.Prelude.{slice_get, slice_index}
use Rattle.std.specs.List.{Contains}
use Rattle.spur_graph.specs.declared.answer.Value.TheVariants.{Ref}
use Rattle.spur_graph.specs.Node.{Node}
use Rattle.spur_graph.specs.Graph.{Graph}
use Rattle.spur_graph.specs.Live.{Live, is_keyed, none}
use Rattle.spur_graph.specs.Rounds.{Decides, Fires, IsListOf, fire, map_nodes, mourning, names_dead}
use Rattle.spur_graph.specs.Ordinary.{is_ordinary}
use Rattle.spur_graph.specs.Heaps.{View, heap_graph, is_marked}
use Rattle.spur_heap.specs.MarkBits.{marks}
use Rattle.spur_heap.specs.Views.{IsOrdinary, node_in, store}
use Rattle.spur_heap.proofs.NodesAt.{get_there}
use Rattle.weak_ephemeron.specs.Steps.{slot_value}
use Rattle.marker.specs.Firing.{FiresFirst, dies}
use Rattle.marker.specs.Waiting.{Progress, waits}
use Rattle.marker.proofs.FiredGraphs.{progress_fired}
use Rattle.marker.proofs.FiredHeaps.{fires_marks, fires_stack, some_behind}
use Rattle.marker.proofs.Gathering.{dies_ordinary, dies_parts}
use Rattle.marker.proofs.MarkedKeys.{dead_name, key_among, key_slot, waits_parts}
use Rattle.marker.proofs.NodeMaps.{nodes_mapped}

-- ---- what dies is what fires

module _ (v : View) (exact : Decides (marks v) (Live (heap_graph v) none)) where
  pub dies_fires : (t : ℕ) → dies v t ≡ true → Fires (heap_graph v) none t
  dies_fires t on =
      let parts = dies_parts v t on in
      let waiting = waits_parts v t parts.1 in
      let key = dead_name (marks v) (slot_value v t 0) waiting.1 in
      record {
        node = node_in v t;
        there = get_there v t (dies_ordinary v t on);
        live = exact.sound t parts.0;
        ephemeron = waiting.0;
        key = key.0;
        named = key_slot v t waiting.0 ∙ ap Some key.1;
        dead = λ alive. true≢false (sym (exact.whole key.0 alive) ∙ key.2);
      }

  pub fires_dies : (t : ℕ) → Fires (heap_graph v) none t → dies v t ≡ true
  fires_dies t f =
      let marked : marks v t ≡ true = exact.whole t f.live in
      let ordinary : IsOrdinary v t = (and_parts (is_ordinary (store v) t) (is_marked v.words t) marked).0 in
      let same : f.node ≡ node_in v t = same_Some f.node (node_in v t) (sym f.there ∙ get_there v t ordinary) in
      let keyed : is_keyed (node_in v t) ≡ true = ap is_keyed (sym same) ∙ f.ephemeron in
      let slot : slot_value v t 0 ≡ Ref f.key = same_Some (slot_value v t 0) (Ref f.key) (sym (key_slot v t keyed) ∙ ap (λ (n : Node). slice_get n.pointers 0) (sym same) ∙ f.named) in
      let off : marks v f.key ≡ false = false_from_ne_true (marks v f.key) (λ on. f.dead (exact.sound f.key on)) in
      λ i. marked i && (keyed i && (ap (names_dead (marks v)) slot ∙ ap not off) i)

-- ---- the group

module _ (a : View) (fired : ℕ) (b : View) (x : FiresFirst (length a.stack) a fired b) where
  pub graph_fired : x.group ≢ [] → heap_graph b ≡ fire (heap_graph a) x.group
  graph_fired some =
      let nodes : (heap_graph b).nodes ≡ map_nodes (mourning x.group) (heap_graph a).nodes = nodes_mapped a b x.stays.ordinary (mourning x.group) (λ t on. x.nodes t) in
      let groups = x.mourners ∙ some_behind (heap_graph a).mourners x.group some in
      x.stays.graph ∙ (λ i. record (heap_graph a) { nodes = nodes i; mourners = groups i })

  module _ (exact : Decides (marks a) (Live (heap_graph a) none)) (progress : Progress (heap_graph a) none (marks a) a.stack) where
    -- what dies stands on the stack, since its key is one of its values
    stacked : (t : ℕ) → dies a t ≡ true → Contains a.stack t
    stacked t on =
        let parts = dies_parts a t on in
        let key = key_among a t parts.1 in
        elim (progress.keyed t key.0 (node_in a t) parts.0 refl (get_there a t (dies_ordinary a t on)) (waits_parts a t parts.1).0 key.1) [
          | inl c ↦ c
          | inr live ↦ absurd (true≢false (sym live ∙ key.2))
        ]

    pub names_fired : IsListOf (Fires (heap_graph a) none) x.group
    names_fired = record {
      apart = x.apart;
      all = λ t fires.
          let on = fires_dies a exact t fires in
          let (k, l, e) = stacked t on in
          let here : slice_index a.stack k ≡ t = sym (get_or_default a.stack k t 0 l) ∙ e in
          subst (Contains x.group) here (x.all k l (ap (waits a) here ∙ (dies_parts a t on).1));
      only = λ t among.
          let o = x.only t among in
          let marked = progress.marking.stacked t o.0 in
          dies_fires a exact t (λ i. marked i && o.1 i);
    }

    pub progress_goes_on : x.group ≢ [] → Progress (heap_graph b) none (marks b) b.stack
    progress_goes_on some =
        let now : Progress (fire (heap_graph a) x.group) none (marks a) a.stack = progress_fired (heap_graph a) x.group (marks a) a.stack (λ t among. (x.only t among).0) progress in
        let stack = fires_stack (length a.stack) a fired b x in
        let bits : ◌≡◌ {A = ℕ → Bool} (marks b) (marks a) = λ i t. fires_marks (length a.stack) a fired b x t i in
        subst (λ (g : Graph). Progress g none (marks b) b.stack) (sym (graph_fired some))
        (subst (λ (m : ℕ → Bool). Progress (fire (heap_graph a) x.group) none m b.stack) (sym bits) (subst (λ (ss : List ℕ). Progress (fire (heap_graph a) x.group) none (marks a) ss) (sym stack) now))
