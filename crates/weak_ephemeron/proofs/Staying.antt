-- Heaps whose names and marks stay.
use Rattle.std.proofs.Common.{◌≡◌, ◌≢◌, ℕ, Bool, true, false, cond, ◌&&◌, refl, sym, ap, ◌∙◌, inl, inr, Some}
use Rattle.std.proofs.lemmas.Bool.{cases_eq, eq-eqb, ne_eqb}
use Rattle.std.specs.Cmp.{nat_cmp_total}
use Rattle.std.specs.FinMap.{get, get-insert}
use Rattle.spur_graph.specs.Graph.{Graph, with_node}
use Rattle.spur_graph.specs.Node.{Node}
use Rattle.spur_graph.specs.Cells.{Body, Store, is_moved, is_there, body_of}
use Rattle.spur_graph.specs.Ordinary.{body_at, is_good_word, is_ordinary, ordinary_starts}
use Rattle.spur_graph.specs.CellGraph.{node_of, read}
use Rattle.spur_graph.specs.Heaps.{View, heap_graph, heap_room, is_marked, own_name}
use Rattle.heap_cells.proofs.CellKinds.{there_starts}
use Rattle.heap_cells.proofs.Finding.{same_key}
use Rattle.heap_cells.proofs.References.{ordinary_there}
use Rattle.spur_heap.specs.MarkBits.{marks}
use Rattle.spur_heap.specs.Views.{IsOrdinary, node_in, store}
use Rattle.spur_heap.specs.Words.{starts_at}
use Rattle.spur_heap.proofs.FollowedWords.{starts_by}
use Rattle.spur_heap.proofs.NodesAt.{get_there}
use Rattle.spur_heap.proofs.Graphs.{node-same, read-same, starts-same}
use Rattle.spur_heap.proofs.InPlace.{cell-other, changed, moved-same, there-same}
use Rattle.spur_heap.proofs.Swap.{Swap, good-same, ordinary-same}
use Rattle.weak_ephemeron.specs.Stays.{Stays}
use Rattle.weak_ephemeron.specs.Steps.{HasNodeAt}

pub stays_same : (v : View) → Stays v v
stays_same v = record {
  graph = refl;
  room = refl;
  values = λ w. refl;
  goods = λ w. refl;
  ordinary = λ s. refl;
  objects = λ s. refl;
  forwarders = λ s. refl;
  starts = refl;
  marks = λ s e. refl;
  rest = refl;
}

pub stays_then : {a b c : View} → Stays a b → Stays b c → Stays a c
stays_then {a} {b} {c} k l = record {
  graph = l.graph ∙ ap (λ (g : Graph). record g { nodes = (heap_graph c).nodes; mourners = (heap_graph c).mourners }) k.graph;
  room = l.room ∙ k.room;
  values = λ w. l.values w ∙ k.values w;
  goods = λ w. l.goods w ∙ k.goods w;
  ordinary = λ s. l.ordinary s ∙ k.ordinary s;
  objects = λ s. l.objects s ∙ k.objects s;
  forwarders = λ s. l.forwarders s ∙ k.forwarders s;
  starts = l.starts ∙ k.starts;
  marks = λ s e. l.marks s (starts_by ((store b).cell s) ((store a).cell s) (k.objects s) (k.forwarders s) e) ∙ k.marks s e;
  rest = l.rest ∙ ap (λ (v : View). record v { words = c.words; mourners = c.mourners }) k.rest;
}

pub stays_marks : {a b : View} → Stays a b → (s : ℕ) → marks b s ≡ marks a s
stays_marks {a} {b} k s = ap (λ o. o && is_marked b.words s) (k.ordinary s) ∙ bits (is_ordinary (store a) s) refl
  where
    bits : (o : Bool) → is_ordinary (store a) s ≡ o → (o && is_marked b.words s) ≡ (o && is_marked a.words s)
    bits false is = refl
    bits true is = k.marks s (there_starts ((store a).cell s) (ordinary_there (store a) s is))

-- an object is another in its place
module _ (v new : View) {h : Store} {s : ℕ} {b : Body} {b' : Body} (k : Swap h s b b') (was : h ≡ store v) (is : store new ≡ changed h s b') where
  pub stays_changed : heap_graph new ≡ record (heap_graph v) { nodes = (heap_graph new).nodes; mourners = (heap_graph new).mourners } → heap_room new ≡ heap_room v → ((t : ℕ) → starts_at v t ≡ true → is_marked new.words t ≡ is_marked v.words t)
      → new ≡ record v { words = new.words; mourners = new.mourners } → Stays v new
  stays_changed graph room bits rest = record {
    graph = graph;
    room = room;
    values = λ w. ap (λ (x : Store). read own_name x w) is ∙ read-same k w ∙ ap (λ (x : Store). read own_name x w) was;
    goods = λ w. ap (λ (x : Store). is_good_word x w) is ∙ good-same k w ∙ ap (λ (x : Store). is_good_word x w) was;
    ordinary = λ t. ap (λ (x : Store). is_ordinary x t) is ∙ ordinary-same k t ∙ ap (λ (x : Store). is_ordinary x t) was;
    objects = λ t. ap (λ (x : Store). is_there (x.cell t)) is ∙ there-same k.place t ∙ ap (λ (x : Store). is_there (x.cell t)) was;
    forwarders = λ t. ap (λ (x : Store). is_moved (x.cell t)) is ∙ moved-same k.place t ∙ ap (λ (x : Store). is_moved (x.cell t)) was;
    starts = ap (λ (x : Store). ordinary_starts x) is ∙ starts-same k ∙ ap (λ (x : Store). ordinary_starts x) was;
    marks = bits;
    rest = rest;
  }

  pub node_other : (t : ℕ) → t ≢ s → node_in new t ≡ node_in v t
  node_other t n =
      ap (λ (x : Store). node_of own_name x (body_at x t)) is
      ∙ node-same k (body_at (changed h s b') t)
      ∙ ap (λ c. node_of own_name h (body_of c)) (cell-other k.place t n)
      ∙ ap (λ (x : Store). node_of own_name x (body_at x t)) was

same_some : {a b : Node} → Some a ≡ Some b → a ≡ b
same_some e = cc

-- an object has another node
pub nodes_by_graph : (v new : View) (s : ℕ) (n : Node) → IsOrdinary v s → Stays v new → heap_graph new ≡ record (with_node (heap_graph v) s n) { mourners = (heap_graph new).mourners } → ((t : ℕ) → t ≢ s → node_in new t ≡ node_in v t) → HasNodeAt s n v new
nodes_by_graph v new s n there stays graph others t = elim (cases_eq t s) [
  | inl e ↦
      let now : IsOrdinary new s = stays.ordinary s ∙ there in
      let got : get (heap_graph new).nodes s ≡ Some n =
      ap (λ (g : Graph). get g.nodes s) graph ∙ get-insert nat_cmp_total (heap_graph v).nodes s n s ∙ ap (λ b. cond b (Some n) (get (heap_graph v).nodes s)) (same_key s s refl) in
      ap (node_in new) e ∙ same_some (sym (get_there new s now) ∙ got) ∙ sym (ap (λ b. cond b n (node_in v t)) (eq-eqb t s e))
  | inr other ↦ others t other ∙ sym (ap (λ b. cond b n (node_in v t)) (ne_eqb t s other))
]
