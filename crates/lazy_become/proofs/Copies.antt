-- Two objects that are made side by side take the contents of two others, each with the hash of the other.
use Rattle.std.proofs.Common.{◌≡◌, ◌≢◌, ◌⊎◌, ◌+◌, ◌<◌, ◌≤◌, ℕ, List, length, get_or, refl, sym, ap, ◌∙◌, subst, None}
use Rattle.std.proofs.lemmas.Option.{none-some}
use Rattle.std.specs.List.{Contains}
use Rattle.std.specs.FinMap.{get}
use Rattle.object_header.specs.Chunks.{Chunk}
use Rattle.spur_graph.specs.Node.{Node}
use Rattle.spur_graph.specs.Graph.{Graph, IsClosed, node, with_node}
use Rattle.spur_graph.specs.Cells.{Body}
use Rattle.spur_graph.specs.Room.{placed}
use Rattle.spur_graph.specs.Serve.{Anywhere, serve}
use Rattle.spur_graph.specs.Spaces.{Spaces}
use Rattle.spur_graph.specs.Instances.{has_entered}
use Rattle.spur_graph.specs.Refusals.{waits}
use Rattle.spur_graph.specs.Heaps.{View, IsWhole, chunks_of, heap_graph, heap_room}
use Rattle.spur_heap.specs.Views.{IsOrdinary, IsOutsideFree, node_in}
use Rattle.spur_heap.specs.Outside.{IsOutside, IsOutsideEden}
use Rattle.spur_heap.specs.Exchanging.{CanTake}
use Rattle.spur_heap.specs.Pairing.{MakesPair, blank_node}
use Rattle.spur_heap.proofs.NodesAt.{get_there, node_there}
use Rattle.lazy_become.specs.Rows.{CanMoveOut}
use Rattle.lazy_become.specs.Copying.{CopiesBoth}
use Rattle.lazy_become.proofs.Chunked.{slots_kept}
use Rattle.lazy_become.proofs.NodesThen.{node_beside, node_other, unentered_here, entered_other, overwritten, fresh_awake}
use Rattle.lazy_become.proofs.Pieces.{HasSlots, asked}
use Rattle.lazy_become.proofs.Tables.{tables_on}

-- a name that has an object is none that has none
pub old_is_not_fresh : (v : View) (a c : ℕ) → IsOrdinary v a → get (heap_graph v).nodes c ≡ None → a ≢ c
old_is_not_fresh v a c there fresh e = none-some (node_in v a) (sym fresh ∙ ap (get (heap_graph v).nodes) (sym e) ∙ get_there v a there)

-- two objects were made that have room for the contents
pub record Makes (v u : View) (a b c d m n : ℕ) : Type 0 where
  pub closed : IsClosed (heap_graph v)
  pub there_a : IsOrdinary v a
  pub there_b : IsOrdinary v b
  pub can : CanMoveOut v a b
  pub slots : HasSlots v a b m n
  pub pair : MakesPair v u n m c d

-- contents were copied
pub record Copies (u w : View) (from to hash : ℕ) : Type 0 where
  pub graph : heap_graph w ≡ with_node (heap_graph u) to (record (node_in u from) { hash = hash })
  pub room : heap_room w ≡ heap_room u
  pub ordinary : (s : ℕ) → IsOrdinary u s → IsOrdinary w s
  pub others : (j : ℕ) → IsOutside u to j → get_or w.words j 0 ≡ get_or u.words j 0
  pub chunks : chunks_of w ≡ chunks_of u
  pub rest : w ≡ record u { words = w.words }

module _ {v u : View} {a b c d m n : ℕ} (k : Makes v u a b c d m n) where
  abbrev g : Graph
  g = heap_graph v

  abbrev x : Node
  x = blank_node g n

  abbrev y : Node
  y = blank_node g m

  a_c : a ≢ c
  a_c = old_is_not_fresh v a c k.there_a (k.pair).fresh_first

  a_d : a ≢ d
  a_d = old_is_not_fresh v a d k.there_a (k.pair).fresh_second

  b_c : b ≢ c
  b_c = old_is_not_fresh v b c k.there_b (k.pair).fresh_first

  b_d : b ≢ d
  b_d = old_is_not_fresh v b d k.there_b (k.pair).fresh_second

  -- the node of an object is as before
  made_other : (q : ℕ) → q ≢ c → q ≢ d → node (heap_graph u) q ≡ node g q
  made_other q nc nd = ap (λ h. node h q) (k.pair).graph ∙ node_beside g c d x y q nc nd

  there_a_u : IsOrdinary u a
  there_a_u = (k.pair).ordinary a k.there_a

  there_b_u : IsOrdinary u b
  there_b_u = (k.pair).ordinary b k.there_b

  node_b : node_in u b ≡ node g b
  node_b = sym (node_there u b there_b_u) ∙ made_other b b_c b_d

  pub first_can : CanTake u b c
  first_can = record {
    apart = b_c;
    slots = ap (λ (body : Body). length body.words) ((k.pair).bodies b k.there_b) ∙ sym (k.slots).second ∙ sym (k.pair).slots_first;
    mobile = ap (λ (o : Node). o.pinned) node_b ∙ (k.can).mobile.1;
    unentered = ap (λ h. has_entered h c) (k.pair).graph ∙ entered_other (with_node g c x) d y c (k.pair).apart ∙ unentered_here g c x refl;
    awake = ap (λ h. waits h c) (k.pair).graph ∙ fresh_awake g k.closed c (k.pair).fresh_first;
  }

  module _ {w : View} {h : ℕ} (one : Copies u w b c h) (is : h ≡ (node_in v a).hash) (whole_u : IsWhole u) (whole_w : IsWhole w) where
    abbrev first_copy : Node
    first_copy = record (node g b) { hash = (node g a).hash }

    first_graph : heap_graph w ≡ with_node (heap_graph u) c first_copy
    first_graph =
        one.graph
        ∙ (λ i. with_node (heap_graph u) c (record (node_b i) { hash = (is ∙ sym (ap (λ (o : Node). o.hash) (node_there v a k.there_a))) i }))

    pub there_a_w : IsOrdinary w a
    there_a_w = one.ordinary a there_a_u

    pub there_d_w : IsOrdinary w d
    there_d_w = one.ordinary d (k.pair).there_second

    node_a : node_in w a ≡ node g a
    node_a = sym (node_there w a there_a_w) ∙ ap (λ o. node o a) first_graph ∙ node_other (heap_graph u) c first_copy a a_c ∙ made_other a a_c a_d

    d_c : d ≢ c
    d_c e = (k.pair).apart (sym e)

    pub second_can : CanTake w a d
    second_can = record {
      apart = a_d;
      slots =
          slots_kept u w whole_u whole_w one.chunks a there_a_u there_a_w
          ∙ ap (λ (body : Body). length body.words) ((k.pair).bodies a k.there_a) ∙ sym (k.slots).first ∙ sym (k.pair).slots_second
          ∙ sym (slots_kept u w whole_u whole_w one.chunks d (k.pair).there_second there_d_w);
      mobile = ap (λ (o : Node). o.pinned) node_a ∙ (k.can).mobile.0;
      unentered =
          ap (λ o. has_entered o d) first_graph ∙ entered_other (heap_graph u) c first_copy d d_c
          ∙ ap (λ o. has_entered o d) (k.pair).graph ∙ unentered_here (with_node g c x) d y refl;
      awake = ap (λ o. waits o d) one.graph ∙ ap (λ o. waits o d) (k.pair).graph ∙ fresh_awake g k.closed d (k.pair).fresh_second;
    }

    module _ {t : View} {l : ℕ} (two : Copies w t a d l) (is_other : l ≡ (node_in v b).hash) where
      abbrev second_copy : Node
      second_copy = record (node g a) { hash = (node g b).hash }

      second_graph : heap_graph t ≡ with_node (with_node g c first_copy) d second_copy
      second_graph =
          two.graph
          ∙ (λ i. with_node (first_graph i) d (record (node_a i) { hash = (is_other ∙ sym (ap (λ (o : Node). o.hash) (node_there v b k.there_b))) i }))
          ∙ ap (λ o. with_node (with_node o c first_copy) d second_copy) (k.pair).graph
          ∙ overwritten g c d x y first_copy second_copy

      others_kept : (j : ℕ) → IsOutsideFree v j → IsOutsideEden v t j → get_or t.words j 0 ≡ get_or v.words j 0
      others_kept j free eden =
          let spaces : t.spaces ≡ u.spaces = ap (λ (o : View). o.spaces) two.rest ∙ ap (λ (o : View). o.spaces) one.rest in
          let behind : IsOutsideEden v u j = subst (λ (s : Spaces). (j < v.spaces.eden_at + v.spaces.eden_used) ⊎ (v.spaces.eden_at + s.eden_used ≤ j)) spaces eden in
          let out = (k.pair).inside j free behind in
          two.others j (λ e among start. out.1 e (subst (λ (cs : List Chunk). Contains cs e) one.chunks among) start)
          ∙ one.others j out.0 ∙ (k.pair).others j free behind

      pub copies_both : CopiesBoth v t a b c d
      copies_both = record {
        served = (k.pair).served;
        serves = ap (serve Anywhere (heap_room v)) (asked v a b k.can k.slots) ∙ (k.pair).serves;
        apart = (k.pair).apart;
        fresh_first = (k.pair).fresh_first;
        fresh_second = (k.pair).fresh_second;
        graph = second_graph;
        room = two.room ∙ one.room ∙ (k.pair).room ∙ sym (λ i. placed (placed ((k.pair).served).room c ((k.slots).second_spot ((k.pair).served).space i)) d ((k.slots).first_spot ((k.pair).served).space i));
        there_first = two.ordinary c (one.ordinary c (k.pair).there_first);
        there_second = two.ordinary d there_d_w;
        ordinary = λ s there. two.ordinary s (one.ordinary s ((k.pair).ordinary s there));
        rest = tables_on v w t (tables_on v u w (k.pair).rest one.rest) two.rest;
        others = others_kept;
      }
