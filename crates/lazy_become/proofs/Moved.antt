-- Two objects that were copied are forwarded to the copies: that is their exchange, up to names.
use Rattle.std.proofs.Common.{◌≡◌, ◌≢◌, ℕ, false, refl, sym, ap, ◌∙◌, None, arith}
use Rattle.std.proofs.lemmas.Bool.{false≢true}
use Rattle.std.proofs.lemmas.Option.{none-some}
use Rattle.std.specs.FinMap.{get}
use Rattle.spur_graph.specs.Node.{Node}
use Rattle.spur_graph.specs.Graph.{Graph, IsClosed, node, with_node}
use Rattle.spur_graph.specs.Refusals.{is_special, waits}
use Rattle.spur_graph.specs.Become.{redirect, room_redirected}
use Rattle.spur_graph.specs.Heaps.{View, IsWhole, heap_graph, heap_room}
use Rattle.spur_heap.specs.Views.{IsOrdinary, node_in}
use Rattle.spur_heap.specs.Forwarders.{KeepsClass, KeepsMourner, led_to}
use Rattle.spur_heap.proofs.NodesAt.{node_there}
use Rattle.lazy_become.specs.Rows.{CanMoveOut}
use Rattle.lazy_become.specs.Copying.{CopiesBoth}
use Rattle.lazy_become.proofs.NodesThen.{node_beside, node_here, node_other, hash_led, waits_led}
use Rattle.lazy_become.proofs.Copies.{old_is_not_fresh}

-- two objects that may be exchanged were copied
pub record Copied (v t : View) (a b c d : ℕ) : Type 0 where
  pub whole : IsWhole v
  pub closed : IsClosed (heap_graph v)
  pub there_a : IsOrdinary v a
  pub there_b : IsOrdinary v b
  pub can : CanMoveOut v a b
  pub copies : CopiesBoth v t a b c d

-- an object became a forwarder
pub record Leads (u w : View) (a c : ℕ) : Type 0 where
  pub written : w ≡ led_to u a c
  pub graph : heap_graph w ≡ redirect (heap_graph u) a c
  pub room : heap_room w ≡ room_redirected (heap_room u) a c
  pub ordinary : (s : ℕ) → s ≢ a → IsOrdinary u s → IsOrdinary w s

module _ {v t : View} {a b c d : ℕ} (k : Copied v t a b c d) where
  abbrev g : Graph
  g = heap_graph v

  pub a_c : a ≢ c
  a_c = old_is_not_fresh v a c k.there_a (k.copies).fresh_first

  pub a_d : a ≢ d
  a_d = old_is_not_fresh v a d k.there_a (k.copies).fresh_second

  pub b_c : b ≢ c
  b_c = old_is_not_fresh v b c k.there_b (k.copies).fresh_first

  pub b_d : b ≢ d
  b_d = old_is_not_fresh v b d k.there_b (k.copies).fresh_second

  pub d_a : d ≢ a
  d_a e = a_d (sym e)

  pub b_a : b ≢ a
  b_a e = (k.can).apart (sym e)

  -- nil is none of the copies
  is_nil : (q : ℕ) → get g.nodes q ≡ None → q ≢ g.nil
  is_nil q fresh e = let nil = k.closed.names 0 0 (omega arith) g.nil refl in none-some nil.0 (sym fresh ∙ ap (get g.nodes) e ∙ nil.1)

  abbrev first_copy : Node
  first_copy = record (node g b) { hash = (node g a).hash }

  abbrev second_copy : Node
  second_copy = record (node g a) { hash = (node g b).hash }

  -- the nodes with both copies
  copied_other : (q : ℕ) → q ≢ c → q ≢ d → node (heap_graph t) q ≡ node g q
  copied_other q nc nd = ap (λ h. node h q) (k.copies).graph ∙ node_beside g c d first_copy second_copy q nc nd

  copied_first : node (heap_graph t) c ≡ first_copy
  copied_first = ap (λ h. node h c) (k.copies).graph ∙ node_other (with_node g c first_copy) d second_copy c (k.copies).apart ∙ node_here g c first_copy

  copied_second : node (heap_graph t) d ≡ second_copy
  copied_second = ap (λ h. node h d) (k.copies).graph ∙ node_here (with_node g c first_copy) d second_copy

  -- ---- the first is forwarded

  pub there_a_t : IsOrdinary t a
  there_a_t = (k.copies).ordinary a k.there_a

  pub plain_a : is_special (heap_graph t) a ≡ false
  plain_a = ap (λ h. is_special h a) (k.copies).graph ∙ (k.can).plain.0

  pub class_a : KeepsClass t a c
  class_a entered = (
    ap (λ (n : Node). n.hash) (sym (node_there t c (k.copies).there_first) ∙ copied_first) ∙ sym (ap (λ (n : Node). n.hash) (sym (node_there t a there_a_t) ∙ copied_other a a_c a_d)),
    λ e. is_nil c (k.copies).fresh_first (e ∙ ap (λ (h : Graph). h.nil) (k.copies).graph),
  )

  pub mourner_a : KeepsMourner t a c
  mourner_a waiting = absurd (false≢true (sym (k.can).awake.0 ∙ sym (ap (λ h. waits h a) (k.copies).graph) ∙ waiting))

  -- ---- the second is forwarded

  module _ {u : View} (one : Leads t u a c) where
    pub there_b_u : IsOrdinary u b
    there_b_u = one.ordinary b b_a ((k.copies).ordinary b k.there_b)

    pub there_d_u : IsOrdinary u d
    there_d_u = one.ordinary d d_a (k.copies).there_second

    pub plain_b : is_special (heap_graph u) b ≡ false
    plain_b = ap (λ h. is_special h b) one.graph ∙ ap (λ h. is_special h b) (k.copies).graph ∙ (k.can).plain.1

    hash_then : (q : ℕ) → IsOrdinary u q → q ≢ a → (node_in u q).hash ≡ (node (heap_graph t) q).hash
    hash_then q there other = ap (λ (n : Node). n.hash) (sym (node_there u q there) ∙ ap (λ h. node h q) one.graph) ∙ hash_led (heap_graph t) a c q other

    pub class_b : KeepsClass u b d
    class_b entered = (
      hash_then d there_d_u d_a ∙ ap (λ (n : Node). n.hash) copied_second ∙ sym (hash_then b there_b_u b_a ∙ ap (λ (n : Node). n.hash) (copied_other b b_c b_d)),
      λ e. is_nil d (k.copies).fresh_second (e ∙ ap (λ (h : Graph). h.nil) one.graph ∙ ap (λ (h : Graph). h.nil) (k.copies).graph),
    )

    pub mourner_b : KeepsMourner u b d
    mourner_b waiting = absurd (false≢true (
        sym (k.can).awake.1 ∙ sym (ap (λ h. waits h b) (k.copies).graph) ∙ sym (waits_led (heap_graph t) a c b b_a b_c) ∙ sym (ap (λ h. waits h b) one.graph) ∙ waiting))
