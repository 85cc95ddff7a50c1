-- An object that was forwarded to another, which may have got its hash before.
use Rattle.std.proofs.Common.{◌≡◌, ◌≢◌, ℕ, Bool, true, false, cond, nat_eq, get_or, refl, sym, ap, ◌∙◌, subst}
use Rattle.std.proofs.lemmas.Bool.{false≢true, ne_eqb}
use Rattle.spur_graph.specs.declared.answer.Value.{Value}
use Rattle.spur_graph.specs.declared.answer.Value.TheVariants.{Ref}
use Rattle.spur_graph.specs.Value.{name_of}
use Rattle.spur_graph.specs.Graph.{Graph, IsClosed, node, with_node}
use Rattle.spur_graph.specs.Instances.{has_entered}
use Rattle.spur_graph.specs.Refusals.{is_classed, is_special, waits}
use Rattle.spur_graph.specs.Become.{hand_hash, redirect, forwarded}
use Rattle.spur_graph.specs.Heaps.{View, IsWhole, heap_graph}
use Rattle.spur_graph.proofs.Classed.{classed_is_entered}
use Rattle.spur_heap.specs.Views.{IsOrdinary}
use Rattle.spur_heap.specs.Forwarders.{KeepsClass, KeepsMourner, led_to}
use Rattle.lazy_become.specs.Writes.{ForwardWrites}
use Rattle.lazy_become.proofs.Chunked.{outside_apart}
use Rattle.lazy_become.proofs.Led.{led_elsewhere}
use Rattle.lazy_become.proofs.NodesThen.{entered_other}

-- the graph once the hash was handed on, if it is
abbrev pub handed : Graph → ℕ → ℕ → Bool → Graph
handed g a b with_hash = cond with_hash (hand_hash g a b) g

-- the heap where the other object got the hash, or where nothing was done
pub record Hands (v u : View) (a b : ℕ) (with_hash : Bool) : Type 0 where
  pub graph : heap_graph u ≡ handed (heap_graph v) a b with_hash
  pub ordinary : (s : ℕ) → IsOrdinary v s → IsOrdinary u s
  pub others : (j : ℕ) → (with_hash ≡ true → j ≢ b) → get_or u.words j 0 ≡ get_or v.words j 0

pub hands : (v mid u : View) (a b : ℕ) (with_hash : Bool) → with_hash ≡ true → u ≡ mid → heap_graph mid ≡ hand_hash (heap_graph v) a b
    → ((s : ℕ) → IsOrdinary v s → IsOrdinary mid s) → ((j : ℕ) → j ≢ b → get_or mid.words j 0 ≡ get_or v.words j 0) → Hands v u a b with_hash
hands v mid u a b with_hash on same graph ordinary others = record {
  graph = ap heap_graph same ∙ graph ∙ sym (ap (λ t. cond t (hand_hash (heap_graph v) a b) (heap_graph v)) on);
  ordinary = λ s there. subst (λ (w : View). IsOrdinary w s) (sym same) (ordinary s there);
  others = λ j other. ap (λ (w : View). get_or w.words j 0) same ∙ others j (other on);
}

pub keeps : (v u : View) (a b : ℕ) (with_hash : Bool) → with_hash ≡ false → u ≡ v → Hands v u a b with_hash
keeps v u a b with_hash off same = record {
  graph = ap heap_graph same ∙ sym (ap (λ t. cond t (hand_hash (heap_graph v) a b) (heap_graph v)) off);
  ordinary = λ s there. subst (λ (w : View). IsOrdinary w s) (sym same) there;
  others = λ j other. ap (λ (w : View). get_or w.words j 0) same;
}

-- the name that is forwarded is an entered class, or waits, as it did before
module _ (g : Graph) (a b : ℕ) (apart : a ≢ b) where
  entered_as : (with_hash none : Bool) → has_entered (cond with_hash (cond none g (with_node g b (record (node g b) { hash = (node g a).hash }))) g) a ≡ has_entered g a
  entered_as true true = refl
  entered_as true false = entered_other g b (record (node g b) { hash = (node g a).hash }) a apart
  entered_as false none = refl

  waits_as : (with_hash none : Bool) → waits (cond with_hash (cond none g (with_node g b (record (node g b) { hash = (node g a).hash }))) g) a ≡ waits g a
  waits_as true true = refl
  waits_as true false = refl
  waits_as false none = refl

-- and so nil, false and true are as before
special_as : (g : Graph) (a b : ℕ) (with_hash none : Bool) → is_special (cond with_hash (cond none g (with_node g b (record (node g b) { hash = (node g a).hash }))) g) a ≡ is_special g a
special_as g a b true true = refl
special_as g a b true false = refl
special_as g a b false none = refl

module _ (v u : View) (a b : ℕ) (with_hash : Bool) (apart : a ≢ b) (k : Hands v u a b with_hash) where
  abbrev g : Graph
  g = heap_graph v

  pub keeps_class : IsClosed g → is_classed g a ≡ false → KeepsClass u a b
  keeps_class closed unclassed entered = absurd (false≢true (
      sym unclassed ∙ classed_is_entered g closed a ∙ sym (entered_as g a b apart with_hash (nat_eq (node g a).hash 0))
      ∙ sym (ap (λ h. has_entered h a) k.graph) ∙ entered))

  pub stays_plain : is_special g a ≡ false → is_special (heap_graph u) a ≡ false
  stays_plain plain = ap (λ h. is_special h a) k.graph ∙ special_as g a b with_hash (nat_eq (node g a).hash 0) ∙ plain

  pub keeps_mourner : waits g a ≡ false → KeepsMourner u a b
  keeps_mourner awake waiting = absurd (false≢true (
      sym awake ∙ sym (waits_as g a b apart with_hash (nat_eq (node g a).hash 0)) ∙ sym (ap (λ h. waits h a) k.graph) ∙ waiting))

  -- the values lead to the two
  module _ (w : View) (x y : Value) (is_a : x ≡ Ref a) (is_b : y ≡ Ref b) where
    pub graph_forwarded : heap_graph w ≡ redirect (heap_graph u) a b → heap_graph w ≡ forwarded g (name_of x) (name_of y) with_hash
    graph_forwarded graph =
        graph ∙ ap (λ h. redirect h a b) k.graph
        ∙ sym (ap (λ t. cond t g (redirect (handed g a b with_hash) a b)) (ne_eqb a b apart))
        ∙ sym (λ i. forwarded g (name_of (is_a i)) (name_of (is_b i)) with_hash)

    writes : IsWhole v → IsOrdinary v a → w ≡ led_to u a b → ForwardWrites v w a b with_hash
    writes whole there led = record {
      one = λ e. absurd (apart e);
      moved = λ j out other. ap (λ (t : View). get_or t.words j 0) led ∙ led_elsewhere u a b j (outside_apart v whole a j there out) ∙ k.others j other;
    }

    pub words_forwarded : IsWhole v → IsOrdinary v a → w ≡ led_to u a b → ForwardWrites v w (name_of x) (name_of y) with_hash
    words_forwarded whole there led = subst (λ n. n) (sym (λ i. ForwardWrites v w (name_of (is_a i)) (name_of (is_b i)) with_hash)) (writes whole there led)
