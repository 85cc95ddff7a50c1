-- The hash of an object, as it stands or drawn.
use Rattle.std.proofs.Common.{◌≡◌, ◌≢◌, ℕ, false, not, cond, eqb, ◌&&◌, ap, sym, ◌∙◌}
use Rattle.std.proofs.lemmas.Bool.{eq-eqb, ne_eqb}
use Rattle.std.specs.FinMap.{get}
use Rattle.spur_graph.specs.declared.answer.Value.{Value}
use Rattle.spur_graph.specs.declared.answer.Value.TheVariants.{Ref}
use Rattle.spur_graph.specs.Value.{name_of}
use Rattle.spur_graph.specs.Node.{Node}
use Rattle.spur_graph.specs.Graph.{Graph, node, with_node}
use Rattle.spur_graph.specs.Instances.{is_entry, has_entered}
use Rattle.spur_graph.specs.Hashes.{drawn, next_state, with_hash, hash_now, hashed}
use Rattle.spur_graph.specs.Heaps.{View, heap_graph}
use Rattle.spur_heap.specs.Views.{IsOrdinary, node_in}
use Rattle.spur_heap.proofs.NodesAt.{node_named, node_there}

-- of an object with a hash
pub hash_stands : (g : Graph) (a hash : ℕ) → (node g a).hash ≡ hash → hash ≢ 0 → hash ≡ hash_now g a
hash_stands g a hash is some = sym is ∙ sym (ap (λ b. cond b (drawn g.hash_state) (node g a).hash) (ne_eqb (node g a).hash 0 (λ e. some (sym is ∙ e))))

pub graph_stands : (g : Graph) (a hash : ℕ) → (node g a).hash ≡ hash → hash ≢ 0 → g ≡ hashed g a
graph_stands g a hash is some =
    sym (ap (λ b. cond b (let new : Graph = record (with_hash g a (drawn g.hash_state)) { hash_state = next_state g.hash_state } in new) g) (ne_eqb (node g a).hash 0 (λ e. some (sym is ∙ e))))

-- of an object without one
pub hash_drawn : (g : Graph) (a hash : ℕ) → (node g a).hash ≡ 0 → hash ≡ drawn g.hash_state → hash ≡ hash_now g a
hash_drawn g a hash none is = is ∙ sym (ap (λ b. cond b (drawn g.hash_state) (node g a).hash) (eq-eqb (node g a).hash 0 none))

pub graph_drawn : (g : Graph) (a hash : ℕ) → (node g a).hash ≡ 0 → hash ≡ drawn g.hash_state
    → record (with_node g a (record (node g a) { hash = hash })) { hash_state = next_state g.hash_state } ≡ hashed g a
graph_drawn g a hash none is =
    ap (λ h. let new : Graph = record (with_node g a (record (node g a) { hash = h })) { hash_state = next_state g.hash_state } in new) is
    ∙ sym (ap (λ b. cond b (let new : Graph = record (with_hash g a (drawn g.hash_state)) { hash_state = next_state g.hash_state } in new) g) (eq-eqb (node g a).hash 0 none))

-- what has no hash is no entered class, though the graph has another hash state
unentered : (v u : View) (s : ℕ) → IsOrdinary v s → (node_in v s).hash ≡ 0 → has_entered (heap_graph u) s ≡ has_entered (heap_graph v) s → has_entered (heap_graph u) s ≡ false
unentered v u s there none same =
    same ∙ ap (λ h. not (eqb h 0) && is_entry s (get (heap_graph v).classes h)) (ap (λ (n : Node). n.hash) (node_there v s there) ∙ none)

pub unentered_as : (v u : View) (s : ℕ) → IsOrdinary v s → (node_in v s).hash ≡ 0 → heap_graph u ≡ heap_graph v → has_entered (heap_graph u) s ≡ false
unentered_as v u s there none same = unentered v u s there none (ap (λ g. has_entered g s) same)

pub unentered_drawn : (v u : View) (s state : ℕ) → IsOrdinary v s → (node_in v s).hash ≡ 0 → u ≡ record v { hash = state } → has_entered (heap_graph u) s ≡ false
unentered_drawn v u s state there none drawn = unentered v u s there none (ap (λ (t : View). has_entered (heap_graph t) s) drawn)

-- the graph of a heap from which a hash was drawn, and that was given to an object
pub heap_drawn : (v u w : View) (s hash : ℕ) (x : Value) → IsOrdinary v s → x ≡ Ref s → (node_in v s).hash ≡ 0 → hash ≡ drawn v.hash → u ≡ record v { hash = next_state v.hash }
    → heap_graph w ≡ with_node (heap_graph u) s (record (node_in u s) { hash = hash }) → heap_graph w ≡ hashed (heap_graph v) (name_of x)
heap_drawn v u w s hash x there named none is state given =
    let g : Graph = heap_graph v in
    let a : ℕ = name_of x in
    let at : node g a ≡ node_in v s = node_named v s x there named in
    let name : a ≡ s = ap name_of named in
    given
    ∙ ap (λ (t : View). with_node (heap_graph t) s (record (node_in t s) { hash = hash })) state
    ∙ (λ i. let new : Graph = record (with_node g (sym name i) (record (sym at i) { hash = hash })) { hash_state = next_state g.hash_state } in new)
    ∙ graph_drawn g a hash (ap (λ (n : Node). n.hash) at ∙ none) is
