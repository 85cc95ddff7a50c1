-- How many slots of a weak object are strong, as the heap tells it under its own names.
use Rattle.std.proofs.Common.{◌≡◌, ℕ, Bool, cond, eqb, ap, ◌∙◌}
use Rattle.std.specs.FinMap.{get}
use Rattle.spur_graph.specs.Node.{Node}
use Rattle.spur_graph.specs.Graph.{Graph, blank}
use Rattle.spur_graph.specs.Names.{Iso}
use Rattle.spur_graph.specs.Live.{fixed_of}
use Rattle.spur_graph.specs.Cells.{Body, Store, pointer_count}
use Rattle.spur_graph.specs.CellGraph.{nodes_of}
use Rattle.spur_graph.specs.Heaps.{graph_in}
use Rattle.heap_laws.specs.Placed.{Outside}
use Rattle.graph_laws.proofs.Living.{strong_count-renamed}
use Rattle.scavenge_laws.specs.Copying.{strong_slots, Copying}
use Rattle.scavenge_laws.specs.Ending.{Ending}
use Rattle.scavenge_laws.proofs.Collecting.{renamed}
use Rattle.scavenge_laws.proofs.Weak.{count-now}

-- a weak node of a class and nothing else
abbrev weak_of : ℕ → Node
weak_of class = record blank { class = class; format = 4 }

-- the class of an index tells as much in graphs that differ in names alone
fixed-renamed : {g h : Graph} {p back : ℕ → ℕ} → Iso g h p back → (class : ℕ) → fixed_of h (get h.classes class) ≡ fixed_of g (get g.classes class)
fixed-renamed k class = strong_count-renamed k (weak_of class)

pub slots-renamed : {g h : Graph} {p back : ℕ → ℕ} → Iso g h p back → (b : Body) → strong_slots h b ≡ strong_slots g b
slots-renamed k b i = cond (eqb b.format 4) (fixed-renamed k b.class i) (cond (eqb b.format 5) 0 (pointer_count b))

-- in the middle of a scavenge
pub strong_slots_own : {young : ℕ → Bool} {g : Graph} {further : ℕ → Bool} {h : Store} {o : Outside} {todo held : ℕ → Type 0} {p q : ℕ → ℕ} → Copying young g further h o todo held p q
    → (hash next : ℕ) (b : Body) → strong_slots (graph_in h o.special o.held o.groups hash next) b ≡ strong_slots g b
strong_slots_own {g} {h} {o} {q} c hash next b =
    slots-renamed (renamed c.heap c.places o hash g.next next c.good) b ∙ ap (λ (x : Graph). strong_slots x b) (λ i. record (c.same i) { hash_state = hash; next = g.next })

-- and at its end
pub strong_slots_end : {young : ℕ → Bool} {g : Graph} {live : ℕ → Bool} {h : Store} {o : Outside} {left : ℕ → Type 0} {count : ℕ} {p q : ℕ → ℕ} → Ending young g live h o left count p q
    → (hash next : ℕ) (b : Body) → strong_slots (graph_in h o.special o.held o.groups hash next) b ≡ strong_slots g b
strong_slots_end {g} {live} {h} {o} {q} c hash next b =
    slots-renamed (renamed c.heap c.places o hash g.next next c.good) b
    ∙ ap (λ (x : Graph). strong_slots x b) (λ i. record (c.rest i) { hash_state = hash; next = g.next })
    ∙ (λ i. cond (eqb b.format 4) (count-now g live (nodes_of q h) c.nodes (weak_of b.class) i) (cond (eqb b.format 5) 0 (pointer_count b)))
