use Rattle.std.proofs.Common.{◌≤◌, ◌<◌, ℕ, subst}
use Rattle.std.specs.Prelude.{IfSome, IfNone}
use Rattle.spur_graph.specs.Heaps.{View}
use Rattle.spur_heap.specs.MarkBits.{StartsAt}
use Rattle.spur_heap.specs.Parts.{view_of}
use Rattle.spur_heap.proofs.Starting.{start_found, none_between, none_behind}
use Rattle.spur_heap.proofs.heap.Heap.next_start.Goals as goal

pub returns-clause-found : goal.returns-clause-found
returns-clause-found c =
    let k = c.self.invariant in
    subst (λ (v : View). IfSome c.next.result (λ s. (c.args.from ≤ s) × StartsAt v s)) c.self.view_is
    (start_found c.self.inside.parts.starts (view_of c.self.inside.parts) k.map.starts c.args.from c.next.result c.next.ensures.found)

pub returns-clause-first : goal.returns-clause-first
returns-clause-first c =
    let k = c.self.invariant in
    subst (λ (v : View). IfSome c.next.result (λ s. (k : ℕ) → c.args.from ≤ k → k < s → StartsAt v k → ⊥)) c.self.view_is
    (none_between c.self.inside.parts.starts (view_of c.self.inside.parts) k.map.starts c.args.from c.next.result c.next.ensures.first)

pub returns-clause-none : goal.returns-clause-none
returns-clause-none c =
    let k = c.self.invariant in
    subst (λ (v : View). IfNone c.next.result ((k : ℕ) → c.args.from ≤ k → StartsAt v k → ⊥)) c.self.view_is
    (none_behind c.self.inside.parts.starts (view_of c.self.inside.parts) k.map.starts c.args.from k.whole k.map.covers c.next.result c.next.ensures.none)
