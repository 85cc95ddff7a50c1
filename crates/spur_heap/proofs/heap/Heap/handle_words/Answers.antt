use Rattle.std.proofs.Common.{slice_index, ap, ◌∙◌, sym, subst}
use Rattle.std.specs.FinMap.{get}
use Rattle.spur_graph.specs.Heaps.{View}
use Rattle.spur_heap.specs.Views.{IsGood}
use Rattle.spur_heap.proofs.heap.Heap.handle_words.Goals as goal

pub returns-clause-each : goal.returns-clause-each
returns-clause-each c i within =
    let a = c.words.ensures.each i within in
    (a.0, ap (λ (v : View). get v.handles a.0) (sym c.self.view_is) ∙ a.1)

pub returns-clause-good : goal.returns-clause-good
returns-clause-good c i within =
    let a = c.words.ensures.each i within in
    subst (λ (v : View). IsGood v (slice_index c.words.result.now i)) c.self.view_is (c.self.invariant.whole.held a.0 (slice_index c.words.result.now i) a.1)
