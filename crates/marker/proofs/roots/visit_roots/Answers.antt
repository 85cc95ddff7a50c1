use Rattle.std.proofs.Common.{◌∷◌, []}
use Rattle.marker.proofs.RootVisits.{visits_roots}
use Rattle.marker.proofs.roots.visit_roots.Goals as goal

pub returns : goal.returns
returns c = record {
  visits = visits_roots c.args.heap.now (c.nil.result ∷ c.no.result ∷ c.yes.result ∷ c.special-special.result ∷ []) (λ x. c.nil.ensures.word x ∷ c.no.ensures.word x ∷ c.yes.ensures.word x ∷ c.special-special.ensures.word x ∷ [])
      c.whole.ensures.whole c.visit_all.new.heap c.visit_handles.new.heap c.visit_mourners.new.heap c.visit_classes.new.heap c.visit_all.ensures.visits c.visit_handles.ensures.visits c.visit_mourners.ensures.visits c.visit_classes.ensures.visits;
}
