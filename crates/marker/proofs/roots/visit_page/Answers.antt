use Rattle.std.proofs.Common.{◌≡◌, sym, ◌∙◌, subst, arith}
use Rattle.spur_graph.specs.Ordinary.{page_entries}
use Rattle.marker.specs.Roots.{NamedByEntry}
use Rattle.marker.specs.Visits.{Among, Visits}
use Rattle.marker.proofs.RootVisits.{visits_entry}
use Rattle.marker.proofs.roots.visit_page.Goals as goal

pub entries-preserved : goal.entries-preserved
entries-preserved c = record {
  visits = visits_entry c.args.heap.now c.entries.heap c.visit.new.heap c.args.first c.entries.i c.class_at-word.result (sym c.has_page.ensures ∙ c.if-not-has_page.false) c.entries.invariant.visits
      c.class_at-word.ensures.class c.visit.ensures.visits;
}

pub returns : goal.returns
returns c =
    let end : c.entries.i ≡ page_entries = omega (arith, c.entries-test.false, c.entries.auto.i-end) in
    record { visits = subst (λ k. Visits (Among (NamedByEntry c.args.heap.now c.args.first) k) c.args.heap.now c.entries.heap) end c.entries.invariant.visits }
