use Rattle.std.proofs.Common.{arith}
use Rattle.marker.specs.Roots.{NamedByHandle}
use Rattle.marker.proofs.Keeping.{keeps_back, one_fewer, same_starts}
use Rattle.marker.proofs.Visiting.{visits_every}
use Rattle.marker.proofs.RootVisits.{by_handle, visits_handle}
use Rattle.marker.proofs.roots.visit_handles.Goals as goal

pub handles-smaller : goal.handles-smaller
handles-smaller c =
    let visits = c.visit.ensures.visits in
    let leads = c.in-Some.ensures.unmarked in
    let less = one_fewer c.handles.heap c.visit.new.heap c.whole.ensures.whole (same_starts visits.keeps) visits.scanned.keeps leads.start leads.ordinary leads.off (visits.scanned.all leads.start leads.value) in
    omega (arith, less)

pub handles-preserved : goal.handles-preserved
handles-preserved c = record { visits = visits_handle c.args.heap.now c.handles.heap c.visit.new.heap c.in-Some.word c.in-Some.ensures.held c.handles.invariant.visits c.visit.ensures.visits }

pub returns : goal.returns
returns c = record {
  visits = visits_every (NamedByHandle c.args.heap.now) c.args.heap.now c.handles.heap c.handles.invariant.visits (λ t n. c.in_default.ensures.none t (by_handle (keeps_back c.handles.invariant.visits.keeps) t n));
}
