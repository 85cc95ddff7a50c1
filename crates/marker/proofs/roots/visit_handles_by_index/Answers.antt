use Rattle.marker.proofs.RootVisits.{visits_handles}
use Rattle.marker.proofs.roots.visit_handles_by_index.Goals as goal

pub handles-preserved : goal.handles-preserved
handles-preserved c = record { visits = visits_handles c.args.heap.now c.handles.heap c.visit_handle.new.heap c.handles.invariant.visits c.visit_handle.ensures.visits }
