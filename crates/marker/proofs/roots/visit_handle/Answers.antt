use Rattle.std.specs.Prelude.{slice_index}
use Rattle.marker.proofs.RootVisits.{visits_held}
use Rattle.marker.proofs.roots.visit_handle.Goals as goal

pub returns : goal.returns
returns c = record {
  visits = visits_held c.args.heap.now c.visit.new.heap (slice_index c.handle_words-words.result.now c.args.i) (c.handle_words-words.ensures.each c.args.i c.if-i-words.false) c.visit.ensures.visits;
}
