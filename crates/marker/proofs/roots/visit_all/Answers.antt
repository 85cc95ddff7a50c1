use Rattle.std.proofs.Common.{◌≡◌, subst, arith, length}
use Rattle.std.specs.Prelude.{slice_index}
use Rattle.marker.specs.Roots.{NamedByWord}
use Rattle.marker.specs.Visits.{Among, Visits}
use Rattle.marker.proofs.Visiting.{visits_no_more, visits_word}
use Rattle.marker.proofs.roots.visit_all.Goals as goal

pub words-init : goal.words-init
words-init c = record { visits = visits_no_more (λ i. NamedByWord c.args.heap.now (slice_index c.args.words.now i)) c.args.heap.now }

pub words-preserved : goal.words-preserved
words-preserved c = record {
  visits = visits_word (λ i. NamedByWord c.args.heap.now (slice_index c.args.words.now i)) c.args.heap.now c.words.heap c.visit.new.heap c.words.i (slice_index c.args.words.now c.words.i) c.words.invariant.visits c.visit.ensures.visits
      (λ t n. n) (λ t n. n);
}

pub returns : goal.returns
returns c =
    let e : c.words.i ≡ length c.args.words.now = omega (arith, c.words-test.false, c.words.auto.i-end) in
    record { visits = subst (λ k. Visits (Among (λ i. NamedByWord c.args.heap.now (slice_index c.args.words.now i)) k) c.args.heap.now c.words.heap) e c.words.invariant.visits }
