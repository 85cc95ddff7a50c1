use Rattle.std.proofs.Common.{◌≡◌, ◌<◌, ◌-◌, length, sym, ◌∙◌, ap, inl, inr, arith}
use Rattle.std.proofs.lemmas.Bool.{cases_eq, false≢true}
use Rattle.std.specs.Prelude.{slice_index}
use Rattle.spur_graph.specs.Heaps.{View}
use Rattle.marker.specs.Waiting.{waits}
use Rattle.marker.specs.Visits.{unmarked}
use Rattle.marker.proofs.Looking.{all_wait}
use Rattle.marker.proofs.Working.{works_then}
use Rattle.marker.proofs.look.look.Goals as goal

pub starts-preserved-then-found : goal.starts-preserved-then-found
starts-preserved-then-found c =
    let works = c.look_at-passed.ensures.works in
    let low = works.low in
    record {
      works = works_then c.args.except c.args.heap.now c.starts.heap c.look_at-passed.new.heap c.starts.invariant.works works;
      within = c.look_at-passed.ensures.kept;
      less = λ on. let less = c.starts.invariant.less on in omega (arith, less, low);
      same = λ off. absurd (false≢true (sym off ∙ c.if-found.true));
      wait = λ off k l m. absurd (false≢true (sym off ∙ c.if-found.true));
    }

pub starts-preserved : goal.starts-preserved
starts-preserved c =
    let works = c.look_at-passed.ensures.works in
    let was : c.starts.heap ≡ c.args.heap.now = c.starts.invariant.same c.if-found.false in
    let count = ap (λ (v : View). unmarked v) was in
    let long = ap (λ (v : View). length v.stack) was in
    let at = c.starts.i - 1 in
    record {
      works = works_then c.args.except c.args.heap.now c.starts.heap c.look_at-passed.new.heap c.starts.invariant.works works;
      within = c.look_at-passed.ensures.kept;
      less = λ on. let less = c.look_at-passed.ensures.less on in omega (arith, less, count, long);
      same = λ off. (c.look_at-passed.ensures.waits off).1 ∙ was;
      wait = λ off k l m. elim (cases_eq k at) [
        | inl e ↦ ap (λ j. waits c.args.heap.now (slice_index c.args.heap.now.stack j)) e ∙ sym (ap (λ (v : View). waits v (slice_index v.stack at)) was) ∙ (c.look_at-passed.ensures.waits off).0
        | inr n ↦ c.starts.invariant.wait c.if-found.false k (omega (arith, l, n)) m
      ];
    }

pub returns-clause-wait : goal.returns-clause-wait
returns-clause-wait c off =
    let was : c.starts.heap ≡ c.args.heap.now = c.starts.invariant.same off in
    all_wait c.starts.heap (λ k l.
    let low : k < length c.args.heap.now.stack = (let long = ap (λ (v : View). length v.stack) was in omega (arith, l, long)) in
    ap (λ (v : View). waits v (slice_index v.stack k)) was ∙ c.starts.invariant.wait off k (omega (arith, c.starts-test.false)) low)
