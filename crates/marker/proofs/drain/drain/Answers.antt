use Rattle.std.proofs.Common.{◌-◌, ap, sym, ◌∙◌, ◌≡◌, inl, inr, arith, false, length}
use Rattle.marker.specs.Waiting.{waits}
use Rattle.marker.specs.Visits.{unmarked}
use Rattle.spur_graph.specs.Heaps.{View}
use Rattle.std.specs.Prelude.{slice_index}
use Rattle.marker.proofs.Working.{fewer_advanced, least_advanced, less_advanced, popped_last, popped_there, popped_waits, within_advanced, works_advanced, works_then}
use Rattle.marker.proofs.drain.drain.Goals as goal

pub starts-smaller : goal.starts-smaller
starts-smaller c =
    let popped = c.in-Some.ensures.some in
    let there = popped_there c.starts.heap c.pop_mark.new.self c.in-Some.start popped.1 popped.2 (c.starts.invariant.works.ordinary c.requires.stack) in
    fewer_advanced c.starts.heap c.pop_mark.new.self c.in-Some.start popped.1 popped.2 c.args.except c.starts.aside c.advance-aside.result c.advance-aside.new.heap there popped.0
    c.advance-aside.ensures.excepted c.advance-aside.ensures.aside c.advance-aside.ensures.passed

pub starts-preserved : goal.starts-preserved
starts-preserved c =
    let popped = c.in-Some.ensures.some in
    let b : View = c.starts.heap in
    let p : View = c.pop_mark.new.self in
    let after : View = c.advance-aside.new.heap in
    let there = popped_there b p c.in-Some.start popped.1 popped.2 (c.starts.invariant.works.ordinary c.requires.stack) in
    let works = works_advanced b p c.in-Some.start popped.1 popped.2 c.args.except c.starts.aside c.advance-aside.result after there popped.0 c.advance-aside.ensures.excepted c.advance-aside.ensures.aside c.advance-aside.ensures.passed in
    record {
      works = works_then c.args.except c.args.heap.now b after c.starts.invariant.works works;
      within = within_advanced b p c.in-Some.start popped.1 popped.2 c.args.except c.starts.aside c.advance-aside.result after there popped.0 c.advance-aside.ensures.excepted c.advance-aside.ensures.aside c.advance-aside.ensures.passed;
      kept = let least = least_advanced b p c.in-Some.start popped.1 popped.2 c.args.except c.starts.aside c.advance-aside.result after there popped.0 c.advance-aside.ensures.excepted c.advance-aside.ensures.aside c.advance-aside.ensures.passed in omega (arith, least, c.starts.invariant.kept);
      less = λ ready. elim (c.starts.invariant.less ready) [
        | inl less ↦ let low = works.low in inl (omega (arith, less, low))
        | inr same ↦
            let last : waits b (slice_index b.stack (length b.stack - 1)) ≡ false = ap (λ (v : View). waits v (slice_index v.stack (length v.stack - 1))) same.0 ∙ ready.ready in
            let off : waits p c.in-Some.start ≡ false = sym (popped_waits b p c.in-Some.start popped.1 popped.2) ∙ ap (waits b) (sym (popped_last b p c.in-Some.start popped.1 popped.2)) ∙ last in
            let less = less_advanced b p c.in-Some.start popped.1 popped.2 c.args.except c.starts.aside c.advance-aside.result after there popped.0 c.advance-aside.ensures.excepted c.advance-aside.ensures.aside c.advance-aside.ensures.passed off in
            let count = ap (λ (v : View). unmarked v) same.0 in
            let long = ap (λ (v : View). length v.stack) same.0 in
            inl (omega (arith, less, count, long))
      ];
    }
