use Rattle.std.proofs.Common.{◌≡◌, ◌+◌, ◌-◌, false, length, sym, ◌∙◌, ap, arith}
use Rattle.std.specs.Prelude.{slice_index}
use Rattle.marker.specs.Waiting.{waits}
use Rattle.marker.proofs.Looking.{swapped_length, swapped_ready, swapped_unmarked, works_swapped}
use Rattle.marker.proofs.Working.{works_then}
use Rattle.marker.proofs.look.look_at.Goals as goal

pub drain-requires-clause-stack : goal.drain-requires-clause-stack
drain-requires-clause-stack c =
    let is : c.stack_len-last.result - 1 + 1 ≡ length c.args.heap.now.stack = omega (arith, c.stack_len-last.ensures, c.requires.within) in
    (works_swapped c.args.heap.now c.swap_marks.new.self c.args.i (c.stack_len-last.result - 1) c.requires.within is c.swap_marks.ensures c.args.except).ordinary c.requires.stack

pub returns-clause-works : goal.returns-clause-works
returns-clause-works c =
    let is : c.stack_len-last.result - 1 + 1 ≡ length c.args.heap.now.stack = omega (arith, c.stack_len-last.ensures, c.requires.within) in
    works_then c.args.except c.args.heap.now c.swap_marks.new.self c.drain.new.heap (works_swapped c.args.heap.now c.swap_marks.new.self c.args.i (c.stack_len-last.result - 1) c.requires.within is c.swap_marks.ensures c.args.except) c.drain.ensures.works

pub returns-clause-less : goal.returns-clause-less
returns-clause-less c e =
    let v = c.args.heap.now in
    let b = c.swap_marks.new.self in
    let last = c.stack_len-last.result - 1 in
    let is : last + 1 ≡ length v.stack = omega (arith, c.stack_len-last.ensures, c.requires.within) in
    let off : waits v (slice_index v.stack c.args.i) ≡ false = ap (waits v) (sym c.stack_item-start.ensures) ∙ sym c.waits.ensures ∙ c.if-waits.false in
    let less = c.drain.ensures.less (swapped_ready v b c.args.i last c.requires.within is c.swap_marks.ensures off) in
    let count = swapped_unmarked v b c.args.i last c.requires.within is c.swap_marks.ensures in
    let long = swapped_length v b c.args.i last c.requires.within is c.swap_marks.ensures in
    omega (arith, less, count, long)
