use Rattle.std.proofs.Common.{◌∙◌}
use Rattle.replay.specs.Sessions.{over, value_in}
use Rattle.spur_graph.proofs.Refusing.{handed_on}
use Rattle.replay.proofs.Made.{class_row, enters_refused, enter_obeys}
use Rattle.replay.proofs.making.enter_class.Goals as goal

pub returns-in_err-index-clause-refusal : goal.returns-in_err-index-clause-refusal
returns-in_err-index-clause-refusal c = λ s.
    let v = c.args.heap.now in
    let class = c.in_ok-class.class in
    class_row (over v s) c.args.mutator c.args.c.now.bytes (value_in v class) c.in_ok-class.ensures.value
    ∙ enters_refused v class ∙ c.in_err-index.ensures.refusal ∙ handed_on _ c.in_err-index.field-0.0 c.from_residual-in_err-index.ensures.1

pub returns-clause-refusal : goal.returns-clause-refusal
returns-clause-refusal c = λ s.
    let v = c.args.heap.now in
    let class = c.in_ok-class.class in
    class_row (over v s) c.args.mutator c.args.c.now.bytes (value_in v class) c.in_ok-class.ensures.value
    ∙ enters_refused v class ∙ c.in_ok-index.ensures.refusal

pub returns-clause-done : goal.returns-clause-done
returns-clause-done c =
    enter_obeys c.args.heap.now c.enter.new.heap c.args.mutator c.args.c.now.bytes c.in_ok-class.class c.in_ok-index.index
    c.in_ok-class.ensures.value c.in_ok-index.ensures.index c.in_ok-index.ensures.graph c.in_ok-index.ensures.room
