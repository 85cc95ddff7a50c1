use Rattle.std.proofs.Common.{◌∙◌}
use Rattle.spur_graph.proofs.Refusing.{handed_on}
use Rattle.replay.specs.Sessions.{value_in, over}
use Rattle.replay.proofs.Changed.{flag_by, flag_obeys}
use Rattle.replay.proofs.changing.protect.Goals as goal

pub returns-in_err-set_readonly-clause-refusal : goal.returns-in_err-set_readonly-clause-refusal
returns-in_err-set_readonly-clause-refusal c = λ s.
    let v = c.args.heap.now in
    flag_by (over v s) c.args.mutator c.args.o.now.bytes (value_in v c.in_ok-object.object) c.in_ok-object.ensures.value c.args.on
    ∙ c.in_err-set_readonly.ensures.refusal ∙ handed_on _ c.in_err-set_readonly.field-0.0 c.from_residual-in_err-set_readonly.ensures.1

pub returns-clause-done : goal.returns-clause-done
returns-clause-done c =
    flag_obeys c.args.heap.now c.args.mutator c.args.o.now.bytes c.in_ok-object.object c.in_ok-object.ensures.value c.set_readonly.new.heap c.args.on c.in_ok-set_readonly.ensures.graph c.in_ok-set_readonly.ensures.room
