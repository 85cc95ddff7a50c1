use Rattle.std.proofs.Common.{◌∙◌}
use Rattle.spur_heap.specs.Allocating.{source_of}
use Rattle.replay.specs.Sessions.{over, value_in}
use Rattle.spur_graph.proofs.Refusing.{handed_on}
use Rattle.replay.proofs.Made.{some_room, instances_refused, same_handles, made_obeys}
use Rattle.replay.proofs.making.make.Goals as goal

pub returns-in_err-object-clause-refusal : goal.returns-in_err-object-clause-refusal
returns-in_err-object-clause-refusal c = λ s.
    let v = c.args.heap.now in
    let class = c.in_ok-class.class in
    some_room (over v s) c.args.mutator c.args.space c.args.h.now.bytes c.args.c.now.bytes c.args.n (value_in v class) c.in_ok-class.ensures.value c.in_ok-room_for.ensures
    ∙ instances_refused v class c.args.n (source_of c.args.space)
    ∙ c.in_err-object.ensures.refusal
    ∙ handed_on _ c.in_err-object.field-0.0 c.from_residual-in_err-object.ensures.1

pub bind-requires-clause-room : goal.bind-requires-clause-room
bind-requires-clause-room c =
    same_handles c.args.heap.now c.instantiate.new.heap (source_of c.args.space) (value_in c.args.heap.now c.in_ok-class.class) c.args.n c.in_ok-object.object c.in_ok-object.ensures.made
    c.args.mutator c.args.h.now.bytes
    ∙ c.in_ok-room_for.ensures

pub returns-clause-refusal : goal.returns-clause-refusal
returns-clause-refusal c = λ s.
    let v = c.args.heap.now in
    let class = c.in_ok-class.class in
    some_room (over v s) c.args.mutator c.args.space c.args.h.now.bytes c.args.c.now.bytes c.args.n (value_in v class) c.in_ok-class.ensures.value c.in_ok-room_for.ensures
    ∙ instances_refused v class c.args.n (source_of c.args.space)
    ∙ c.in_ok-object.ensures.refusal

pub returns-clause-done : goal.returns-clause-done
returns-clause-done c =
    let v = c.args.heap.now in
    made_obeys v c.instantiate.new.heap c.bind.new.heap c.args.mutator c.args.space c.args.h.now.bytes c.args.c.now.bytes c.args.n c.in_ok-object.object (value_in v c.in_ok-class.class)
    c.whole.ensures.closed c.whole.ensures.whole c.whole-2.ensures.whole c.in_ok-class.ensures.value c.in_ok-object.ensures.made c.bind.ensures.bound
