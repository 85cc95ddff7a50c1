use Rattle.std.proofs.Common.{◌∙◌, sym, ap}
use Rattle.std.specs.Result.{result_err}
use Rattle.spur_graph.proofs.Refusing.{handed_on}
use Rattle.replay.proofs.Collected.{mourn_obeys, mourn_refused, taken_word, mourn_room}
use Rattle.replay.proofs.collecting.mourn_one.Goals as goal

pub returns-in_err-word-clause-refusal : goal.returns-in_err-word-clause-refusal
returns-in_err-word-clause-refusal c = λ s.
    mourn_refused c.args.heap.now c.mourn.new.heap c.args.mutator c.args.h.now.bytes s c.mourn.result c.in_ok-room_for.ensures c.mourn.ensures.none c.mourn.ensures.taken
    ∙ ap result_err (sym c.ok_or.ensures.value ∙ c.in_err-word.was) ∙ handed_on _ c.in_err-word.field-0.0 c.from_residual-in_err-word.ensures.1

pub bind-requires-clause-room : goal.bind-requires-clause-room
bind-requires-clause-room c =
    mourn_room c.args.heap.now c.mourn.new.heap c.in_ok-word.word c.args.mutator c.args.h.now.bytes (taken_word c.args.heap.now c.mourn.new.heap c.mourn.result c.in_ok-word.word (sym c.ok_or.ensures.value ∙ c.in_ok-word.was) c.mourn.ensures.taken)
    c.in_ok-room_for.ensures

pub returns-clause-refusal : goal.returns-clause-refusal
returns-clause-refusal c = λ s.
    mourn_refused c.args.heap.now c.mourn.new.heap c.args.mutator c.args.h.now.bytes s c.mourn.result c.in_ok-room_for.ensures c.mourn.ensures.none c.mourn.ensures.taken ∙ ap result_err (sym c.ok_or.ensures.value ∙ c.in_ok-word.was)

pub returns-clause-done : goal.returns-clause-done
returns-clause-done c =
    mourn_obeys c.args.heap.now c.mourn.new.heap c.bind.new.heap c.args.mutator c.args.h.now.bytes c.in_ok-word.word
    (taken_word c.args.heap.now c.mourn.new.heap c.mourn.result c.in_ok-word.word (sym c.ok_or.ensures.value ∙ c.in_ok-word.was) c.mourn.ensures.taken) c.bind.ensures.bound
