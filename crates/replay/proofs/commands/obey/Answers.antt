use Rattle.std.specs.Result.{result_err}
use Rattle.spur_graph.specs.Form.{view}
use Rattle.replay.proofs.Unsettled.{first_refusal, obeys, stays_same, writes}
use Rattle.replay.proofs.commands.obey.Goals as goal

pub returns-clause-refusal : goal.returns-clause-refusal
returns-clause-refusal c =
    first_refusal c.args.heap.now c.settle_handles.new.heap c.settle_handles.ensures c.args.mutator (view c.args.command.now) (result_err c.carry_out.result) c.carry_out.ensures.refusal

pub returns-clause-done : goal.returns-clause-done
returns-clause-done c =
    obeys c.args.heap.now c.settle_handles.new.heap c.settle_handles.ensures c.args.mutator (view c.args.command.now) c.carry_out.new.heap c.carry_out.result c.carry_out.ensures.done

pub returns-clause-words : goal.returns-clause-words
returns-clause-words c =
    writes c.args.heap.now c.settle_handles.new.heap c.settle_handles.ensures c.carry_out.new.heap c.args.mutator (view c.args.command.now) c.carry_out.ensures.words

pub returns-clause-same : goal.returns-clause-same
returns-clause-same c = stays_same c.args.heap.now c.settle_handles.new.heap c.settle_handles.ensures c.carry_out.new.heap c.carry_out.result c.carry_out.ensures.same
