use Rattle.std.proofs.Common.{Result, IfOk, sym, subst}
use Rattle.spur_graph.specs.declared.answer.Answer.{Answer}
use Rattle.replay.specs.declared.session.Fault.{Fault}
use Rattle.replay.specs.Commands.{Replies}
use Rattle.replay.proofs.Steps.{replies_step}
use Rattle.replay.proofs.session.step.Goals as goal

pub returns-clause-answer : goal.returns-clause-answer
returns-clause-answer g c =
    let told = g.F.Files.told c.args.files.now in
    let told_now = g.F.Files.told c.try_line-tried.new.files in
    let P : Result Answer Fault → Type 0 = λ r. IfOk r (λ answer. Replies c.args.heap.now c.args.script.now told c.args.bytes.now answer c.try_line-tried.new.heap told_now) in
    replies_step c.args.heap.now c.try_line-tried.new.heap c.args.script.now told told_now c.args.bytes.now c.answered.result c.keeps_names.ensures c.whole.ensures.whole (subst P (sym c.answered.ensures) c.try_line-tried.ensures.replies)
