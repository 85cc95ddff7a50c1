use Rattle.std.proofs.Common.{◌≡◌, Err, refl, ap, subst}
use Rattle.script_text.specs.Reading.{ReadsLine}
use Rattle.script_text.specs.declared.line.Syntax.TheVariants as faults
use Rattle.spur_graph.specs.declared.answer.Answer.TheVariants as answers
use Rattle.spur_graph.specs.declared.answer.Refusal.{Refusal}
use Rattle.spur_graph.specs.declared.answer.Refusal.TheVariants as r
use Rattle.spur_graph.specs.declared.command.Command.{Command}
use Rattle.spur_graph.specs.Form.{view}
use Rattle.spur_graph.specs.Step.{Reads}
use Rattle.replay.specs.declared.halts.Halt.TheVariants as halt
use Rattle.replay.specs.Sessions.{over}
use Rattle.replay.specs.Commands.{Replies}
use Rattle.replay.proofs.Steps.{stays, long_answer, syntax_answer, done_replies, refused_replies, err_is, no_fault, no_cause, its_answer}
use Rattle.replay.proofs.SavedLines.{save_replies, save_stops}
use Rattle.replay.proofs.Written.{line_written}
use Rattle.replay.proofs.session.try_line.Goals as goal

pub returns-in_err-obey-in_default : goal.returns-in_err-obey-in_default
returns-in_err-obey-in_default g c =
    let told = g.F.Files.told c.args.files.now in
    let why : Refusal = c.in_err-obey-in_default.field-0.0 in
    let is : c.from_residual.result ≡ Err (halt.Refused why) = err_is c.from_residual.result (halt.Refused why) c.from_residual.ensures.1 in
    record {
      replies = its_answer c.from_residual.result why is (λ answer. Replies c.args.heap.now c.args.script.now told c.args.bytes.now answer c.obey.new.heap told)
          (refused_replies c.args.heap.now c.obey.new.heap c.args.script.now told c.args.bytes.now c.in-Ok.line.mutator (view c.in-Ok.line.command) c.in-Ok.ensures.0 c.in-Ok.ensures.1 why c.in_err-obey-in_default.ensures.refusal
          c.in_err-obey-in_default.ensures.same);
      stops = no_fault c.from_residual.result why is _;
      same = no_fault c.from_residual.result why is _;
      words = line_written c.args.heap.now c.obey.new.heap c.args.bytes.now c.in-Ok.line.mutator (view c.in-Ok.line.command) c.in-Ok.ensures.1 c.obey.ensures.words;
      keeps = c.obey.ensures.keeps;
      told = (λ some. some, λ some. some);
      cause = no_cause c.from_residual.result why is (g.F.Files.read_count c.args.files.now) (g.F.Files.write_count c.args.files.now);
    }

pub returns-in_ok-obey-in_default : goal.returns-in_ok-obey-in_default
returns-in_ok-obey-in_default g c = record {
  replies = done_replies c.args.heap.now c.obey.new.heap c.args.script.now (g.F.Files.told c.args.files.now) c.args.bytes.now c.in-Ok.line.mutator (view c.in-Ok.line.command) c.in-Ok.ensures.0 c.in-Ok.ensures.1
      c.in_ok-obey-in_default.field-0 c.in_ok-obey-in_default.ensures.refusal c.in_ok-obey-in_default.ensures.done;
  stops = tt;
  same = tt;
  words = line_written c.args.heap.now c.obey.new.heap c.args.bytes.now c.in-Ok.line.mutator (view c.in-Ok.line.command) c.in-Ok.ensures.1 c.obey.ensures.words;
  keeps = c.obey.ensures.keeps;
  told = (λ some. some, λ some. some);
  cause = (refl, refl);
}

pub returns-in-Save-clause-replies : goal.returns-in-Save-clause-replies
returns-in-Save-clause-replies g c =
    let reads = subst (λ (command : Command). Reads c.args.bytes.now c.in-Ok.line.mutator (view command)) c.in-Save.is c.in-Ok.ensures.1 in
    save_replies c.args.heap.now c.args.script.now (g.F.Files.told c.args.files.now) (g.F.Files.told c.save_image.new.files) c.args.bytes.now c.in-Ok.line.mutator c.in-Save.name.bytes c.in-Ok.ensures.0 reads
    c.save_image.result c.save_image.ensures.refusal c.save_image.ensures.saved c.save_image.ensures.same

pub returns-in-Save-clause-stops : goal.returns-in-Save-clause-stops
returns-in-Save-clause-stops g c =
    let reads = subst (λ (command : Command). Reads c.args.bytes.now c.in-Ok.line.mutator (view command)) c.in-Save.is c.in-Ok.ensures.1 in
    save_stops c.args.heap.now c.args.script.now (g.F.Files.told c.args.files.now) (g.F.Files.told c.save_image.new.files) c.args.bytes.now c.in-Ok.line.mutator c.in-Save.name.bytes c.in-Ok.ensures.0 reads
    c.save_image.result c.save_image.ensures.refusal c.save_image.ensures.cut

pub returns-in-Err-Long-clause-replies : goal.returns-in-Err-Long-clause-replies
returns-in-Err-Long-clause-replies g c =
    let told = g.F.Files.told c.args.files.now in
    its_answer (Err c.into.result) r.Long (ap Err c.into.ensures) (λ answer. Replies c.args.heap.now c.args.script.now told c.args.bytes.now answer c.args.heap.now told)
    (stays c.args.heap.now c.args.script.now told c.args.bytes.now (answers.Refused r.Long) (λ s line stands. long_answer (over c.args.heap.now s) c.args.bytes.now line (rw c.in-Err-Long.field-0-is at c.in-Err-Long.ensures) stands))

pub returns-in-Err-Bad-clause-replies : goal.returns-in-Err-Bad-clause-replies
returns-in-Err-Bad-clause-replies g c =
    let told = g.F.Files.told c.args.files.now in
    let none : ReadsLine (Err faults.Bad) c.args.bytes.now = rw c.in-Err-Bad.field-0-is at c.in-Err-Bad.ensures in
    its_answer (Err c.into-in-Err-Bad.result) r.Syntax (ap Err c.into-in-Err-Bad.ensures) (λ answer. Replies c.args.heap.now c.args.script.now told c.args.bytes.now answer c.args.heap.now told)
    (stays c.args.heap.now c.args.script.now told c.args.bytes.now (answers.Refused r.Syntax) (λ s line stands. syntax_answer (over c.args.heap.now s) c.args.bytes.now line none.0 stands none.1))
