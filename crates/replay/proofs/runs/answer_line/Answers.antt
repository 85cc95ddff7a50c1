use Rattle.std.proofs.Common.{◌∙◌, List, ℕ, Ok, Err, Result, sym, subst}
use Rattle.spur_io.specs.Store.{Puts}
use Rattle.replay.specs.declared.runs.Stop.{Stop}
use Rattle.replay.specs.declared.runs.Stop.TheVariants as stop
use Rattle.replay.specs.Sessions.{WhereTold}
use Rattle.replay.specs.LineRuns.{LineRun}
use Rattle.replay.proofs.Steps.{err_is}
use Rattle.replay.proofs.Answering.{line_put}
use Rattle.replay.proofs.runs.answer_line.Goals as goal

pub returns-in_err-put-clause-answer : goal.returns-in_err-put-clause-answer
returns-in_err-put-clause-answer g c =
    let told = g.F.Files.told c.args.files.now in
    let told_now = g.F.Files.told c.answer.new.files in
    let so_far = g.K.Sink.so_far c.args.out.now in
    let after = g.K.Sink.so_far c.put.new.self in
    let P : List ℕ → Type 0 = λ bytes. Puts bytes so_far after (Err c.in_err-put.field-0.0) in
    let Q : Result (Unit {0}) Stop → Type 0 = λ did. WhereTold told told_now (λ store store_now. LineRun c.args.session.now store c.answer.new.self store_now c.args.line.now so_far after did) in
    subst Q (sym (err_is c.from_residual-in_err-put.result (stop.Put c.in_err-put.field-0.0) c.from_residual-in_err-put.ensures.1))
    (line_put told told_now c.args.session.now c.answer.new.self c.args.line.now c.in_ok-answer.answer so_far after (Err c.in_err-put.field-0.0) c.answer.ensures.told c.in_ok-answer.ensures.step
    (subst P (c.as_slice.ensures.value ∙ c.write_answer.ensures) c.in_err-put.ensures.bytes))

pub returns-clause-answer : goal.returns-clause-answer
returns-clause-answer g c =
    let so_far = g.K.Sink.so_far c.args.out.now in
    let after = g.K.Sink.so_far c.put.new.self in
    let P : List ℕ → Type 0 = λ bytes. Puts bytes so_far after (Ok c.in_ok-put.field-0) in
    line_put (g.F.Files.told c.args.files.now) (g.F.Files.told c.answer.new.files) c.args.session.now c.answer.new.self c.args.line.now c.in_ok-answer.answer so_far after (Ok c.in_ok-put.field-0) c.answer.ensures.told
    c.in_ok-answer.ensures.step (subst P (c.as_slice.ensures.value ∙ c.write_answer.ensures) c.in_ok-put.ensures.bytes)
