use Rattle.std.proofs.Common.{◌∙◌, Ok, length, sym, subst}
use Rattle.std.proofs.lemmas.Bool.{eqb-true}
use Rattle.replay.specs.LineRuns.{LineRun, EndRun}
use Rattle.replay.proofs.Told.{told_as, told_still}
use Rattle.replay.proofs.Endings.{ended_all, last_run, some_length}
use Rattle.replay.proofs.runs.answer_last.Goals as goal

pub returns-then-is_empty-clause-answered : goal.returns-then-is_empty-clause-answered
returns-then-is_empty-clause-answered g c =
    let so_far = g.K.Sink.so_far c.args.out.now in
    told_still (g.F.Files.told c.args.files.now) (λ store store_now. EndRun c.args.session.now store c.args.session.now store_now c.args.open_line.now so_far so_far (Ok tt))
    (λ store told first text before so.
    ended_all c.args.session.now store first text c.args.open_line.now before so_far (eqb-true (length c.args.open_line.now) 0 (sym c.is_empty.ensures ∙ c.if-is_empty.true)) so)

pub returns-clause-answered : goal.returns-clause-answered
returns-clause-answered g c =
    let so_far = g.K.Sink.so_far c.args.out.now in
    let after = g.K.Sink.so_far c.answer_line.new.out in
    let new = c.answer_line.new.session in
    let kept = c.args.open_line.now in
    told_as (g.F.Files.told c.args.files.now) (g.F.Files.told c.answer_line.new.files) (λ store store_now. LineRun c.args.session.now store new store_now c.bytes.result.now so_far after c.answer_line.result)
    (λ store store_now. EndRun c.args.session.now store new store_now kept so_far after c.answer_line.result)
    (λ store store_now told ran.
    last_run c.args.session.now store new store_now kept so_far after (some_length (length kept) (sym c.is_empty.ensures ∙ c.if-is_empty.false)) c.answer_line.result
    (subst (λ bytes. LineRun c.args.session.now store new store_now bytes so_far after c.answer_line.result) c.bytes.ensures ran))
    c.answer_line.ensures.answer
