use Rattle.std.proofs.Common.{◌∙◌, ◌++◌, inl, sym, ap, length}
use Rattle.std.proofs.lemmas.Bool.{eqb-true}
use Rattle.spur_graph.specs.Bytes.{Text}
use Rattle.replay.specs.LineRuns.{LineRun, BehindRun}
use Rattle.replay.proofs.Told.{told_as}
use Rattle.replay.proofs.Answering.{kept_none, kept_stands, kept_more, behind_run}
use Rattle.replay.proofs.runs.answer_ended.Goals as goal

pub returns-then-is_empty-clause-answer : goal.returns-then-is_empty-clause-answer
returns-then-is_empty-clause-answer g c =
    let so_far = g.K.Sink.so_far c.args.out.now in
    let after = g.K.Sink.so_far c.answer_line.new.out in
    let new = c.answer_line.new.session in
    told_as (g.F.Files.told c.args.files.now) (g.F.Files.told c.answer_line.new.files)
    (λ store store_now. LineRun c.args.session.now store new store_now c.args.line.now so_far after c.answer_line.result)
    (λ store store_now. BehindRun c.args.session.now store new store_now c.args.open_line.now c.args.line.now so_far after c.answer_line.result)
    (λ store store_now told ran. behind_run c.args.session.now store new store_now c.args.open_line.now c.args.line.now c.args.line.now so_far after
    (λ text keeps. let empty = kept_none c.args.open_line.now text keeps (eqb-true (length c.args.open_line.now) 0 (sym c.is_empty.ensures ∙ c.if-is_empty.true)) in inl (sym (ap (λ (t : Text). t ++ c.args.line.now) empty)))
    c.answer_line.result ran)
    c.answer_line.ensures.answer

pub returns-clause-answer : goal.returns-clause-answer
returns-clause-answer g c =
    let so_far = g.K.Sink.so_far c.args.out.now in
    let after = g.K.Sink.so_far c.answer_line-answered.new.out in
    let new = c.answer_line-answered.new.session in
    told_as (g.F.Files.told c.args.files.now) (g.F.Files.told c.answer_line-answered.new.files)
    (λ store store_now. LineRun c.args.session.now store new store_now c.bytes.result.now so_far after c.answer_line-answered.result)
    (λ store store_now. BehindRun c.args.session.now store new store_now c.args.open_line.now c.args.line.now so_far after c.answer_line-answered.result)
    (λ store store_now told ran. behind_run c.args.session.now store new store_now c.args.open_line.now c.args.line.now c.bytes.result.now so_far after
    (λ text keeps. kept_stands c.bytes.result.now (text ++ c.args.line.now) (c.bytes.ensures ∙ c.extend.ensures ∙ kept_more c.args.open_line.now c.args.line.now text keeps))
    c.answer_line-answered.result ran)
    c.answer_line-answered.ensures.answer
