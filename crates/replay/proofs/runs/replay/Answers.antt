use Rattle.std.proofs.Common.{Ok, Err, Some, refl}
use Rattle.replay.specs.declared.runs.Status.TheVariants as status
use Rattle.replay.proofs.Outcomes.{replayed, not_loaded}
use Rattle.replay.proofs.Statuses.{left_stop, judged_refusal, judged_stop}
use Rattle.replay.proofs.runs.replay.Goals as goal

pub returns-in-Err-clause-outcome : goal.returns-in-Err-clause-outcome
returns-in-Err-clause-outcome g c = λ words is.
    not_loaded words c.args.image.now c.args.script.now c.args.limits is (g.F.Files.told c.args.files.now) (g.F.Files.told c.start.new.files) (g.K.Sink.so_far c.args.out.now) (g.K.Sink.so_far c.refuse.new.out) c.args.kept.now c.in-Err.error
    (g.F.Files.write_count c.args.files.now) (g.F.Files.write_count c.start.new.files) (g.K.Sink.fault_count c.args.out.now) (g.K.Sink.fault_count c.refuse.new.out) c.refuse.result c.in-Err.ensures.same c.requires.none
    c.in-Err.ensures.refused c.refuse.ensures

pub returns-in-Err-clause-judges : goal.returns-in-Err-clause-judges
returns-in-Err-clause-judges g c = λ words is.
    judged_refusal words c.args.image.now c.args.script.now c.args.limits is c.in-Err.error (g.K.Sink.so_far c.args.out.now) (g.K.Sink.so_far c.refuse.new.out) (g.K.Sink.fault_count c.args.out.now)
    (g.K.Sink.fault_count c.refuse.new.out) c.refuse.result c.refuse.ensures

pub returns-in-Ok-answered-clause-outcome : goal.returns-in-Ok-answered-clause-outcome
returns-in-Ok-answered-clause-outcome g c = λ words is.
    replayed words c.args.image.now c.args.script.now c.args.limits is (g.F.Files.told c.args.files.now) (g.F.Files.told c.start.new.files) (g.F.Files.told c.answer_script-answered.new.files) (g.K.Sink.so_far c.args.out.now)
    (g.K.Sink.so_far c.answer_script-answered.new.out) c.in-Ok.session c.answer_script-answered.new.session (Some c.answer_script-answered.new.session) (Ok c.in-Ok-answered.field-0) status.Done (g.F.Files.read_count c.start.new.files)
    (g.F.Files.read_count c.answer_script-answered.new.files) (g.F.Files.write_count c.args.files.now) (g.F.Files.write_count c.start.new.files) (g.F.Files.write_count c.answer_script-answered.new.files)
    (g.K.Sink.fault_count c.args.out.now) (g.K.Sink.fault_count c.answer_script-answered.new.out) c.in-Ok.ensures.same c.in-Ok.ensures.other c.in-Ok.ensures.stands c.in-Ok.ensures.begins c.in-Ok.ensures.fresh.1 c.in-Ok.ensures.unmarked
    c.in-Ok.ensures.carried c.in-Ok-answered.ensures.run c.in-Ok-answered.ensures.cause c.in-Ok-answered.ensures.ends refl refl c.in-Ok-answered.ensures.outcome

pub returns-in-Err-answered-clause-outcome : goal.returns-in-Err-answered-clause-outcome
returns-in-Err-answered-clause-outcome g c = λ words is.
    replayed words c.args.image.now c.args.script.now c.args.limits is (g.F.Files.told c.args.files.now) (g.F.Files.told c.start.new.files) (g.F.Files.told c.answer_script-answered.new.files) (g.K.Sink.so_far c.args.out.now)
    (g.K.Sink.so_far c.answer_script-answered.new.out) c.in-Ok.session c.answer_script-answered.new.session (Some c.answer_script-answered.new.session) (Err c.in-Err-answered.stop) c.into.result (g.F.Files.read_count c.start.new.files)
    (g.F.Files.read_count c.answer_script-answered.new.files) (g.F.Files.write_count c.args.files.now) (g.F.Files.write_count c.start.new.files) (g.F.Files.write_count c.answer_script-answered.new.files)
    (g.K.Sink.fault_count c.args.out.now) (g.K.Sink.fault_count c.answer_script-answered.new.out) c.in-Ok.ensures.same c.in-Ok.ensures.other c.in-Ok.ensures.stands c.in-Ok.ensures.begins c.in-Ok.ensures.fresh.1 c.in-Ok.ensures.unmarked
    c.in-Ok.ensures.carried c.in-Err-answered.ensures.run c.in-Err-answered.ensures.cause c.in-Err-answered.ensures.ends refl c.into.ensures c.in-Err-answered.ensures.outcome

pub returns-in-Err-answered-clause-judges : goal.returns-in-Err-answered-clause-judges
returns-in-Err-answered-clause-judges g c = λ words is. judged_stop words c.args.image.now c.args.script.now c.args.limits is c.in-Err-answered.stop c.into.result c.into.ensures

pub returns-in-Err-answered-clause-kept : goal.returns-in-Err-answered-clause-kept
returns-in-Err-answered-clause-kept g c = λ words is.
    left_stop words c.args.image.now c.args.script.now c.args.limits is c.in-Err-answered.stop c.into.result c.answer_script-answered.new.session (Some c.answer_script-answered.new.session) c.into.ensures refl c.in-Err-answered.ensures.ends
