use Rattle.std.proofs.Common.{Result, Ok, Err, refl, sym, subst, rules}
use Rattle.replay.specs.declared.runs.Stop.{Stop}
use Rattle.replay.specs.Sessions.{WhereTold}
use Rattle.replay.specs.LineRuns.{BehindRun, PieceRun}
use Rattle.replay.proofs.Told.{told_as, told_on, told_still}
use Rattle.replay.proofs.Steps.{err_is, same_run, runs_on}
use Rattle.replay.proofs.Pieces.{Passed, none_passed, line_passed, all_passed, piece_stopped}
use Rattle.replay.proofs.runs.answer_piece.Goals as goal

pub returns-in_err-answer_ended-clause-answered : goal.returns-in_err-answer_ended-clause-answered
returns-in_err-answer_ended-clause-answered g c =
    let old = c.args.session.now in
    let next = c.answer_ended.new.session in
    let start = g.K.Sink.so_far c.args.out.now in
    let so_far = g.K.Sink.so_far c.lines.out in
    let after = g.K.Sink.so_far c.answer_ended.new.out in
    let why : Stop = c.in_err-answer_ended.field-0.0 in
    let told = g.F.Files.told c.args.files.now in
    let told_now = g.F.Files.told c.answer_ended.new.files in
    let Q : Result (Unit {0}) Stop → Type 0 = λ did. WhereTold told told_now (λ store store_now. PieceRun old store next store_now c.args.open_line.now c.answer_ended.new.open_line c.args.piece.now start after did) in
    subst Q (sym (err_is c.from_residual.result why c.from_residual.ensures.1))
    (told_on told (g.F.Files.told c.lines.files) told_now
    (λ store store_now. Passed old store c.lines.session store_now c.args.open_line.now c.lines.open_line c.args.piece.now c.lines.rest.now start so_far)
    (λ store store_now. BehindRun c.lines.session store next store_now c.lines.open_line c.in-Some.line.now so_far after (Err why))
    (λ store store_now. PieceRun old store next store_now c.args.open_line.now c.answer_ended.new.open_line c.args.piece.now start after (Err why))
    (λ x y z passed ran. piece_stopped old x c.lines.session y next z c.args.open_line.now c.lines.open_line c.args.piece.now c.lines.rest.now c.in-Some.line.now c.in-Some.behind.now start so_far after c.in-Some.ensures.whole
    c.in-Some.ensures.first passed c.answer_ended.new.open_line why ran)
    c.lines.invariant.passed c.in_err-answer_ended.ensures.answer)

pub lines-init : goal.lines-init
lines-init g c = record {
  run = same_run c.args.session.now;
  ended = refl;
  reads = refl;
  writes = refl;
  faults = refl;
  passed = told_still (g.F.Files.told c.args.files.now)
      (λ store store_now. Passed c.args.session.now store c.args.session.now store_now c.args.open_line.now c.args.open_line.now c.args.piece.now c.args.piece.now (g.K.Sink.so_far c.args.out.now) (g.K.Sink.so_far c.args.out.now))
      (λ store told. none_passed c.args.session.now store c.args.open_line.now c.args.piece.now (g.K.Sink.so_far c.args.out.now));
}

pub lines-preserved : goal.lines-preserved
lines-preserved g c =
    let old = c.args.session.now in
    let next = c.answer_ended.new.session in
    let start = g.K.Sink.so_far c.args.out.now in
    let so_far = g.K.Sink.so_far c.lines.out in
    let after = g.K.Sink.so_far c.answer_ended.new.out in
    record {
      run = runs_on c.lines.invariant.run c.answer_ended.ensures.run;
      ended = search rules;
      reads = search rules;
      writes = search rules;
      faults = search rules;
      passed = told_on (g.F.Files.told c.args.files.now) (g.F.Files.told c.lines.files) (g.F.Files.told c.answer_ended.new.files)
          (λ store store_now. Passed old store c.lines.session store_now c.args.open_line.now c.lines.open_line c.args.piece.now c.lines.rest.now start so_far)
          (λ store store_now. BehindRun c.lines.session store next store_now c.lines.open_line c.in-Some.line.now so_far after (Ok c.in_ok-answer_ended.field-0))
          (λ store store_now. Passed old store next store_now c.args.open_line.now c.answer_ended.new.open_line c.args.piece.now c.in-Some.behind.now start after)
          (λ x y z passed ran. line_passed old x c.lines.session y next z c.args.open_line.now c.lines.open_line c.args.piece.now c.lines.rest.now c.in-Some.line.now c.in-Some.behind.now start so_far after c.in-Some.ensures.whole
          c.in-Some.ensures.first passed c.answer_ended.new.open_line c.in_ok-answer_ended.field-0 c.answer_ended.ensures.none ran)
          c.lines.invariant.passed c.in_ok-answer_ended.ensures.answer;
    }

pub returns-clause-answered : goal.returns-clause-answered
returns-clause-answered g c =
    let old = c.args.session.now in
    let start = g.K.Sink.so_far c.args.out.now in
    let so_far = g.K.Sink.so_far c.lines.out in
    told_as (g.F.Files.told c.args.files.now) (g.F.Files.told c.lines.files) (λ store store_now. Passed old store c.lines.session store_now c.args.open_line.now c.lines.open_line c.args.piece.now c.lines.rest.now start so_far)
    (λ store store_now. PieceRun old store c.lines.session store_now c.args.open_line.now c.extend.new.self c.args.piece.now start so_far (Ok tt))
    (λ store store_now told passed. all_passed old store c.lines.session store_now c.args.open_line.now c.lines.open_line c.extend.new.self c.args.piece.now c.lines.rest.now start so_far c.in_default.ensures.none c.extend.ensures passed)
    c.lines.invariant.passed
