use Rattle.std.proofs.Common.{◌≡◌, ◌+◌, Ok, Err, Option, refl, sym, subst, arith, rules, Result, ℕ}
use Rattle.std.proofs.lemmas.List.{take-append-le}
use Rattle.spur_io.specs.Store.{Gives}
use Rattle.spur_io.specs.declared.files.FileFault.{FileFault}
use Rattle.spur_graph.specs.State.{Files}
use Rattle.replay.specs.declared.runs.Stop.{Stop}
use Rattle.replay.specs.declared.runs.Stop.TheVariants as stop
use Rattle.replay.specs.Sessions.{WhereTold}
use Rattle.replay.specs.LineRuns.{PieceRun, EndRun}
use Rattle.replay.proofs.Told.{told_as, told_on, told_still, told_read}
use Rattle.replay.proofs.Steps.{err_is, same_run, runs_on}
use Rattle.replay.proofs.Scripts.{Ran, ReadTo, ReadAll, none_read, piece_read, ran_too_long, read_all, ran_end, ran_piece, ran_unread}
use Rattle.replay.proofs.runs.answer_script.Goals as goal

pub pieces-init : goal.pieces-init
pieces-init g c = record {
  run = same_run c.args.session.now;
  ended = c.requires.going;
  reads = refl;
  writes = refl;
  faults = refl;
  low = omega arith;
  read =
      let so_far = g.K.Sink.so_far c.args.out.now in
      told_still (g.F.Files.told c.args.files.now) (ReadTo so_far c.args.session.now c.args.session.now c.args.script.now 0 c.new-open_line.result so_far)
      (λ store told. none_read so_far c.args.session.now c.args.script.now c.new-open_line.result c.new-open_line.ensures store);
}

pub returns-in_err-count-clause-outcome : goal.returns-in_err-count-clause-outcome
returns-in_err-count-clause-outcome g c =
    let told = g.F.Files.told c.args.files.now in
    let start = g.K.Sink.so_far c.args.out.now in
    let so_far = g.K.Sink.so_far c.pieces.out in
    let old = c.args.session.now in
    let now = c.pieces.session in
    let script = c.args.script.now in
    let fault : FileFault = c.in_err-count.field-0.0 in
    let P : Result (Unit {0}) Stop → Type 0 = λ did. WhereTold told (g.F.Files.told c.read_at.new.self) (Ran start old now script so_far did) in
    let Q : Option Files → Type 0 = λ o. WhereTold told o (Ran start old now script so_far (Err (stop.Script fault))) in
    subst P (sym (err_is c.from_residual.result (stop.Script fault) c.from_residual.ensures.1))
    (subst Q (sym c.in_err-count.ensures.same)
    (told_as told (g.F.Files.told c.pieces.files) (ReadTo start old now script c.pieces.at c.pieces.open_line so_far) (Ran start old now script so_far (Err (stop.Script fault)))
    (λ store store_now is so. ran_unread start so_far old now script c.pieces.open_line c.pieces.at fault store store_now so) c.pieces.invariant.read))

pub returns-in_err-answer_piece-clause-outcome : goal.returns-in_err-answer_piece-clause-outcome
returns-in_err-answer_piece-clause-outcome g c =
    let told = g.F.Files.told c.args.files.now in
    let later = g.F.Files.told c.read_at.new.self in
    let told_now = g.F.Files.told c.answer_piece.new.files in
    let start = g.K.Sink.so_far c.args.out.now in
    let so_far = g.K.Sink.so_far c.pieces.out in
    let after = g.K.Sink.so_far c.answer_piece.new.out in
    let old = c.args.session.now in
    let now = c.pieces.session in
    let next = c.answer_piece.new.session in
    let script = c.args.script.now in
    let into = c.read_at.new.into in
    let why : Stop = c.in_err-answer_piece.field-0.0 in
    let P : Result (Unit {0}) Stop → Type 0 = λ did. WhereTold told told_now (Ran start old next script after did) in
    subst P (sym (err_is c.from_residual-in_err-answer_piece.result why c.from_residual-in_err-answer_piece.ensures.1))
    (told_on told later told_now (λ x y. ReadTo start old now script c.pieces.at c.pieces.open_line so_far x y × Gives (y script) c.pieces.at into c.in_ok-count.count)
    (λ y z. PieceRun now y next z c.pieces.open_line c.answer_piece.new.open_line _ so_far after (Err why)) (Ran start old next script after (Err why))
    (λ x y z so ran. ran_piece old script c.requires.script start so_far after now next into _ c.pieces.open_line c.answer_piece.new.open_line c.pieces.at c.in_ok-count.count c.min-taken.result (omega arith)
    (take-append-le c.min-taken.result into _ (omega (arith, c.in_ok-count.ensures.bound))) why x y z so ran)
    (told_read told (g.F.Files.told c.pieces.files) later script into c.pieces.at c.in_ok-count.count (ReadTo start old now script c.pieces.at c.pieces.open_line so_far) c.in_ok-count.ensures.same c.in_ok-count.ensures.bytes
    c.pieces.invariant.read)
    c.in_err-answer_piece.ensures.answered)

pub returns-then-taken-count-clause-outcome : goal.returns-then-taken-count-clause-outcome
returns-then-taken-count-clause-outcome g c =
    let told = g.F.Files.told c.args.files.now in
    let later = g.F.Files.told c.read_at.new.self in
    let told_now = g.F.Files.told c.answer_piece.new.files in
    let start = g.K.Sink.so_far c.args.out.now in
    let so_far = g.K.Sink.so_far c.pieces.out in
    let after = g.K.Sink.so_far c.answer_piece.new.out in
    let old = c.args.session.now in
    let now = c.pieces.session in
    let next = c.answer_piece.new.session in
    let script = c.args.script.now in
    let into = c.read_at.new.into in
    told_on told later told_now (λ x y. ReadTo start old now script c.pieces.at c.pieces.open_line so_far x y × Gives (y script) c.pieces.at into c.in_ok-count.count)
    (λ y z. PieceRun now y next z c.pieces.open_line c.answer_piece.new.open_line _ so_far after (Ok c.in_ok-answer_piece.field-0)) (Ran start old next script after (Err stop.TooLong))
    (λ x y z so ran. ran_too_long old script c.requires.script start so_far after now next into _ c.pieces.open_line c.answer_piece.new.open_line c.pieces.at c.in_ok-count.count c.min-taken.result c.if-taken-count.true
    (omega (arith, c.min-taken.ensures, c.if-taken-count.true, c.pieces.invariant.low)) (take-append-le c.min-taken.result into _ (omega (arith, c.in_ok-count.ensures.bound))) c.in_ok-answer_piece.field-0 x y z so ran)
    (told_read told (g.F.Files.told c.pieces.files) later script into c.pieces.at c.in_ok-count.count (ReadTo start old now script c.pieces.at c.pieces.open_line so_far) c.in_ok-count.ensures.same c.in_ok-count.ensures.bytes
    c.pieces.invariant.read)
    c.in_ok-answer_piece.ensures.answered

pub pieces-preserved : goal.pieces-preserved
pieces-preserved g c =
    let told = g.F.Files.told c.args.files.now in
    let later = g.F.Files.told c.read_at.new.self in
    let told_now = g.F.Files.told c.answer_piece.new.files in
    let start = g.K.Sink.so_far c.args.out.now in
    let so_far = g.K.Sink.so_far c.pieces.out in
    let after = g.K.Sink.so_far c.answer_piece.new.out in
    let old = c.args.session.now in
    let now = c.pieces.session in
    let next = c.answer_piece.new.session in
    let script = c.args.script.now in
    let into = c.read_at.new.into in
    let all : c.min-taken.result ≡ c.in_ok-count.count = omega arith in
    let P : ℕ → Type 0 = λ n. WhereTold told told_now (ReadTo start old next script (c.pieces.at + n) c.answer_piece.new.open_line after) in
    record {
      run = runs_on c.pieces.invariant.run c.answer_piece.ensures.run;
      ended = search rules;
      reads = search rules;
      writes = search rules;
      faults = search rules;
      low = omega arith;
      read = subst P all
          (told_on told later told_now (λ x y. ReadTo start old now script c.pieces.at c.pieces.open_line so_far x y × Gives (y script) c.pieces.at into c.in_ok-count.count)
          (λ y z. PieceRun now y next z c.pieces.open_line c.answer_piece.new.open_line _ so_far after (Ok c.in_ok-answer_piece.field-0)) (ReadTo start old next script (c.pieces.at + c.min-taken.result) c.answer_piece.new.open_line after)
          (λ x y z so ran. piece_read old script c.requires.script start so_far after now next into _ c.pieces.open_line c.answer_piece.new.open_line c.pieces.at c.in_ok-count.count c.min-taken.result (omega arith)
          (take-append-le c.min-taken.result into _ (omega (arith, c.in_ok-count.ensures.bound))) c.in_ok-answer_piece.field-0 x y z so ran)
          (told_read told (g.F.Files.told c.pieces.files) later script into c.pieces.at c.in_ok-count.count (ReadTo start old now script c.pieces.at c.pieces.open_line so_far) c.in_ok-count.ensures.same c.in_ok-count.ensures.bytes
          c.pieces.invariant.read)
          c.in_ok-answer_piece.ensures.answered);
    }

pub returns-clause-outcome : goal.returns-clause-outcome
returns-clause-outcome g c =
    let told = g.F.Files.told c.args.files.now in
    let later = g.F.Files.told c.read_at.new.self in
    let told_now = g.F.Files.told c.answer_last.new.files in
    let start = g.K.Sink.so_far c.args.out.now in
    let so_far = g.K.Sink.so_far c.pieces.out in
    let after = g.K.Sink.so_far c.answer_last.new.out in
    let old = c.args.session.now in
    let now = c.pieces.session in
    let next = c.answer_last.new.session in
    let script = c.args.script.now in
    let into = c.read_at.new.into in
    let kept = c.pieces.open_line in
    told_on told later told_now (ReadAll start old now script kept so_far) (λ y z. EndRun now y next z kept so_far after c.answer_last.result) (Ran start old next script after c.answer_last.result)
    (λ x y z all ran. ran_end start so_far after old now next script kept c.answer_last.result x y z all ran)
    (told_as told later (λ x y. ReadTo start old now script c.pieces.at kept so_far x y × Gives (y script) c.pieces.at into c.in_ok-count.count) (ReadAll start old now script kept so_far)
    (λ x y is so. read_all old script c.requires.script start so_far now into kept c.pieces.at c.in_ok-count.count c.if-count-eq0.true c.pieces.invariant.low x y so)
    (told_read told (g.F.Files.told c.pieces.files) later script into c.pieces.at c.in_ok-count.count (ReadTo start old now script c.pieces.at kept so_far) c.in_ok-count.ensures.same c.in_ok-count.ensures.bytes c.pieces.invariant.read))
    c.answer_last.ensures.answered
