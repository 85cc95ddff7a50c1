use Rattle.std.proofs.Common.{List, ℕ, IfOk, subst, refl}
use Rattle.std.specs.String.{string_bytes}
use Rattle.replay.specs.Sessions.{SessionView, SameRun}
use Rattle.replay.specs.Commands.{Steps}
use Rattle.replay.proofs.Steps.{steps_advance, stepped_run}
use Rattle.replay.proofs.session.Session.answer.Goals as goal

pub returns-else-is_err-clause-step : goal.returns-else-is_err-clause-step
returns-else-is_err-clause-step g c =
    let told = g.F.Files.told c.args.files.now in
    let told_now = g.F.Files.told c.step-answered.new.files in
    let inner : SessionView = record { heap = c.self.inside.heap; script = string_bytes c.self.inside.script; ended = c.self.inside.ended } in
    let new : SessionView = record { heap = c.step-answered.new.heap; script = string_bytes c.self.inside.script; ended = c.self.inside.ended } in
    let run : SameRun c.args.self.now new = stepped_run c.self.view_is c.step-answered.ensures.keeps refl in
    let P : SessionView → Type 0 = λ s. IfOk c.step-answered.result (λ answer. Steps s.heap s.script told c.args.bytes.now answer new.heap told_now) in
    let Q : List ℕ → Type 0 = λ script. IfOk c.step-answered.result (λ answer. Steps inner.heap script told c.args.bytes.now answer new.heap told_now) in
    steps_advance c.args.self.now new told told_now c.args.bytes.now c.step-answered.result run
    (subst P c.self.view_is (subst Q c.as_str.ensures.value c.step-answered.ensures.answer))
